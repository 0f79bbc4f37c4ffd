-- What an `Explainer` shows, and what the faults of a line say.
use Rattle.std.specs.Prelude.{ℕ, ◌≡◌, ◌<◌, ◌+◌, None}
use Rattle.flat_model.specs.declared.Event.{Event}
use Rattle.flat_model.specs.declared.Event.TheVariants.{Store}
use Rattle.flat_model.specs.declared.Answer.{Answer}
use Rattle.flat_model.specs.declared.Answer.TheVariants.{Accepted}
use Rattle.flat_model.specs.Flat.{flat_step}
use Rattle.flat_model.specs.Memory as memory
use Rattle.run_reasons.specs.Pasts.{kept}
use Rattle.run_reasons.specs.Origins.{Origins}
use Rattle.run_reasons.specs.TagSlots.{uses_in, since_in}
use Rattle.run_reasons.specs.Reasons.{mismatch_at}
use Rattle.run_reasons.specs.declared.explainer.Explainer.{Explainer}
use Rattle.run_reasons.specs.declared.explainer.ReadFault.{ReadFault}
use Rattle.run_reasons.specs.declared.explainer.ReadFault.TheVariants.{Mismatch, OutOfMemory}

-- the origins that it keeps
unfoldable pub shown : Explainer → Origins
shown e = record {
  flat = memory.shown e.flat;
  stores = e.stores.items;
  tags = uses_in e.tags.slots.items;
  since = since_in e.tags.left.items e.tags.slots.items;
  past = kept e.past;
}

-- how many values more are overwritten after a line, at most
abbrev pub more_overwritten : Event → Answer → ℕ
more_overwritten (Store at word lanes) Accepted = 4
more_overwritten event answer = 0

-- how many words are left after a line for which loads wait, at most
abbrev pub more_left : Event → Answer → ℕ
more_left (Store at word lanes) Accepted = 1
more_left event answer = 0

-- what each fault says of a line: its pair isn't listed, for this reason, or a load was owed a word, or a store overwrote one
abbrev pub ReadFaultIs : Origins → ℕ → Event → Answer → ReadFault → Type 0
ReadFaultIs o n event answer (Mismatch m) = (flat_step o.flat event answer ≡ None) × (m ≡ mismatch_at o n event answer)
ReadFaultIs o n event answer OutOfMemory = 0 < memory.more_owed event answer + more_overwritten event answer
