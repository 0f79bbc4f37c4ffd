use Rattle.std.proofs.Common.{arith, sym, ◌∙◌, ap, refl}
use Rattle.std.proofs.lemmas.List.{append_assoc}
use Rattle.std.proofs.lemmas.Option.{slice_get-get_or}
use Rattle.flat_model.specs.Words.{zero_word, no_lanes}
use Rattle.cache_law.proofs.Keeps.{answered_more}
use Rattle.cache_unit.proofs.unit.answer_all.Goals.{in-Some, in_default}
use Rattle.cache_unit.proofs.unit.answer_all.Goals as goal

pub loop-k-preserved : goal.loop-k-preserved
loop-k-preserved c = elim c.match-get.branch [
  | in-Some w ↦ (
      ap (λ r. r.items) w.ready-is ∙ w.push.ensures.items ∙ rw (
        w.merge.ensures,
        c.loop-k.invariant,
        (answered_more c.args.word _
            c.loop-k.k w.in-Some.owed (sym c.get.ensures ∙ w.in-Some.is)),
        append_assoc,
      ) refl)
  | in_default w ↦ absurd (w.in_default.not-Some _
      (c.get.ensures ∙ slice_get-get_or _ c.loop-k.k (record { tag = 0; held = zero_word; lanes = no_lanes })
      (omega (arith, c.len-k-end.ensures))))
]
