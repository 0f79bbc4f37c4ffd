-- What a call has made, from what its parts show.
use Rattle.std.proofs.Common.{◌≡◌, ℕ, ◌<◌, ◌≤◌, Bool, [], ◌∷◌, length, refl, ap, arith, List, get_or, nat_le}
use Rattle.std.specs.List.{remove}
use Rattle.memory_banks.specs.declared.Command.{Command}
use Rattle.memory_banks.specs.Banks.{HasSent}
use Rattle.cache_law.specs.declared.Sizes.{Sizes}
use Rattle.cache_law.specs.State.{Cache, UnitState}
use Rattle.cache_law.specs.Steps.{take_step, take_reply, Stepped, unless, moved, arrived, arrive_step}
use Rattle.std.proofs.lemmas.Option.{slice_get-get_or, slice_get_past}
use Rattle.cache_law.specs.Sound.{IsSound}
use Rattle.flat_model.specs.declared.Answer.TheVariants.{Value, Nothing, Refused}
use Rattle.cache_law.specs.declared.Reply.{Reply}
use Rattle.flat_model.specs.declared.Cause.{Cause}
use Rattle.flat_model.specs.declared.Answer.{Answer}
use Rattle.cache_unit.specs.declared.unit.ShapedUnit.TheInside.{Inside}
use Rattle.cache_unit.specs.View.{unit_shown, IsSoundUnit}
use Rattle.cache_unit.specs.Makes.{Makes, MakesOver}
use Rattle.cache_law.proofs.Requesting.{refused}
use Rattle.cache_unit.proofs.BlockReads.{HasSent-none}
use Rattle.flat_model.specs.declared.Word.{Word}
use Rattle.cache_law.specs.Causes.{first_cause, is_stray, arrive_cause}
use Rattle.flat_model.specs.declared.Cause.TheVariants.{StrayWord, StackFull}

abbrev pub made : Sizes → Cache → UnitState
made z c = record { sizes = z; cache = c }

pub taken : (c : Cache) (k : ℕ) (r : Reply) → k < length c.ready → r ≡ get_or c.ready k r
    → take_step c k ≡ record { answer = Value r.tag r.word; cache = record c { ready = remove c.ready k }; sent = [] }
unfolding take_step
taken c k r l e = grind (arith, slice_get-get_or)

pub none_taken : (c : Cache) (k : ℕ) → length c.ready ≤ k → take_step c k ≡ record { answer = Nothing; cache = c; sent = [] }
unfolding take_step
none_taken c k l = ap (take_reply c k) (slice_get_past _ k l)

pub sound_of : (s : Inside) → IsSoundUnit s → (u : UnitState) → unit_shown s ≡ u → IsSound u.sizes u.cache
sound_of s h u shows = rw (← shows) h.sound

-- the unit whose parts then show the cache after the step
pub makes : (z : Sizes) (c : Cache) → IsSound z c → (step : Stepped) (a : Answer) (after : Cache) (sent : List (ℕ × Command))
    → step ≡ record { answer = a; cache = after; sent = sent } → (shown : Cache) → shown ≡ after → Makes step (made z c) a (made z shown)
makes z c h step a after sent is shown e = record {
  sound = h;
  answer = cc is;
  unit = cc (e, is);
}

module _ {L : Type 0} (sent_to : L → ℕ → List Command) (room_of : L → ℕ → ℕ) (same : L → L → Type 0) (u : UnitState) (lines : L)
    (sound : IsSound u.sizes u.cache) (step : Stepped) where
  -- the step is this one
  pub steps : (t : Stepped) → step ≡ t → (v : UnitState) (after : L) → v ≡ record u { cache = t.cache }
      → HasSent sent_to room_of same lines after t.sent → MakesOver sent_to room_of same step u lines t.answer v after
  steps t is v after unit sent = rw is (record { made = record { sound = sound; answer = refl; unit = unit }; lines = sent })

  -- a refusal, which leaves the unit and the lines as they were
  pub refuses : same lines lines → (cause : Cause) → step ≡ refused cause u.cache → (v : UnitState) (after : L) → v ≡ u → after ≡ lines
      → MakesOver sent_to room_of same step u lines (Refused cause) v after
  refuses none cause is v after unit kept = steps _ is v after unit (rw kept (HasSent-none sent_to room_of same lines none))

pub arrive_by : (z : Sizes) (c : Cache) (s i : ℕ) (word : Word) (a b : Bool) → is_stray z c s i ≡ a → nat_le z.depth (length c.stack) ≡ b
    → arrive_step z c s i word ≡ unless (first_cause ((a, StrayWord) ∷ (b, StackFull) ∷ [])) c (moved (arrived c s i word))
unfolding arrive_step arrive_cause
arrive_by z c s i word a b e h = cc (e, h)
