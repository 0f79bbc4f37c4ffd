use Rattle.std.proofs.Common.{ℕ, ◌<◌, ◌≡◌, false, slice_index}
use Rattle.std.specs.Int.{bit_at}
use Rattle.history_reasons.specs.Units.{address_at}
use Rattle.history_sessions.specs.Choices.{IsTold}
use Rattle.history_sessions.specs.History.{History}
use Rattle.history_sessions.specs.Kept.{IsOf}
use Rattle.history_sessions.proofs.judge.Judge.had_choice.Given as goal

-- none of the enabled bytes so far might have been another
abbrev pub invariant-loop-k : goal.invariant-loop-k
invariant-loop-k l = (h : History) → IsOf l.self h → (k : ℕ) → k < l.k → bit_at l.load.bytes k ≡ 1
    → IsTold l.self h l.number (address_at l.load.address k) (slice_index l.bytes k) false
