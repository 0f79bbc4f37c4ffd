-- What the explanation of a recorded run says of a late value: that the run up to that line is atomic as a history.
use Rattle.std.specs.Prelude.{ℕ, ◌≡◌, Bool, true, false, List, [], ◌∷◌, ◌++◌}
use Rattle.memory_histories.specs.declared.events.HistoryEvent.{HistoryEvent}
use Rattle.memory_histories.specs.declared.events.Rest.TheVariants.{Zeros}
use Rattle.machine_core.specs.Words.{Word}
use Rattle.trace_text.specs.Checks.{events_in, answers_in}
use Rattle.run_reasons.specs.declared.reason.Reason.{Reason}
use Rattle.run_reasons.specs.declared.reason.Reason.TheVariants.{WrongWord}
use Rattle.run_reasons.specs.declared.reason.Mismatch.{Mismatch}
use Rattle.run_reasons.specs.Runs.{IsFlat, IsMismatch}
use Rattle.atomic_histories.specs.Law.{IsAtomic}
use Rattle.history_laws.specs.Told.{image_bytes, told_history, IsAddressable}

-- it is told that the whole word that came stood there at some moment since its load was accepted
abbrev pub has_stood_since : Reason → Bool
has_stood_since (WrongWord w) = w.stood_since
has_stood_since reason = false

-- these lines and the mismatch behind them, told as a history
abbrev pub history_of : List (List ℕ) → Mismatch → List HistoryEvent
history_of texts m = told_history (events_in texts ++ m.event ∷ []) (answers_in texts ++ m.answer ∷ [])

-- where that is told of a mismatch, that history is atomic, in units of any size
abbrev pub ToldLateIsAtomic : List Word → ℕ → List (List ℕ) → ℕ → List ℕ → Mismatch → Type 0
ToldLateIsAtomic words size texts steps found m =
    IsAddressable words → IsFlat words texts steps → IsMismatch words texts found m → has_stood_since m.reason ≡ true
    → IsAtomic (image_bytes words) Zeros size (history_of texts m)
