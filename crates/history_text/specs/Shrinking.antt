-- What is written of a history that its law refuses: a short one that the law refuses for the same answer.
use Rattle.std.specs.Prelude.{◌≡◌, ◌⊎◌, ℕ, Result, Ok, Err, List, [], ◌∷◌, ◌++◌}
use Rattle.history_sessions.specs.Session.{Session}
use Rattle.trace_text.specs.Reading.{joined_texts}
use Rattle.trace_text.specs.Codes.{line_feed}
use Rattle.trace_text.specs.declared.fault.TraceFault.{TraceFault}
use Rattle.trace_text.specs.declared.fault.TraceFault.TheVariants.{OutOfMemory, Read}
use Rattle.history_text.specs.declared.answers.HistoryEnd.{HistoryEnd}
use Rattle.history_text.specs.declared.answers.HistoryEnd.TheVariants as history
use Rattle.history_text.specs.declared.answers.Refusal.{Refusal}
use Rattle.history_text.specs.declared.answers.RefusalCause.{RefusalCause}
use Rattle.history_text.specs.declared.answers.RefusalCause.TheVariants.{OutOfRange, NoByteEnabled, NumberInUse, NotOpen, WrongLength}
use Rattle.history_text.specs.declared.answers.RefusalCause.TheVariants.{WrongByte, NoMoment}
use Rattle.history_text.specs.declared.shrinking.Wrong.{Wrong}
use Rattle.history_text.specs.declared.shrinking.Wrong.TheVariants as wrong
use Rattle.history_text.specs.Histories.{AreOfLaw, LineEnds, Judges}

-- These bytes are lines of a history of the law, and behind them one that makes it none, of which this is told.
pub record IsRefusedText (start : Session) (bytes : List ℕ) (refusal : Refusal) : Type 0 where
  pub texts : List (List ℕ)
  pub line : List ℕ
  pub behind : List ℕ
  pub split : bytes ≡ joined_texts texts ++ (line ++ line_feed ∷ behind)
  pub of_law : AreOfLaw start texts
  pub ends : LineEnds start texts line (history.Refused refusal)

-- what is wrong, and where; not what else might have been there
abbrev pub what_is_wrong : RefusalCause → Wrong
what_is_wrong (OutOfRange address n) = wrong.Range address n
what_is_wrong NoByteEnabled = wrong.Enables
what_is_wrong NumberInUse = wrong.NumberInUse
what_is_wrong NotOpen = wrong.NotOpen
what_is_wrong (WrongLength requested returned) = wrong.Length requested returned
what_is_wrong (WrongByte address returned allowed sources overwritten) = wrong.Byte address returned
what_is_wrong (NoMoment address overwritten) = wrong.Unit address

-- The same is wrong of the same operation. Their lines may have other numbers.
abbrev pub AreAlike : Refusal → Refusal → Type 0
AreAlike refusal other =
    (refusal.kind ≡ other.kind) × (refusal.number ≡ other.number) × (what_is_wrong refusal.cause ≡ what_is_wrong other.cause)

-- What is written of a history that ends so: a history that the law refuses for the same answer, or nothing.
abbrev pub IsShort : Session → HistoryEnd → List ℕ → Type 0
IsShort start (history.Refused refusal) bytes =
    (again : Refusal) × IsRefusedText start bytes again × AreAlike again refusal
IsShort start end bytes = bytes ≡ []

-- Why nothing is: the history can't be judged, or not be read a second time as it was read first, or memory is missing.
abbrev pub ShrinkFails : {R : Type 0} (gave : R → List ℕ → R → Type 0) (failed : R → R → Type 0) (start : Session) (r r' : R)
    → TraceFault → Type 0
ShrinkFails gave failed start r r' fault =
    Judges gave failed start r r' (Err fault) ⊎ ((fault ≡ OutOfMemory)
    ⊎ ((refusal : Refusal) × Judges gave failed start r r' (Ok (history.Refused refusal)) × (fault ≡ Read)))
