-- Whether an answered load had a choice.
use Rattle.std.specs.Prelude.{⊤, ℕ, zero, suc, ◌≡◌, ◌<◌, ◌==◌, ◌&&◌, ◌||◌, not, Bool, true, false, List}
use Rattle.std.specs.Prelude.{length, slice_index, Option, Some, None, Result, Ok, Err}
use Rattle.std.specs.Int.{bit_at}
use Rattle.std.specs.List.{find}
use Rattle.std.specs.Option.{option_map}
use Rattle.memory_histories.specs.declared.events.HistoryEvent.{HistoryEvent}
use Rattle.memory_histories.specs.declared.events.HistoryEvent.TheVariants.{LoadResponse}
use Rattle.memory_histories.specs.declared.sets.ByteSet.{ByteSet}
use Rattle.memory_histories.specs.Sets.{has}
use Rattle.history_reasons.specs.Units.{address_at}
use Rattle.history_sessions.specs.declared.coverage.Coverage.{Coverage}
use Rattle.history_sessions.specs.declared.coverage.WatchedOperation.{WatchedOperation}
use Rattle.history_sessions.specs.declared.faults.JudgeFault.{JudgeFault}
use Rattle.history_sessions.specs.declared.judge.Judge.{Judge}
use Rattle.history_sessions.specs.declared.session.HistorySession.{HistorySession}
use Rattle.history_sessions.specs.Coverage.{Covered, covered_after, is_under, shown, HasRoom}
use Rattle.history_sessions.specs.History.{History}
use Rattle.history_sessions.specs.Kept.{IsSetFound}

-- whether a set has another byte than this, among so many from 0 on
unfoldable pub has_other : ByteSet → ℕ → ℕ → Bool
has_other set b zero = false
has_other set b (suc c) = has_other set b c || (not (c == b) && has set c)

-- whether the bytes that may be returned are more than this one, as they are told. If no set is told there is none but this
abbrev pub has_another : ℕ → Result (Option ByteSet) JudgeFault → Bool
has_another b (Ok (Some set)) = has_other set b 256
has_another b (Ok None) = false
has_another b (Err fault) = false

-- the law tells of the byte at an address, by itself, whether the load that is open under a number may return another than this
pub record IsTold (j : Judge) (h : History) (number : ℕ) (address : ℕ) (b : ℕ) (another : Bool) : Type 0 where
  pub told : Result (Option ByteSet) JudgeFault
  pub law : IsSetFound j h number address told
  pub is : another ≡ has_another b told

-- a load that began at an address, and enables the bytes of a mask, may be answered with these: it had a choice if one that it
-- enables might have been another
abbrev pub HadChoice : Judge → History → ℕ → ℕ → ℕ → List ℕ → Bool → Type 0
HadChoice j h number address mask bytes true =
    (k : ℕ) × (k < length bytes) × (bit_at mask k ≡ 1) × IsTold j h number (address_at address k) (slice_index bytes k) true
HadChoice j h number address mask bytes false =
    (k : ℕ) → k < length bytes → bit_at mask k ≡ 1 → IsTold j h number (address_at address k) (slice_index bytes k) false

-- the load that is open under the number of an answer, if it is one that is counted. No other event has a choice
abbrev pub HadChoiceOf : Judge → History → Option WatchedOperation → ℕ → List ℕ → Bool → Type 0
HadChoiceOf j h None number bytes had_choice = had_choice ≡ false
HadChoiceOf j h (Some o) number bytes had_choice = HadChoice j h number o.address o.bytes bytes had_choice

abbrev pub IsChoice : Judge → History → Covered → HistoryEvent → Bool → Type 0
IsChoice j h c (LoadResponse number bytes) had_choice = HadChoiceOf j h (find (is_under false number) c.open_) number bytes.now had_choice
IsChoice j h c event had_choice = had_choice ≡ false

-- what a session counts: nothing, until it is told to
abbrev pub coverage_of : HistorySession → Option Covered
coverage_of m = option_map shown m.coverage

-- and so it is known of no event whether it had a choice
abbrev pub IsChoiceIfCounted : Judge → History → Option Covered → HistoryEvent → Bool → Type 0
IsChoiceIfCounted j h None event had_choice = ⊤
IsChoiceIfCounted j h (Some c) event had_choice = IsChoice j h c event had_choice

abbrev pub counted_if : Bool → HistoryEvent → Option Covered → Option Covered
counted_if had_choice event coverage = option_map (λ c. covered_after had_choice c event) coverage

-- an event was taken, and is counted if anything is
pub record IsCounted (j : Judge) (h : History) (event : HistoryEvent) (before : Option Covered) (after : Option Covered) : Type 0 where
  pub had_choice : Bool
  pub is_choice : IsChoiceIfCounted j h before event had_choice
  pub counted : after ≡ counted_if had_choice event before

-- there is room to count one more request
abbrev pub HasRoomToCount : Option Coverage → Type 0
HasRoomToCount None = ⊤
HasRoomToCount (Some c) = HasRoom c
