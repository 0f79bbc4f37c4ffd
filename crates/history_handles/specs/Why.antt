-- Why an answer is wrong, as C is told of it.
use Rattle.std.specs.Prelude.{ℕ, ◌≡◌, ◌<◌, Bool, if◌then◌else◌, List, Option, Some, None}
use Rattle.memory_histories.specs.declared.events.HistoryFault.TheVariants.{WrongByte}
use Rattle.memory_histories.specs.declared.events.HistoryEvent.{HistoryEvent}
use Rattle.history_reasons.specs.declared.Reason.{Reason}
use Rattle.history_reasons.specs.declared.Reason.TheVariants.{NeverThere, InitialOverwritten, StoreOverwritten}
use Rattle.history_reasons.specs.declared.units.FoundReason.{FoundReason}
use Rattle.history_sessions.specs.declared.faults.JudgeFault.{JudgeFault}
use Rattle.history_sessions.specs.declared.faults.JudgeFault.TheVariants.{Refused}
use Rattle.history_sessions.specs.Events.{plain}
use Rattle.history_sessions.specs.Kept.{IsFound}
use Rattle.history_sessions.specs.Reasons.{reason_for, is_together}
use Rattle.history_sessions.specs.Session.{Session}
use Rattle.history_handles.specs.declared.rows.ReasonRow.{ReasonRow}
use Rattle.history_handles.specs.declared.handle.HistoryHandle.{HistoryHandle}
use Rattle.history_handles.specs.Behind.{judge_behind}
use Rattle.history_handles.specs.Status.{said_number}

-- a byte's reason as a row: of a store that there is none of, number and event are 0
abbrev pub byte_row : ℕ → ℕ → Reason → ReasonRow
byte_row wrong place NeverThere =
    record { wrong_place = wrong; place = place; stored = 0; stored_at = 0; overwritten_by = 0; overwritten_at = 0; reason = 161 }
byte_row wrong place (InitialOverwritten by) =
    record {
      wrong_place = wrong;
      place = place;
      stored = 0;
      stored_at = 0;
      overwritten_by = by.number;
      overwritten_at = by.began;
      reason = 162;
    }
byte_row wrong place (StoreOverwritten s by) =
    record {
      wrong_place = wrong;
      place = place;
      stored = s.number;
      stored_at = s.began;
      overwritten_by = by.number;
      overwritten_at = by.began;
      reason = 163;
    }

-- the row of the byte for which there is a reason; and else, of the first wrong byte, that it is wrong together with others of its unit
-- alone, or nothing
abbrev pub reason_row : ℕ → Bool → Option FoundReason → ReasonRow
reason_row place together (Some found) = byte_row place found.place found.reason
reason_row place together None = record {
  wrong_place = place;
  place = place;
  stored = 0;
  stored_at = 0;
  overwritten_by = 0;
  overwritten_at = 0;
  reason = if together then 164 else 160;
}

-- the place of the byte that is wrong, if one is
abbrev pub place_of : Option JudgeFault → ℕ
place_of (Some (Refused (WrongByte place))) = place
place_of found = 0

-- what C is told: the row of a byte that is wrong, and else the number of why not
abbrev pub IsRowTold : ℕ → ReasonRow → ReasonRow → Bool → Option FoundReason → Option JudgeFault → Type 0
IsRowTold status row row' together reason (Some (Refused (WrongByte place))) = (status ≡ 156) × (row' ≡ reason_row place together reason)
IsRowTold status row row' together reason found = (status ≡ said_number found) × (row' ≡ row)

pub record IsWhyAnswered (status : ℕ) (h : HistoryHandle) (row : ReasonRow) (row' : ReasonRow) (s : Session) (number : ℕ)
    (bytes : List ℕ) (event : HistoryEvent) : Type 0 where
  pub found : Option JudgeFault
  pub together : Bool
  pub reason : Option FoundReason
  pub law : IsFound (judge_behind h) s.history event found
  pub whole : s.seen.moment < 18446744073709551616 → together ≡ is_together s
  pub why : s.seen.moment < 18446744073709551616 → reason ≡ reason_for s number bytes (place_of found)
  pub told : IsRowTold status row row' together reason found

abbrev pub IsWhyTold : ℕ → HistoryHandle → ReasonRow → ReasonRow → Option Session → ℕ → List ℕ → HistoryEvent → Type 0
IsWhyTold status h row row' None number bytes event = (status ≡ 100) × (row' ≡ row)
IsWhyTold status h row row' (Some s) number bytes event = IsWhyAnswered status h row row' s number bytes (plain event)
