-- What is counted of the history behind a handle, and how C is told of it.
use Rattle.std.specs.Prelude.{ℕ, ◌≡◌, Option, Some, None, zero, suc}
use Rattle.std.specs.Option.{option_and_then}
use Rattle.memory_histories.specs.declared.events.HistoryEvent.{HistoryEvent}
use Rattle.history_sessions.specs.Choices.{coverage_of, IsCounted}
use Rattle.history_sessions.specs.Coverage.{Covered, nothing_covered}
use Rattle.history_sessions.specs.Session.{Session}
use Rattle.history_handles.specs.declared.handle.HistoryHandle.{HistoryHandle}
use Rattle.history_handles.specs.declared.history.OpenHistory.{OpenHistory}
use Rattle.history_handles.specs.declared.rows.HistoryCounts.{HistoryCounts}
use Rattle.history_handles.specs.Behind.{behind, judge_behind}
use Rattle.history_handles.specs.Rows.{counts_row}

-- nothing is counted behind a closed handle, nor where it wasn't asked for
abbrev pub coverage_in : Option OpenHistory → Option Covered
coverage_in kept = option_and_then (λ m. coverage_of m.session) kept

abbrev pub coverage_behind : HistoryHandle → Option Covered
coverage_behind h = coverage_in (behind h)

-- an event that was taken, of which C is told by 0, is counted; another one isn't
abbrev pub IsCountedBy : ℕ → HistoryHandle → HistoryHandle → Session → HistoryEvent → Type 0
IsCountedBy zero before h s event = IsCounted (judge_behind before) s.history event (coverage_behind before) (coverage_behind h)
IsCountedBy (suc n) before h s event = coverage_behind h ≡ coverage_behind before

abbrev pub IsEventCounted : ℕ → HistoryHandle → HistoryHandle → Option Session → HistoryEvent → Type 0
IsEventCounted status before h None event = coverage_behind h ≡ coverage_behind before
IsEventCounted status before h (Some s) event = IsCountedBy status before h s event

-- counting begins, anew if it did so before
abbrev pub told_begun : Option OpenHistory → ℕ
told_begun None = 100
told_begun (Some m) = 0

abbrev pub begun_in : Option OpenHistory → Option Covered
begun_in None = None
begun_in (Some m) = Some nothing_covered

-- what was counted: its row before and after
abbrev pub AreCountsIn : ℕ → HistoryCounts → HistoryCounts → Option Covered → Type 0
AreCountsIn status row row' None = (status ≡ 1) × (row' ≡ row)
AreCountsIn status row row' (Some c) = (status ≡ 0) × (row' ≡ counts_row c.counts)

abbrev pub AreCountsTold : ℕ → HistoryCounts → HistoryCounts → Option OpenHistory → Type 0
AreCountsTold status row row' None = (status ≡ 100) × (row' ≡ row)
AreCountsTold status row row' (Some m) = AreCountsIn status row row' (coverage_of m.session)
