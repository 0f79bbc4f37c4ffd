-- What stands behind a handle.
use Rattle.std.specs.Prelude.{⊤, Option, Some, None, if◌then◌else◌}
use Rattle.history_handles.specs.Mark.{nonzero}
use Rattle.history_sessions.specs.declared.judge.Judge.{Judge}
pub use Rattle.history_sessions.specs.Session.{Session}
use Rattle.history_sessions.specs.Kept.{IsKept, judge_of}
use Rattle.history_handles.specs.declared.history.OpenHistory.{OpenHistory}
use Rattle.history_handles.specs.declared.handle.HistoryHandle.{HistoryHandle}

-- what is kept behind a handle: nothing, where it is closed
abbrev pub behind : HistoryHandle → Option OpenHistory
behind h = if nonzero h.open then Some h.history else None

-- the judge of what is kept behind a handle that is open
abbrev pub judge_behind : HistoryHandle → Judge
judge_behind h = judge_of h.history.session

-- what is kept is of this session, or there is neither
abbrev pub IsKeptOf : Option OpenHistory → Option Session → Type 0
IsKeptOf None None = ⊤
IsKeptOf (Some m) (Some s) = IsKept m.session s
IsKeptOf m s = ⊥

-- this session stands behind a handle; none, where it is closed
abbrev pub IsBehind : HistoryHandle → Option Session → Type 0
IsBehind h session = IsKeptOf (behind h) session
