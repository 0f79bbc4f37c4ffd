use Rattle.std.proofs.Common.{◌≡◌, length}
use Rattle.history_sessions.specs.Kept.{IsKept}
use Rattle.history_sessions.specs.Session.{Session}
use Rattle.history_text.specs.Values.{AreSetsFrom}
use Rattle.history_text.proofs.values.sets_of.Given as goal

-- the sets of the bytes before this place
abbrev pub invariant-loop-place : goal.invariant-loop-place
invariant-loop-place l = record {
  count : length l.sets.items ≡ l.place;
  sets : (s : Session) → IsKept l.session s → AreSetsFrom s.history l.load 0 l.sets.items;
}
