use Rattle.std.proofs.Common.{◌≡◌, ◌++◌, take, drop, map}
use Rattle.history_sessions.specs.Coverage.{noted_beside}
use Rattle.history_sessions.proofs.coverage.note_beside.Given as goal

-- the operations so far are as they are to be, and those that are left are to be noted
abbrev pub invariant-loop-operation : goal.invariant-loop-operation
invariant-loop-operation l =
    take l.operation-index l.open ++ map (noted_beside l.asked) (drop l.operation-index l.open) ≡ map (noted_beside l.asked) l.initial.open
