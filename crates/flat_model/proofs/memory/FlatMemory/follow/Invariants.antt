use Rattle.std.proofs.Common.{◌≤◌, drop}
use Rattle.std.specs.List.{count_by}
use Rattle.std.specs.HashMap.{spare}
use Rattle.flat_model.specs.Memory.{shown, is_load}
use Rattle.flat_model.proofs.Replays.{Follows}
use Rattle.flat_model.proofs.memory.FlatMemory.follow.Given as goal

abbrev pub invariant-loop-place : goal.invariant-loop-place
invariant-loop-place l = Follows (shown l.initial.self) (shown l.self) l.events l.answers l.place ×
    (count_by is_load (drop l.place l.events) ≤ spare l.self.due)
