use Rattle.std.proofs.Common.{take, nat_eq}
use Rattle.std.specs.HashMap.{get}
use Rattle.std.specs.List.{All}
use Rattle.memory_histories.specs.Parts.{parts_bytes}
use Rattle.memory_histories.specs.Shown.{answered_in, IsAfter, HasUnit}
use Rattle.memory_histories.proofs.answered.changes.Given as goal

-- the changes so far are right, and are those of the parts so far
abbrev pub invariant-loop-part : goal.invariant-loop-part
invariant-loop-part l = record {
  after : All (IsAfter l.moment (parts_bytes l.ending) (answered_in (get nat_eq l.units))) l.changes.items;
  whole : All (HasUnit l.changes.items) (take l.part-index l.ending);
}
