use Rattle.std.proofs.Common.{Some}
use Rattle.atomic_histories.specs.May.{AreSetsFrom, AreNarrow}
use Rattle.atomic_histories.specs.Judge.{held, limit_of}
use Rattle.atomic_histories.proofs.memory.AtomicMemory.sets_from.Given as goal

-- the sets of the bytes so far, for none of which too many pairs were reached
abbrev pub invariant-loop-i : goal.invariant-loop-i
invariant-loop-i l = record {
  sets : AreSetsFrom (held l.self) (Some l.load) l.number l.address 0 l.i l.sets.items;
  narrow : AreNarrow (limit_of l.self) (held l.self) l.number l.address l.i;
}
