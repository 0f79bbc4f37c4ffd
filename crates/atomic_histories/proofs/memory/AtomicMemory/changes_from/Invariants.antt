use Rattle.std.proofs.Common.{◌≡◌, ◌+◌, ◌-◌, ◌++◌, map, length}
use Rattle.atomic_histories.specs.Held.{ways_from, halt_from}
use Rattle.atomic_histories.specs.Few.{AreFew}
use Rattle.atomic_histories.specs.Judge.{held, limit_of}
use Rattle.atomic_histories.specs.Shown.{shown_unit}
use Rattle.atomic_histories.proofs.memory.AtomicMemory.changes_from.Given as goal

-- with those that are left it is the whole, and none so far halts
abbrev pub invariant-loop-j : goal.invariant-loop-j
invariant-loop-j l = record {
  ways : map shown_unit l.changes.items ++ ways_from (held l.self) l.event (l.from + l.j) (l.count - l.j) ≡ ways_from
      (held l.self) l.event l.from l.count;
  halt : halt_from (limit_of l.self) (held l.self) l.event (l.from + l.j) (l.count - l.j)
      ≡ halt_from (limit_of l.self) (held l.self) l.event l.from l.count;
  few : AreFew (held l.self) l.event l.from (l.from + l.j);
  many : length l.changes.items ≡ l.j;
}
