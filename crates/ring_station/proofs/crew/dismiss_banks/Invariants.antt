use Rattle.std.proofs.Common.{◌≡◌, ◌+◌, ◌++◌, ◌≤◌, map, vec_len, vec_capacity}
use Rattle.std.specs.Vec.Iter.{into_iter_items, into_iter_len}
use Rattle.ring_station.proofs.crew.dismiss_banks.Given as goal

abbrev pub invariant-loop-run : goal.invariant-loop-run
invariant-loop-run l = record {
  can_next : (goal.iterator-loop-run).can_next l.run-iterator;
  is_finite : (goal.iterator-loop-run).is_finite l.run-iterator;
  banks_room : vec_len l.banks + into_iter_len l.run-iterator ≤ vec_capacity l.banks;
  ends_room : vec_len l.ends + into_iter_len l.run-iterator ≤ vec_capacity l.ends;
  banks : l.banks.items ++ map (λ r. r.bank) (into_iter_items l.run-iterator) ≡ map (λ r. r.bank) l.fn.runs.items;
  ends : l.ends.items ++ map (λ r. r.end) (into_iter_items l.run-iterator) ≡ map (λ r. r.end) l.fn.runs.items;
}
