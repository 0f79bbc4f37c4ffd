use Rattle.std.proofs.Common.{◌≡◌, ◌+◌, ◌++◌, ◌≤◌, map, vec_len, vec_capacity}
use Rattle.std.specs.Vec.Iter.{into_iter_items, into_iter_len}
use Rattle.ring_station.proofs.crew.dismiss_ports.Given as goal

abbrev pub invariant-loop-run : goal.invariant-loop-run
invariant-loop-run l = record {
  can_next : (goal.iterator-loop-run).can_next l.run-iterator;
  is_finite : (goal.iterator-loop-run).is_finite l.run-iterator;
  ports_room : vec_len l.ports + into_iter_len l.run-iterator ≤ vec_capacity l.ports;
  lists_room : vec_len l.lists + into_iter_len l.run-iterator ≤ vec_capacity l.lists;
  ends_room : vec_len l.ends + into_iter_len l.run-iterator ≤ vec_capacity l.ends;
  ports : l.ports.items ++ map (λ r. r.port) (into_iter_items l.run-iterator) ≡ map (λ r. r.port) l.fn.runs.items;
  lists : l.lists.items ++ map (λ r. r.list) (into_iter_items l.run-iterator) ≡ map (λ r. r.list) l.fn.runs.items;
  ends : l.ends.items ++ map (λ r. r.end) (into_iter_items l.run-iterator) ≡ map (λ r. r.end) l.fn.runs.items;
}
