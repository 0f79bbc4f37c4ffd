use Rattle.std.proofs.Common.{◌≡◌, ◌+◌, ◌++◌, ◌≤◌, map, vec_len, vec_capacity}
use Rattle.std.specs.List.{All}
use Rattle.std.specs.Vec.Iter.{into_iter_items, into_iter_len}
use Rattle.ring_station.specs.Crew.{HasNotBegun}
use Rattle.ring_station.proofs.crew.enlist_ports.Given as goal

abbrev pub invariant-loop-port : goal.invariant-loop-port
invariant-loop-port l = record {
  can_next : (goal.iterator-loop-port).can_next l.port-iterator;
  is_finite : (goal.iterator-loop-port).is_finite l.port-iterator;
  room : vec_len l.runs + into_iter_len l.port-iterator ≤ vec_capacity l.runs;
  ports : map (λ r. r.port) l.runs.items ++ into_iter_items l.port-iterator ≡ l.fn.ports.items;
  begun : All HasNotBegun l.runs.items;
}
