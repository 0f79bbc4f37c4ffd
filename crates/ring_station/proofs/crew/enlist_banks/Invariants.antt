use Rattle.std.proofs.Common.{◌≡◌, ◌+◌, ◌++◌, ◌≤◌, map, vec_len, vec_capacity}
use Rattle.std.specs.Vec.Iter.{into_iter_items, into_iter_len}
use Rattle.std.specs.List.{All}
use Rattle.ring_station.specs.Ends.{not_begun}
use Rattle.ring_station.proofs.crew.enlist_banks.Given as goal

abbrev pub invariant-loop-bank : goal.invariant-loop-bank
invariant-loop-bank l = record {
  can_next : (goal.iterator-loop-bank).can_next l.bank-iterator;
  is_finite : (goal.iterator-loop-bank).is_finite l.bank-iterator;
  room : vec_len l.runs + into_iter_len l.bank-iterator ≤ vec_capacity l.runs;
  begun : All (λ r. r.end ≡ not_begun) l.runs.items;
  banks : map (λ r. r.bank) l.runs.items ++ into_iter_items l.bank-iterator ≡ l.fn.banks.items;
}
