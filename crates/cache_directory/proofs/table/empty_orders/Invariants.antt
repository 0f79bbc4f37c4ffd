use Rattle.std.proofs.Common.{◌≡◌, replicate, [], ℕ, List}
use Rattle.cache_directory.proofs.table.empty_orders.Given as goal

abbrev pub invariant-loop : goal.invariant-loop
invariant-loop l = l.orders.items ≡ replicate {A = List ℕ} l.counter []
