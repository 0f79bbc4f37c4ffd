use Rattle.std.proofs.Common.{◌≡◌}
use Rattle.station_parts.specs.Ids.{bank_id, cache_id}
use Rattle.station_examples.proofs.chain.run_memory.Given as goal

abbrev pub invariant-loop : goal.invariant-loop
invariant-loop l = record {
  cache : cache_id l.cache ≡ cache_id l.fn.cache;
  bank : bank_id l.bank ≡ bank_id l.fn.bank;
}
