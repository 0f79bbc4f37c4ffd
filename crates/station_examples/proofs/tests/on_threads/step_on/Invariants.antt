use Rattle.std.proofs.Common.{◌≡◌}
use Rattle.station_parts.specs.Ids.{cache_id}
use Rattle.station_examples.proofs.tests.on_threads.step_on.Given as goal

abbrev pub invariant-loop-source : goal.invariant-loop-source
invariant-loop-source l = cache_id l.cache ≡ cache_id l.fn.cache
