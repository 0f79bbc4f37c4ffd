use Rattle.std.proofs.Common.{arith}
use Rattle.std.proofs.Math.Seq.{map-set_same}
use Rattle.station_parts.proofs.Looking.{matched_at, as_long, seen_more, seen_all, at_most_more}
use Rattle.station_parts.proofs.inspect.look_asks.Goals as goal

pub look_ask-requires : goal.look_ask-requires
look_ask-requires c = grind (arith, matched_at, as_long)

pub loop-p-preserved : goal.loop-p-preserved
loop-p-preserved c = grind (arith, map-set_same, as_long, at_most_more, seen_more)

pub returns-clause-seen : goal.returns-clause-seen
returns-clause-seen c = grind (arith, as_long, seen_all)
