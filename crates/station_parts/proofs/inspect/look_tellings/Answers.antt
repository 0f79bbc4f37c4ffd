use Rattle.std.proofs.Common.{arith}
use Rattle.std.proofs.Math.Seq.{map-set_same}
use Rattle.station_parts.proofs.Looking.{matched_at, as_long, seen_more, seen_all, at_most_more}
use Rattle.station_parts.proofs.inspect.look_tellings.Goals as goal

pub look_telling-requires : goal.look_telling-requires
look_telling-requires c = grind (arith, matched_at, as_long)

pub loop-p-preserved : goal.loop-p-preserved
loop-p-preserved c = grind (arith, map-set_same, as_long, at_most_more, seen_more)

pub returns-clause-seen : goal.returns-clause-seen
returns-clause-seen c = grind (arith, as_long, seen_all)
