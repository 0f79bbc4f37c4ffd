use Rattle.std.proofs.Common.{arith}
use Rattle.std.proofs.Math.Seq.{map-set_same}
use Rattle.station_parts.proofs.Looking.{matched_at, as_long, seen_more, seen_all, at_most_more}
use Rattle.station_parts.proofs.inspect.look_answers.Goals as goal

pub look_answer-requires : goal.look_answer-requires
look_answer-requires c = grind (arith, matched_at, as_long)

pub loop-b-preserved : goal.loop-b-preserved
loop-b-preserved c = grind (arith, map-set_same, as_long, at_most_more, seen_more)

pub returns-clause-seen : goal.returns-clause-seen
returns-clause-seen c = grind (arith, as_long, seen_all)
