use Rattle.std.proofs.Common.{arith}
use Rattle.station_checks.proofs.Telling.{ask_more, fewer_left}
use Rattle.station_checks.proofs.story.tell_asks.Goals as goal

pub loop-ask-preserved : goal.loop-ask-preserved
loop-ask-preserved g c = grind (arith, ask_more, fewer_left)
