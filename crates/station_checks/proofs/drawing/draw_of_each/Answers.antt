use Rattle.std.proofs.Common.{arith}
use Rattle.station_checks.proofs.Asking.{each_more}
use Rattle.station_checks.proofs.drawing.draw_of_each.Goals as goal

pub loop-port-preserved : goal.loop-port-preserved
loop-port-preserved c = grind (arith, each_more)
