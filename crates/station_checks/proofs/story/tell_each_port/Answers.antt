use Rattle.std.proofs.Common.{arith}
use Rattle.station_checks.proofs.Telling.{port_more}
use Rattle.station_checks.proofs.story.tell_each_port.Goals as goal

pub loop-port-preserved : goal.loop-port-preserved
loop-port-preserved g c = grind (arith, port_more)
