use Rattle.std.proofs.Common.{arith}
use Rattle.station_checks.proofs.Comparing.{differ, list_at}
use Rattle.station_checks.proofs.checks.are_told.Goals as goal

pub returns-then-ne : goal.returns-then-ne
returns-then-ne c = grind (arith, list_at, differ)

pub loop-port-preserved : goal.loop-port-preserved
loop-port-preserved c = grind (arith, list_at, differ)
