use Rattle.std.proofs.Common.{arith}
use Rattle.machine_core.specs.AnyMachine.{weight_of}
use Rattle.register_sweeps.proofs.Turns.{pump_turn, no_pump_left}
use Rattle.register_sweeps.proofs.row.run_dry.Goals as goal

pub loop-turn-preserved : goal.loop-turn-preserved
loop-turn-preserved c = (grind (arith, pump_turn), grind arith)

pub returns : goal.returns
unfolding weight_of
returns c = grind (arith, no_pump_left)
