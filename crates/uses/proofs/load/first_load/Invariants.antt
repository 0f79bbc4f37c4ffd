use Rattle.std.proofs.Common.{◌≡◌}
use Rattle.machine_core.specs.Machine.{flat_of}
use Rattle.machine_core.specs.Pump.{weight}
use Rattle.uses.proofs.Owing.{owing}
use Rattle.uses.proofs.load.first_load.Given as goal

abbrev pub invariant-pumps : goal.invariant-pumps
invariant-pumps l = flat_of l.machine.sizes l.machine.machine ≡ owing l.image l.at

abbrev pub decreases-pumps : goal.decreases-pumps
decreases-pumps l = weight l.machine.machine
