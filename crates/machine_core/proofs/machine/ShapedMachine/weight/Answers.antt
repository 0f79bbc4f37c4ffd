use Rattle.std.proofs.Common.{◌≡◌, ◌+◌, ◌*◌, sym, arith}
use Rattle.machine_core.specs.Pump.{weight}
use Rattle.machine_core.specs.Whole.{machine_of}
use Rattle.machine_core.proofs.Whole.{is_served}
use Rattle.machine_core.proofs.machine.ShapedMachine.weight.Goals as goal

pub returns-clause-within : goal.returns-clause-within
returns-clause-within c =
    let is : c.weight_of_banks.result + (2 * c.from.result + c.from-2.result + 2 * c.from-3.result) + c.weight_of_registers.result
    ≡ weight (machine_of c.self.inside.unit c.self.inside.banks) = grind arith in
    let few = is_served c.self.invariant in
    rw (← c.self.view_is) (rw (sym is) at few.few)

pub returns-clause-served : goal.returns-clause-served
returns-clause-served c = rw (← c.self.view_is) (is_served c.self.invariant)

pub returns-clause-whole : goal.returns-clause-whole
returns-clause-whole c =
    let whole = c.self.invariant in
    rw (← c.self.view_is) (record { in_range = whole.in_range; sound = whole.sound })
