use Rattle.std.proofs.Common.{◌∙◌, ap}
use Rattle.machine_core.specs.Machine.{opening}
use Rattle.register_sweeps.proofs.machines.new_machine.Goals as goal

pub returns-in-Ok-clause-machine : goal.returns-in-Ok-clause-machine
returns-in-Ok-clause-machine c =
    let z = c.args.sizes.now in
    let memory = c.as_slice.ensures.value ∙ c.in_ok-memory.ensures.memory in
    c.in-Ok.ensures.ok ∙ ap (λ words. record { sizes = z; machine = opening z words }) memory
