use Rattle.cache_law.specs.Steps.{drain_step}
use Rattle.machine_core.proofs.Whole.{joins}
use Rattle.machine_core.proofs.step.drain.Goals as goal

pub returns : goal.returns
returns c =
    let unit = c.args.unit.now in
    joins (λ room. drain_step unit.sizes room unit.cache) unit _ _ _ _ c.requires c.drain.ensures
