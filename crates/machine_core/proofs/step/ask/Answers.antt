use Rattle.cache_law.specs.Steps.{request_step}
use Rattle.machine_core.proofs.Whole.{joins}
use Rattle.machine_core.proofs.step.ask.Goals as goal

pub returns : goal.returns
returns c =
    let unit = c.args.unit.now in
    joins (λ room. request_step unit.sizes room unit.cache c.args.request) unit _ _ _ _ c.requires c.request.ensures
