use Rattle.std.proofs.Common.{ap, sym}
use Rattle.cache_unit.proofs.Views.{not_shown}
use Rattle.cache_unit.proofs.unit.views.is_valid.Goals as goal

pub returns-in-None : goal.returns-in-None
returns-in-None c = sym (ap (λ r. r.valid) (not_shown c.args.registers.now c.args.slot (sym c.in-None.ensures.answer)))
