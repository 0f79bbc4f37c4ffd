use Rattle.std.proofs.Common.{arith}
use Rattle.memory_histories.specs.Shown.{kept}
use Rattle.memory_histories.proofs.Stands.{accepted_law, refused_law}
use Rattle.memory_histories.proofs.regular.RegularMemory.step.Goals as goal

pub returns-clause-ok : goal.returns-clause-ok
returns-clause-ok c = grind (arith, accepted_law)

pub returns-clause-fault : goal.returns-clause-fault
returns-clause-fault c = grind (arith, refused_law c.kept_step.result (kept c.args.self.now) c.args.event)
