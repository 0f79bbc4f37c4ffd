use Rattle.atomic_histories.proofs.Returns.{may_law}
use Rattle.atomic_histories.proofs.memory.AtomicMemory.may_return.Goals as goal

pub returns-clause-ok : goal.returns-clause-ok
returns-clause-ok c = may_law _ (λ v. v.items) _ _ c.kept_sets.ensures.ok
