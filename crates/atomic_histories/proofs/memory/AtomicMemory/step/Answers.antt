use Rattle.atomic_histories.proofs.Verdict.{accepted_law, refused_law, accepted_but, refused_but, same_kept}
use Rattle.atomic_histories.proofs.memory.AtomicMemory.step.Goals as goal

pub returns-clause-ok : goal.returns-clause-ok
returns-clause-ok c =
    accepted_law _ _ _ _ _ c.kept_step.ensures.told c.kept_step.ensures.ok

pub returns-clause-fault : goal.returns-clause-fault
returns-clause-fault c = refused_law _ _ c.args.event _ c.kept_step.ensures.told

pub returns-clause-ok_but : goal.returns-clause-ok_but
returns-clause-ok_but c =
    accepted_but _ _ _ _ _ c.kept_step.ensures.told c.kept_step.ensures.ok

pub returns-clause-fault_but : goal.returns-clause-fault_but
returns-clause-fault_but c =
    refused_but _ _ c.args.event _ c.kept_step.ensures.told

pub returns-clause-memory : goal.returns-clause-memory
returns-clause-memory c =
    same_kept _ _ _ c.kept_step.ensures.ok c.kept_step.ensures.unchanged (λ t. (t.image, t.rest, t.size))
