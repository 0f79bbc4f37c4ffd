use Rattle.atomic_histories.proofs.Verdict.{first_law}
use Rattle.atomic_histories.proofs.Ranges.{sized}
use Rattle.atomic_histories.proofs.memory.AtomicMemory.new.Goals as goal

pub returns-clause-stands : goal.returns-clause-stands
returns-clause-stands c =
    first_law _ _ _ _ (sized c.args.size) c.untouched.ensures.held
