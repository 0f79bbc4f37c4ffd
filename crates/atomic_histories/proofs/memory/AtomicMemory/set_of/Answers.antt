use Rattle.std.proofs.Common.{◌∙◌, ap, if◌then◌else◌}
use Rattle.memory_histories.specs.Sets.{has, all_bytes}
use Rattle.atomic_histories.specs.Judge.{held}
use Rattle.atomic_histories.proofs.MaySteps.{asked_is}
use Rattle.atomic_histories.proofs.memory.AtomicMemory.set_of.Goals as goal

pub returns-clause-set : goal.returns-clause-set
returns-clause-set c = λ b l.
    ap (λ set. has set b) (c.asked_set.ensures ∙ ap (λ t. if t then all_bytes else c.in_ok-set.set) c.skips.ensures)
    ∙ asked_is (held c.args.self.now) c.args.load c.args.number c.args.address c.in_ok-set.set c.in_ok-set.ensures.set b l
