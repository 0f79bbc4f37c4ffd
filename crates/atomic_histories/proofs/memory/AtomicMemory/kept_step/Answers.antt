use Rattle.std.proofs.Common.{None, subst}
use Rattle.atomic_histories.specs.Judge.{held, limit_of}
use Rattle.atomic_histories.specs.Told.{IsToldOf}
use Rattle.atomic_histories.proofs.AtOnce.{taken_open}
use Rattle.atomic_histories.proofs.memory.AtomicMemory.kept_step.Goals as goal

pub returns-clause-ok : goal.returns-clause-ok
returns-clause-ok c =
    taken_open _ _ _ _
    _ c.in_ok-reserve_open.ensures.held c.in_ok-take_units.ensures.ok c.open_or_close.ensures.held

pub returns-clause-told : goal.returns-clause-told
returns-clause-told c =
    subst (λ n. IsToldOf n (held c.args.self.now) c.args.event None) c.in_ok-reserve_open.ensures.limit
    (subst (λ x. IsToldOf (limit_of c.reserve_open.new.self) x c.args.event None) c.in_ok-reserve_open.ensures.held
    c.in_ok-take_units.ensures.told)
