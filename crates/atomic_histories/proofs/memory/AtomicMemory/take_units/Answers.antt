use Rattle.std.proofs.Common.{subst}
use Rattle.std.specs.Result.{result_err}
use Rattle.atomic_histories.specs.AtOnce.{AreTakenOrSame}
use Rattle.atomic_histories.specs.Judge.{held, limit_of}
use Rattle.atomic_histories.specs.Told.{IsToldOf}
use Rattle.atomic_histories.proofs.memory.AtomicMemory.take_units.Goals as goal

pub returns-then-is_taken-clause-told : goal.returns-then-is_taken-clause-told
returns-then-is_taken-clause-told c = (c.requires, c.in_ok-is_taken.ensures.told c.if-is_taken.true)

pub returns-clause-told : goal.returns-clause-told
returns-clause-told c =
    let h = held c.args.self.now in
    let next = held c.takes_at_once.new.self in
    let told = result_err _ in
    let same = subst (AreTakenOrSame h c.args.event next) c.if-is_taken.false c.in_ok-is_taken.ensures.ok in
    subst (λ n. IsToldOf n h c.args.event told) c.takes_at_once.ensures.limit
    (subst (λ x. IsToldOf (limit_of c.takes_at_once.new.self) x c.args.event told) same c.take_by_search.ensures.told)
