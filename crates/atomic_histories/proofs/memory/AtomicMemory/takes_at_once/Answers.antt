use Rattle.std.proofs.Common.{◌/◌, nat_eq, IfOk, ap, ap₂, subst, rules, arith}
use Rattle.std.specs.HashMap.{get}
use Rattle.atomic_histories.specs.Followed.{Ways}
use Rattle.atomic_histories.specs.AtOnce.{IsUnitTaken}
use Rattle.atomic_histories.specs.Judge.{held, kept_or}
use Rattle.atomic_histories.proofs.AtOnce.{taken_at, not_halted_at}
use Rattle.atomic_histories.proofs.memory.AtomicMemory.takes_at_once.Goals as goal

pub returns-clause-ok : goal.returns-clause-ok
returns-clause-ok c =
    let h = held c.args.self.now in
    let f = get nat_eq c.args.self.now.units in
    let g = get nat_eq c.take_at.new.units in
    let number = c.covered-address.result.0 / c.bytes.result in
    let here = ap₂ ◌/◌ (ap (λ p. p.0) c.covered-address.ensures) c.bytes.ensures.bytes in
    taken_at _ h.image h.rest h.size h.opened _ f g number here (search (rules, arith))
    (subst (λ p. IfOk c.take_at.result (λ taken. (first : Ways) →
    IsUnitTaken p c.args.event (kept_or (f number) first) (kept_or (g number) first) taken))
    c.place-place.ensures c.take_at.ensures.ok) c.take_at.ensures.same c.take_at.ensures.others

pub returns-clause-err : goal.returns-clause-err
returns-clause-err c = grind arith

pub returns-clause-told : goal.returns-clause-told
returns-clause-told c =
    let h = held c.args.self.now in
    not_halted_at _ _ h.image h.rest h.size h.opened _ _
    (get nat_eq c.take_at.new.units) _ c.place-place.result c.place-place.ensures
    (ap₂ ◌/◌ (ap (λ p. p.0) c.covered-address.ensures) c.bytes.ensures.bytes) (search (rules, arith)) c.take_at.ensures.ok
    c.take_at.ensures.few c.take_at.ensures.words
