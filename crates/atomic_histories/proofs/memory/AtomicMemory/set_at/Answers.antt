use Rattle.std.proofs.Common.{◌≡◌, ◌∙◌, ap, nat_eq, ◌/◌, ◌%◌, None, rules}
use Rattle.std.specs.HashMap.{get}
use Rattle.memory_histories.specs.Sets.{has}
use Rattle.atomic_histories.specs.Judge.{bytes_of}
use Rattle.atomic_histories.specs.Law.{unit_at}
use Rattle.atomic_histories.proofs.MaySteps.{untouched_set}
use Rattle.atomic_histories.proofs.memory.AtomicMemory.set_at.Goals as goal

pub returns-in-None-clause-set : goal.returns-in-None-clause-set
returns-in-None-clause-set c =
    let m = c.args.self.now in
    let size = bytes_of m.size in
    let k = c.args.address / size in
    let none : get nat_eq m.units k ≡ None = search rules in
    λ b l. ap (λ set. has set b) c.none.ensures
    ∙ untouched_set (get nat_eq m.units k) m.image.items m.rest (unit_at size k) c.args.number (c.args.address % size) none b l
