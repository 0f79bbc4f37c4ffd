use Rattle.std.proofs.Common.{[], nat_eq, refl, arith}
use Rattle.std.specs.HashMap.{get}
use Rattle.memory_histories.specs.Kept.{opened_at, settled_at}
use Rattle.memory_histories.specs.Shown.{answered_in}
use Rattle.memory_histories.proofs.Opened.{opened_sets}
use Rattle.memory_histories.proofs.kept.settled_load.Goals as goal

pub returns : goal.returns
returns c =
    let units = answered_in (get nat_eq c.args.memory.2.now) in
    let sets = opened_sets (opened_at c.args.memory.0.now c.args.memory.1 [] units) (settled_at c.args.memory.0.now c.args.memory.1 units)
    (λ l. refl) c.args.number c.args.address c.args.enables c.args.moment c.args.address c.args.length in grind arith
