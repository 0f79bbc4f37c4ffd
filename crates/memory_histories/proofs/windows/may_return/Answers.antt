use Rattle.std.proofs.Common.{arith}
use Rattle.memory_histories.proofs.Law.{may_return_decides}
use Rattle.memory_histories.proofs.Sound.{explained}
use Rattle.memory_histories.proofs.windows.may_return.Goals as goal

pub returns-clause-law : goal.returns-clause-law
returns-clause-law c = grind (arith, may_return_decides)

pub returns-clause-sound : goal.returns-clause-sound
returns-clause-sound c =
    let d = may_return_decides c.args.image.now c.args.rest c.args.stores.now c.args.load.now c.args.byte in
    λ x. rw c.may_return_byte.ensures (d.1 (explained _ _ _ _ _ x))
