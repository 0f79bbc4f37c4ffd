use Rattle.std.proofs.Common.{arith, append-nil}
use Rattle.memory_histories.proofs.Lanes.{store_one}
use Rattle.memory_histories.proofs.Pieces.{parts-append}
use Rattle.memory_histories.proofs.kept.add_store.Goals as goal

pub returns-then-address-bytes-le8-clause-stores : goal.returns-then-address-bytes-le8-clause-stores
returns-then-address-bytes-le8-clause-stores c = grind (arith, parts-append, append-nil, store_one)

pub returns-then-address-bytes-le8-clause-loads : goal.returns-then-address-bytes-le8-clause-loads
returns-then-address-bytes-le8-clause-loads c = grind (arith, store_one)
