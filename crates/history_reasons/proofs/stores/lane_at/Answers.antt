use Rattle.std.proofs.Common.{arith}
use Rattle.memory_histories.proofs.Lanes.{lane_before}
use Rattle.history_reasons.proofs.StoreLemmas.{lane_behind}
use Rattle.history_reasons.proofs.stores.lane_at.Goals as goal

pub returns-then-store-address-2 : goal.returns-then-store-address-2
returns-then-store-address-2 c = grind (arith, lane_behind)

pub returns-else-store-address : goal.returns-else-store-address
returns-else-store-address c = grind (arith, lane_before)
