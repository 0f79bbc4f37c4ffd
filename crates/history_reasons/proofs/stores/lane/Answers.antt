use Rattle.std.proofs.Common.{arith}
use Rattle.history_reasons.proofs.StoreLemmas.{enabled_lane, no_lane}
use Rattle.history_reasons.proofs.stores.lane.Goals as goal

pub returns-then-place-bytes : goal.returns-then-place-bytes
returns-then-place-bytes c = grind (arith, enabled_lane)

pub returns-else-place-bytes : goal.returns-else-place-bytes
returns-else-place-bytes c = grind (arith, no_lane)
