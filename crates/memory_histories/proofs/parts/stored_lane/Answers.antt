use Rattle.std.proofs.Common.{◌-◌, arith}
use Rattle.memory_histories.proofs.Lanes.{lane_before, lane_past, lane_stored, length-lanes_of}
use Rattle.memory_histories.proofs.parts.stored_lane.Goals as goal

pub returns-then-address-from : goal.returns-then-address-from
returns-then-address-from c = grind (arith, lane_stored c.args.from c.args.bytes.now c.args.enables (c.args.address - c.args.from))

pub returns-else-from-address : goal.returns-else-from-address
returns-else-from-address c = grind (arith, lane_past, lane_before, length-lanes_of)
