use Rattle.std.proofs.Common.{refl}
use Rattle.miss_registers.proofs.slot.Slot.free.Goals as goal

pub returns : goal.returns
returns c = rw c.clear.ensures refl
