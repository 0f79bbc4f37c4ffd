use Rattle.memory_histories.proofs.OnePart.{only_place}
use Rattle.std.proofs.lemmas.List.{take_rest}
use Rattle.std.proofs.Common.{◌-◌, arith}
use Rattle.memory_histories.proofs.loads.only_load.Goals as goal

pub returns-else-has_load : goal.returns-else-has_load
returns-else-has_load c = grind (arith, only_place, take_rest)
