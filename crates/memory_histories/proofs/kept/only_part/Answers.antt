use Rattle.memory_histories.proofs.OnePart.{only_place}
use Rattle.std.proofs.lemmas.List.{take_rest}
use Rattle.std.proofs.Common.{◌-◌, arith}
use Rattle.memory_histories.proofs.kept.only_part.Goals as goal

pub returns-else-has_open_part : goal.returns-else-has_open_part
returns-else-has_open_part c = grind (arith, only_place, take_rest)
