use Rattle.std.proofs.lemmas.List.{take_at}
use Rattle.std.proofs.Common.{arith}
use Rattle.memory_histories.proofs.ShownSets.{settled_behind}
use Rattle.memory_histories.proofs.kept.add_piece.Goals as goal

pub returns-clause-items : goal.returns-clause-items
returns-clause-items c = grind (arith, settled_behind, take_at)
