use Rattle.std.proofs.lemmas.List.{drop_more, drop_all}
use Rattle.memory_histories.proofs.Pieces.{all_shown_more, none_shown}
use Rattle.std.proofs.Common.{arith}
use Rattle.memory_histories.proofs.loads.show_parts.Goals as goal

pub loop-part-preserved : goal.loop-part-preserved
loop-part-preserved c = grind (arith, all_shown_more, drop_more)

pub returns : goal.returns
returns c = grind (arith, none_shown, drop_all)
