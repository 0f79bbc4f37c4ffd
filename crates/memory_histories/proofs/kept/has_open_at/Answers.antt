use Rattle.std.proofs.Common.{drop-cons, arith}
use Rattle.memory_histories.proofs.Pieces.{any_open}
use Rattle.memory_histories.proofs.Lists.{list_any-filter}
use Rattle.memory_histories.specs.Parts.{has_lane, is_open_part}
use Rattle.memory_histories.proofs.kept.has_open_at.Goals as goal

pub returns-in-Some : goal.returns-in-Some
returns-in-Some c = grind (arith, any_open, list_any-filter (is_open_part c.args.number) has_lane c.args.stores.now, drop-cons)
