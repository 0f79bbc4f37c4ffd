use Rattle.std.proofs.Common.{arith}
use Rattle.std.proofs.lemmas.List.{with_items_is}
use Rattle.atomic_histories.proofs.Loops.{dropped}
use Rattle.atomic_histories.proofs.kept.KeptUnit.drop_past.Goals as goal

pub returns : goal.returns
returns c = grind (arith, c.args.self.now, c.clear.new.self.items, with_items_is, dropped, c.as_mut_slice.ensures.value)
