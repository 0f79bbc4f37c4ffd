use Rattle.std.proofs.Common.{◌≡◌}
use Rattle.flat_model.specs.Images.{words_below}
use Rattle.flat_model.proofs.image.Image.words_below.Given as goal

abbrev pub invariant-loop-at : goal.invariant-loop-at
invariant-loop-at l = l.memory.items ≡ words_below l.self l.at
