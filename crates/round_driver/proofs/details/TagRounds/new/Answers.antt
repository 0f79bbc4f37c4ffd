use Rattle.std.proofs.Common.{rules}
use Rattle.round_driver.proofs.details.TagRounds.new.Goals as goal

pub returns : goal.returns
returns c = c.in_ok-rounds.ensures.items_if_clones_equal (λ x y. search rules)
