use Rattle.std.proofs.Common.{rules, tests}
use Rattle.std.proofs.lemmas.Iterator.{YieldsList-from_slice}
use Rattle.std.proofs.lemmas.Iterator.Search.{position_from_yields_List}
use Rattle.atomic_histories.specs.Followed.{is_same_pair}
use Rattle.atomic_histories.proofs.followed.place_of.Goals as goal

pub returns : goal.returns
returns c =
    λ ss. position_from_yields_List (λ f. is_same_pair _ _) _ _ _ c.position.ensures.ran
    (YieldsList-from_slice _ c.iter.ensures.rest) (λ x b q k. search (rules, tests))
