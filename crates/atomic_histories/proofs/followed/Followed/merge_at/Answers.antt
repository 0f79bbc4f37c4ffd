use Rattle.atomic_histories.specs.declared.followed.TheConstants.{MARKED}
use Rattle.atomic_histories.proofs.Merges.{merged_at, still_followed}
use Rattle.atomic_histories.proofs.followed.Followed.merge_at.Goals as goal

pub returns-clause-pairs : goal.returns-clause-pairs
returns-clause-pairs c = λ e is.
    merged_at _ _ c.in_ok-merged.ensures.grows _
    c.requires.pairs
    _ _ _ c.in_ok-merged.merged _ e c.requires.place c.index.ensures
    c.index_mut.ensures.value c.in_ok-merged.ensures.past is

pub returns-clause-followed : goal.returns-clause-followed
returns-clause-followed c = λ many.
    still_followed _ MARKED _ _ _ c.in_ok-merged.merged
    c.requires.place c.index_mut.ensures.value c.requires.followed many
