use Rattle.std.proofs.Common.{◌≡◌, drop, fold}
use Rattle.atomic_histories.specs.Followed.{next_of, next_after, never}
use Rattle.atomic_histories.specs.Marks.{IsFollowed}
use Rattle.atomic_histories.specs.Shown.{shown_all, AreIn, Grows}
use Rattle.atomic_histories.proofs.search.reach.Given as goal

-- with those that are left it is the whole
abbrev pub invariant-loop-pair : goal.invariant-loop-pair
invariant-loop-pair l = record {
  next : fold (next_of l.asked.loads.now l.asked.moment never) (shown_all l.stretches.items l.next.pairs.items)
      (shown_all l.fn.stretches.items (drop l.pair-index l.pairs))
      ≡ next_after l.asked.loads.now l.asked.moment never (shown_all l.fn.stretches.items l.pairs);
  next_in : AreIn l.stretches.items l.next.pairs.items;
  grows : Grows l.fn.stretches.items l.stretches.items;
  followed : IsFollowed l.next;
}
