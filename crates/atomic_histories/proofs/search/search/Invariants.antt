use Rattle.std.proofs.Common.{◌≡◌}
use Rattle.atomic_histories.specs.Followed.{met, found, is_over, needs_more}
use Rattle.atomic_histories.specs.Marks.{IsFollowed}
use Rattle.atomic_histories.specs.Shown.{shown_all, AreIn, Grows, aim_of}
use Rattle.atomic_histories.proofs.search.search.Given as goal

-- with the rounds that are left it is the whole
abbrev pub invariant-loop-left : goal.invariant-loop-left
invariant-loop-left l = record {
  found : met l.asked.loads.now l.asked.moment l.left (aim_of l.wanted) (shown_all l.stretches.items l.out.pairs.items)
      (shown_all l.stretches.items l.frontier.items)
      ≡ found l.asked.loads.now l.asked.moment (aim_of l.wanted) (shown_all l.fn.stretches.items l.fn.found.items)
      (shown_all l.fn.stretches.items l.fn.pairs.items);
  over : is_over l.limit l.asked.loads.now l.asked.moment l.left (aim_of l.wanted) (shown_all l.stretches.items l.out.pairs.items)
      (shown_all l.stretches.items l.frontier.items)
      ≡ needs_more l.limit l.asked.loads.now l.asked.moment (aim_of l.wanted) (shown_all l.fn.stretches.items l.fn.found.items)
      (shown_all l.fn.stretches.items l.fn.pairs.items);
  out_in : AreIn l.stretches.items l.out.pairs.items;
  frontier_in : AreIn l.stretches.items l.frontier.items;
  grows : Grows l.fn.stretches.items l.stretches.items;
  followed : IsFollowed l.out;
}

abbrev pub decreases-loop-left : goal.decreases-loop-left
decreases-loop-left l = l.left
