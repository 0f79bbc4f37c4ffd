use Rattle.std.proofs.Common.{◌≡◌, ◌≤◌, ◌++◌, drop, length}
use Rattle.atomic_histories.specs.Followed.{rounds}
use Rattle.atomic_histories.specs.May.{reached_in, is_reach_over}
use Rattle.atomic_histories.specs.Shown.{shown_all, AreIn, Grows}
use Rattle.atomic_histories.proofs.search.reached.Given as goal

-- with the rounds that are left it is the whole
abbrev pub invariant-loop-left : goal.invariant-loop-left
invariant-loop-left l = record {
  reached : shown_all l.stretches.items l.all.items
      ++ reached_in l.asked.loads.now l.asked.moment l.left (shown_all l.stretches.items (drop l.from l.all.items))
      ≡ shown_all l.fn.stretches.items l.pairs
      ++ reached_in l.asked.loads.now l.asked.moment (rounds (shown_all l.fn.stretches.items l.pairs))
      (shown_all l.fn.stretches.items l.pairs);
  over : is_reach_over l.limit l.asked.loads.now l.asked.moment l.left (shown_all l.stretches.items (drop l.from l.all.items))
      ≡ is_reach_over l.limit l.asked.loads.now l.asked.moment (rounds (shown_all l.fn.stretches.items l.pairs))
      (shown_all l.fn.stretches.items l.pairs);
  are_in : AreIn l.stretches.items l.all.items;
  grows : Grows l.fn.stretches.items l.stretches.items;
  most : l.from ≤ length l.all.items;
}

abbrev pub decreases-loop-left : goal.decreases-loop-left
decreases-loop-left l = l.left
