use Rattle.std.proofs.Common.{◌≡◌, drop, fold, length}
use Rattle.atomic_histories.specs.Followed.{out_after, next_of, next_after}
use Rattle.atomic_histories.specs.Marks.{IsFollowed}
use Rattle.atomic_histories.specs.Shown.{shown_all, AreIn, Grows, aim_of}
use Rattle.atomic_histories.proofs.search.round.Given as goal

-- with those that are left it is the whole
abbrev pub invariant-loop-pair : goal.invariant-loop-pair
invariant-loop-pair l = record {
  out : out_after (aim_of l.wanted).goal (shown_all l.stretches.items l.out.pairs.items)
      (shown_all l.fn.stretches.items (drop (length l.yielded) l.fn.pairs.items))
      ≡ out_after (aim_of l.wanted).goal (shown_all l.fn.stretches.items l.fn.out.pairs.items)
      (shown_all l.fn.stretches.items l.fn.pairs.items);
  next : fold (next_of l.asked.loads.now l.asked.moment (aim_of l.wanted)) (shown_all l.stretches.items l.next.pairs.items)
      (shown_all l.fn.stretches.items (drop (length l.yielded) l.fn.pairs.items))
      ≡ next_after l.asked.loads.now l.asked.moment (aim_of l.wanted) (shown_all l.fn.stretches.items l.fn.pairs.items);
  out_in : AreIn l.stretches.items l.out.pairs.items;
  next_in : AreIn l.stretches.items l.next.pairs.items;
  grows : Grows l.fn.stretches.items l.stretches.items;
  out_followed : IsFollowed l.out;
  next_followed : IsFollowed l.next;
}
