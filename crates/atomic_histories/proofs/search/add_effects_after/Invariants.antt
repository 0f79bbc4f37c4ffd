use Rattle.std.proofs.Common.{◌≡◌, [], take, drop, filter}
use Rattle.atomic_histories.specs.Followed.{with_pairs, effects_from}
use Rattle.atomic_histories.specs.Marks.{IsFollowed}
use Rattle.atomic_histories.specs.Shown.{past_at, pasts, shown, shown_all, IsIn, AreIn, Grows, aim_of}
use Rattle.atomic_histories.proofs.search.add_effects_after.Given as goal

-- with those that are left it is the whole
abbrev pub invariant-loop-i : goal.invariant-loop-i
invariant-loop-i l = record {
  whole : with_pairs (shown_all l.stretches.items l.next.pairs.items) (filter (aim_of l.wanted).hope (effects_from
      (past_at (pasts l.fn.stretches.items) l.past) (shown l.fn.stretches.items l.pair) (take l.i l.pair.stores.items)
      (drop l.i l.pair.stores.items)))
      ≡ with_pairs (shown_all l.fn.stretches.items l.fn.next.pairs.items) (filter (aim_of l.wanted).hope (effects_from
      (past_at (pasts l.fn.stretches.items) l.past) (shown l.fn.stretches.items l.pair) [] l.pair.stores.items));
  pairs : AreIn l.stretches.items l.next.pairs.items;
  past : IsIn l.stretches.items l.past;
  grows : Grows l.fn.stretches.items l.stretches.items;
  followed : IsFollowed l.next;
}
