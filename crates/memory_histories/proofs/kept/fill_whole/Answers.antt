use Rattle.std.proofs.Common.{length-set, drop-set-lt, sym, arith}
use Rattle.std.proofs.lemmas.List.{take_more_set}
use Rattle.std.proofs.lemmas.List.FromFn.{map-range_with_len_more}
use Rattle.memory_histories.proofs.ShownSets.{left_more}
use Rattle.memory_histories.proofs.kept.fill_whole.Goals as goal

pub fill_first-requires : goal.fill_first-requires
fill_first-requires c = grind (arith, left_more)

pub loop-k-preserved : goal.loop-k-preserved
loop-k-preserved c = record {
  so_far = rw (take_more_set c.loop-k.sets c.loop-k.k _ (omega arith), c.loop-k.invariant.so_far, c.fill_first.ensures)
      (sym (map-range_with_len_more _ _ _ _ (omega arith)));
  left = grind (arith, drop-set-lt, left_more);
  many = grind (arith, length-set);
}
