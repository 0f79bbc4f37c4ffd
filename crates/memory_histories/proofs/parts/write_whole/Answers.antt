use Rattle.std.proofs.Common.{length-set, sym, arith}
use Rattle.std.proofs.lemmas.List.{take_more_set}
use Rattle.std.proofs.lemmas.Option.{slice_get-get_or}
use Rattle.std.proofs.lemmas.List.FromFn.{map-range_with_len_more}
use Rattle.memory_histories.proofs.parts.write_whole.Goals as goal

pub loop-k-preserved : goal.loop-k-preserved
loop-k-preserved c = record {
  so_far = rw (
    take_more_set c.loop-k.lanes c.loop-k.k _ (omega arith),
    c.loop-k.invariant.so_far,
    c.byte_if.ensures,
    ← slice_get-get_or c.args.bytes.now c.loop-k.k 0 (omega arith),
  ) (sym (map-range_with_len_more _ _ _ _ (omega arith)));
  many = grind (arith, length-set);
}
