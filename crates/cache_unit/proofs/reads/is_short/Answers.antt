use Rattle.std.proofs.Common.{arith, le-ltb}
use Rattle.std.proofs.lemmas.List.Sums.{length-filter, count_by-le-length}
use Rattle.std.proofs.lemmas.List.FromFn.{length-range_with_len}
use Rattle.cache_unit.proofs.reads.is_short.Goals as goal

pub returns-then-room-words : goal.returns-then-room-words
returns-then-room-words c = grind (arith, length-filter, count_by-le-length, length-range_with_len, c.args.first, c.args.words, le-ltb)
