use Rattle.std.proofs.Common.{length}
use Rattle.result_formats.proofs.series.+write_pairs.Given as goal

abbrev pub decreases-write_pairs : goal.decreases-write_pairs
decreases-write_pairs g l = length l.counts.now
