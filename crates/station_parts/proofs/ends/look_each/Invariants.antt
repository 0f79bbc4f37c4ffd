use Rattle.std.proofs.Common.{[]}
use Rattle.station_parts.specs.Rows.{PopsAt}
use Rattle.station_parts.proofs.ends.look_each.Given as goal

abbrev pub invariant-loop-place : goal.invariant-loop-place
invariant-loop-place g l = PopsAt l.fn.ends.items l.ends.items 0 []
