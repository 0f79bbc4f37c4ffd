use Rattle.std.proofs.Common.{◌≡◌, take, min}
use Rattle.station_checks.specs.Counts.{again_in}
use Rattle.station_checks.proofs.story.offered_again.Given as goal

abbrev pub invariant-loop-list : goal.invariant-loop-list
invariant-loop-list l = l.again ≡ min (again_in (take l.list-index l.lists)) 18446744073709551615
