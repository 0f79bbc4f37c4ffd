use Rattle.ring_station.specs.Crew.{EachIsSame}
use Rattle.ring_station.proofs.run.reserve_lists.Given as goal

abbrev pub invariant-loop-p : goal.invariant-loop-p
invariant-loop-p l = EachIsSame l.fn.ports.items l.ports.items
