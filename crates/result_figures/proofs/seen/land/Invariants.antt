use Rattle.std.proofs.Common.{◌≡◌, ◌++◌, take, drop, map}
use Rattle.result_figures.specs.Turns.{landed}
use Rattle.result_figures.proofs.seen.land.Given as goal

-- the flights so far are as they are to be, and those that are left are to be changed
abbrev pub invariant-loop-flight : goal.invariant-loop-flight
invariant-loop-flight l = take l.flight-index l.flights ++ map (landed l.machine l.turn) (drop l.flight-index l.flights)
    ≡ map (landed l.machine l.turn) l.initial.flights
