use Rattle.std.proofs.Common.{◌≡◌, ◌↔◌, ◌<◌, ◌+◌, ℕ, false, slice_index_or}
use Rattle.std.specs.Prelude.{None}
use Rattle.std.specs.Global.{Vec}
use Rattle.std.specs.List.{All}
use Rattle.station_journal.specs.declared.asks.Ask.{Ask}
use Rattle.ring_station.specs.declared.crew.PortRun.{PortRun}
use Rattle.ring_station.specs.declared.gate.Actor.TheVariants as actors
use Rattle.ring_station.specs.Crew.{GoesOn}
use Rattle.ring_station.specs.Ends.{goes_on}
use Rattle.ring_station.specs.Turns.{HadTurns, PortHasTurn}
use Rattle.ring_station.proofs.port_thread.turn_of_ports.Given as goal

abbrev pub invariant-loop-k : goal.invariant-loop-k
invariant-loop-k g l = record {
  turns : HadTurns (λ j old now made. ((s : Vec Ask) → GoesOn (slice_index_or l.scripts (l.start + j) s).items l.turn old now)
      × PortHasTurn (g.G.Gate.can_answer l.gate (actors.Port (l.start + j))) old now made
      × (All (g.G.Gate.has_heard l.gate (l.start + j)) old.list.items → All (g.G.Gate.has_heard l.gate (l.start + j)) now.list.items))
      l.k l.fn.runs l.runs l.all;
  over : (l.all ≡ None) ↔ ((j : ℕ) (d : PortRun) → j < l.k → goes_on (slice_index_or l.runs j d).end.fault ≡ false);
}
