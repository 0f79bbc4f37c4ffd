use Rattle.std.proofs.Common.{◌<◌, ◌+◌, ℕ, length, slice_index_or}
use Rattle.std.specs.Prelude.{Option}
use Rattle.std.specs.Global.{Vec}
use Rattle.station_journal.specs.declared.asks.Ask.{Ask}
use Rattle.ring_station.specs.declared.crew.PortRun.{PortRun}
use Rattle.ring_station.specs.declared.idle.Turn.{Turn}
use Rattle.ring_station.specs.Crew.{HasCome, EachHeard}
use Rattle.ring_station.specs.Turns.{PortsHaveTurns}
use Rattle.ring_station.proofs.Sharing.{HaveCome}
use Rattle.ring_station.proofs.port_thread.run_port_thread.Given as goal

abbrev pub invariant-loop-turn : goal.invariant-loop-turn
invariant-loop-turn g l = record {
  each : (k : ℕ) (s : Vec Ask) (d : PortRun) → k < length l.fn.runs
      → HasCome (slice_index_or l.scripts (l.start + k) s).items l.turn (slice_index_or l.fn.runs k d).port (slice_index_or l.runs k d);
  heard : EachHeard (g.G.Gate.has_heard l.gate) l.start l.runs;
  come : HaveCome (λ turn old new. (all : Option Turn) × PortsHaveTurns (g.G.Gate.can_answer l.gate) l.start old new all) 0 l.turn
      l.fn.runs l.runs;
}
