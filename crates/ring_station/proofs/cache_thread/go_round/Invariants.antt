use Rattle.std.proofs.Common.{◌≡◌, ◌≤◌, ◌+◌, length}
use Rattle.station_parts.specs.Ids.{cache_id}
use Rattle.station_parts.specs.Words.{earlier_of, held_of}
use Rattle.ring_station.specs.declared.gate.Actor.TheVariants as actors
use Rattle.ring_station.specs.Round.{TakesTurns, standing_first}
use Rattle.ring_station.specs.Crew.{EachServed}
use Rattle.ring_station.specs.PartRuns.{ended_in}
use Rattle.ring_station.proofs.cache_thread.go_round.Given as goal

abbrev pub invariant-loop-turn : goal.invariant-loop-turn
invariant-loop-turn g l = record {
  same : cache_id l.cache ≡ cache_id l.fn.cache;
  earlier : earlier_of l.cache ≡ earlier_of l.fn.cache;
  noted : length (held_of l.cache) ≤ length (held_of l.fn.cache) + l.turn;
  banks : EachServed l.had l.fn.own l.own;
  within : l.had ≤ l.turn;
  round : TakesTurns (g.G.Gate.can_answer l.gate actors.Cache) l.turn (standing_first l.fn.ports l.fn.banks l.fn.cache)
      (record { round = l.round; stepped = l.stepped; had = l.had; cache = l.cache });
  ended : ended_in (held_of l.fn.cache) + l.fn.ports ≤ ended_in (held_of l.cache) + l.open_ports;
}
