use Rattle.std.proofs.Common.{subst}
use Rattle.station_parts.specs.SideSteps.{SideSteps}
use Rattle.ring_station.specs.Turns.{IsTurn}
use Rattle.ring_station.proofs.cache_thread.turn_round.Goals as goal

pub returns-clause-turn : goal.returns-clause-turn
returns-clause-turn c = record {
  at = c.seek.new.self;
  looked = c.seek.new.cache;
  looks = c.seek.ensures.looks;
  seeks = c.seek.ensures.seeks;
  held = c.seek.ensures.unmoved;
  turn = subst (λ s. IsTurn (SideSteps s) c.args.may c.seek.new.cache c.take_turn-stepped.new.cache c.take_turn-stepped.result)
      c.source.ensures c.take_turn-stepped.ensures.turn;
  goes_on = c.go_on.ensures.on;
  stays = λ within. c.go_on.ensures.stays (c.seek.ensures.stays within);
}
