use Rattle.ring_station.proofs.port_thread.turn_of_port.Goals as goal

pub returns-in_default-clause-turn : goal.returns-in_default-clause-turn
returns-in_default-clause-turn g c = record {
  over = λ over. absurd (cc);
  on = λ on. record {
    may = _;
    answered = c.may-may.ensures;
    held = λ no. let h = c.take_turn.ensures.held no in (h.1, h.2, h.3, tt);
    found = λ yes. tt;
  };
}

pub returns-then-is_over-clause-turn : goal.returns-then-is_over-clause-turn
returns-then-is_over-clause-turn g c = record {
  over = λ over. absurd (cc);
  on = λ on. record {
    may = _;
    answered = c.may-may.ensures;
    held = λ no. let h = c.take_turn.ensures.held no in (h.1, h.2, h.3, tt);
    found = λ yes. tt;
  };
}
