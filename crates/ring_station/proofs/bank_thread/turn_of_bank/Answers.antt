use Rattle.std.proofs.Common.{rules, arith, refl, ap, ◌∙◌}
use Rattle.std.specs.Prelude.{Some}
use Rattle.ring_station.proofs.Turning.{is_stuck, turn_serves, bank_is_over, bank_is_not_over}
use Rattle.ring_station.proofs.bank_thread.turn_of_bank.Goals as goal
use Rattle.ring_station.proofs.bank_thread.turn_of_bank.Goals.{else-is_done-via-then-is_done+else-eq, else-is_done-via-else-is_done}

pub returns-then-eq-clause-on : goal.returns-then-eq-clause-on
returns-then-eq-clause-on g c = λ first h.
    let turn = c.take_turn-stepped.ensures.turn in
    rw c.over-run.ensures (record {
      same = c.take_turn-stepped.ensures.same ∙ h.same;
      served = omega (arith, h.served, h.ended.within, turn_serves _ _ _ _ turn);
      ended = record {
        within = omega arith;
        stands = (omega arith, record { last = c.take_turn-stepped.new.bank; stuck = is_stuck _ _ _ _ turn (search rules); served = refl });
      };
    })

pub returns-then-eq-clause-turn : goal.returns-then-eq-clause-turn
returns-then-eq-clause-turn g c = record {
  over = λ over. absurd (cc);
  on = λ on. record {
    may = _;
    answered = c.may.ensures;
    stepped = _;
    turn_is = c.take_turn-stepped.ensures.turn;
    made_is = bank_is_over _ _ c.if-is_done.true (search rules);
    end_is = c.over-run.ensures;
  };
}

pub returns-clause-turn : goal.returns-clause-turn
returns-clause-turn g c = record {
  over = λ over. absurd (cc);
  on = λ on. record {
    may = _;
    answered = c.may.ensures;
    stepped = _;
    turn_is = c.take_turn-stepped.ensures.turn;
    made_is = ap (λ t. Some t) c.turn_of.ensures
        ∙ bank_is_not_over _ _ (λ done idle. elim c.else-is_done.branch [
          | else-is_done-via-then-is_done+else-eq w ↦ search rules
          | else-is_done-via-else-is_done w ↦ search rules
        ]);
    end_is = c.stopped-run.ensures;
  };
}
