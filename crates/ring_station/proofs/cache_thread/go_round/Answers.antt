use Rattle.std.proofs.Common.{rules, arith, refl, sym, ◌∙◌}
use Rattle.ring_station.proofs.GoingRound.{counted_within, turned, gone_round}
use Rattle.ring_station.proofs.Turning.{round_notes, ended_more, full_turn}
use Rattle.ring_station.proofs.cache_thread.go_round.Goals as goal

pub loop-turn-preserved : goal.loop-turn-preserved
loop-turn-preserved g c =
    let made = c.turn_round-stepped.ensures.turn in
    let notes = round_notes made in
    let so_far = c.loop-turn.invariant in
    let served = c.serve_beside-served.ensures in
    record {
      same = c.turn_round-stepped.ensures.same ∙ so_far.same;
      earlier = notes.earlier ∙ so_far.earlier;
      noted = omega (arith, notes.few, so_far.noted);
      banks = served.on _ so_far.banks;
      within = counted_within _ _ _ _ served.counted so_far.within;
      round = turned _ _ _ _ _ _ _ so_far.round c.may.ensures c.are_banks_due.ensures served.counted made;
      ended = ended_more _ _ notes c.entries-entries.ensures c.has_ended_port.ensures c.still_open-open_ports.ensures so_far.ended;
    }

pub returns-then-is_at_rest-clause-cache : goal.returns-then-is_at_rest-clause-cache
returns-then-is_at_rest-clause-cache g c =
    let made = c.turn_round-stepped.ensures.turn in
    let notes = round_notes made in
    let so_far = c.loop-turn.invariant in
    let ended =
    ended_more _ _ notes c.entries-entries.ensures c.has_ended_port.ensures c.still_open-open_ports.ensures so_far.ended in
    rw c.over.ensures (record {
      same = c.turn_round-stepped.ensures.same ∙ so_far.same;
      earlier = notes.earlier ∙ so_far.earlier;
      noted = omega (arith, notes.few, so_far.noted);
      ended = record {
        within = search rules;
        stands = (search rules, record { rests = sym c.is_at_rest.ensures ∙ c.if-is_at_rest.true; ended = omega (arith, ended) });
      };
    })

pub returns-then-is_at_rest-clause-banks : goal.returns-then-is_at_rest-clause-banks
returns-then-is_at_rest-clause-banks g c = c.serve_beside-served.ensures.on _ c.loop-turn.invariant.banks

pub returns-then-is_at_rest-clause-within : goal.returns-then-is_at_rest-clause-within
returns-then-is_at_rest-clause-within g c =
    omega (arith, counted_within _ _ _ _ c.serve_beside-served.ensures.counted c.loop-turn.invariant.within)

pub returns-then-is_at_rest-clause-round : goal.returns-then-is_at_rest-clause-round
returns-then-is_at_rest-clause-round g c =
    gone_round _ _ c.over.ensures refl
    (turned _ _ _ _ _ _ _ c.loop-turn.invariant.round c.may.ensures c.are_banks_due.ensures c.serve_beside-served.ensures.counted
    c.turn_round-stepped.ensures.turn)

pub returns-then-eq-clause-cache : goal.returns-then-eq-clause-cache
returns-then-eq-clause-cache g c =
    let made = c.turn_round-stepped.ensures.turn in
    let notes = round_notes made in
    let so_far = c.loop-turn.invariant in
    rw c.stopped.ensures (record {
      same = c.turn_round-stepped.ensures.same ∙ so_far.same;
      earlier = notes.earlier ∙ so_far.earlier;
      noted = omega (arith, notes.few, so_far.noted);
      ended = record {
        within = search rules;
        stands = full_turn _ _ _ _ _ made.turn (search rules);
      };
    })

pub returns-then-eq-clause-banks : goal.returns-then-eq-clause-banks
returns-then-eq-clause-banks g c = c.serve_beside-served.ensures.on _ c.loop-turn.invariant.banks

pub returns-then-eq-clause-within : goal.returns-then-eq-clause-within
returns-then-eq-clause-within g c = omega (arith, counted_within _ _ _ _ c.serve_beside-served.ensures.counted c.loop-turn.invariant.within)

pub returns-then-eq-clause-round : goal.returns-then-eq-clause-round
returns-then-eq-clause-round g c =
    gone_round _ _ c.stopped.ensures refl
    (turned _ _ _ _ _ _ _ c.loop-turn.invariant.round c.may.ensures c.are_banks_due.ensures c.serve_beside-served.ensures.counted
    c.turn_round-stepped.ensures.turn)

pub returns-clause-round : goal.returns-clause-round
returns-clause-round g c = gone_round _ _ c.stopped-2.ensures (search rules) c.loop-turn.invariant.round
