use Rattle.std.proofs.Common.{◌≡◌, refl, ◌∙◌, inl, inr, rules}
use Rattle.ring_station.proofs.Turning.{served_more, served_out}
use Rattle.ring_station.proofs.Sharing.{come_at_first, come_further, come_to_end}
use Rattle.ring_station.proofs.bank_thread.serve_on.Goals as goal

pub loop-turn-init : goal.loop-turn-init
loop-turn-init g c = record { number = refl; served = λ first h. h; come = come_at_first }

pub loop-turn-preserved : goal.loop-turn-preserved
loop-turn-preserved g c =
    let so_far = c.loop-turn.invariant in
    let turn = c.turn_of_banks.ensures in
    record {
      number = turn.on.number ∙ so_far.number;
      served = λ first h. served_more turn.on (so_far.served first h);
      come = come_further so_far.come (_, _, turn.turns);
    }

pub returns : goal.returns
returns g c =
    let so_far = c.loop-turn.invariant in
    let all : c.loop-turn.turn ≡ c.args.turns = search rules in
    record { on = λ first h. rw (← all) (so_far.served first h); turns = come_to_end (inl all) so_far.come }

pub returns-in_default : goal.returns-in_default
returns-in_default g c =
    let so_far = c.loop-turn.invariant in
    let turn = c.turn_of_banks.ensures in
    let over = turn.over.0 (search rules) in
    record {
      on = λ first h. served_out (search rules) over (served_more turn.on (so_far.served first h));
      turns = come_to_end (inr over) (come_further so_far.come (_, _, turn.turns));
    }
