use Rattle.std.proofs.Common.{◌≡◌, inl, inr, rules, arith}
use Rattle.ring_station.proofs.Turning.{come_at_first, ran_longer}
use Rattle.ring_station.proofs.Sharing.{come_further, come_to_end}
use Rattle.ring_station.proofs.Sharing as sharing
use Rattle.ring_station.proofs.port_thread.run_port_thread.Goals as goal

pub loop-turn-init : goal.loop-turn-init
loop-turn-init g c = record {
  each = λ k s d less. come_at_first _ _ (c.requires.begun k d less);
  heard = λ k d less. rw (c.requires.begun k d less).list (λ j e none. absurd (omega arith));
  come = sharing.come_at_first;
}

pub turn_of_ports-requires-clause-ready : goal.turn_of_ports-requires-clause-ready
turn_of_ports-requires-clause-ready g c κs within =
    record { each = λ k s d less. (c.loop-turn.invariant.each k s d (search rules)).ready }

pub loop-turn-preserved : goal.loop-turn-preserved
loop-turn-preserved g c =
    let so_far = c.loop-turn.invariant in
    let turn = c.turn_of_ports.ensures in
    record {
      each = λ k s d less. turn.on.each k s d (search rules) _ (so_far.each k s d less);
      heard = turn.heard so_far.heard;
      come = come_further so_far.come (_, turn.turns);
    }

pub returns : goal.returns
returns g c =
    let so_far = c.loop-turn.invariant in
    let all : c.loop-turn.turn ≡ c.args.turns = search rules in
    record {
      ran = record { number = search rules; each = λ k s d less. rw (← all) (so_far.each k s d less).ran };
      turns = come_to_end (inl all) so_far.come;
      heard = so_far.heard;
    }

pub returns-in_default : goal.returns-in_default
returns-in_default g c =
    let so_far = c.loop-turn.invariant in
    let turn = c.turn_of_ports.ensures in
    let over = turn.over.0 (search rules) in
    record {
      ran = record {
        number = search rules;
        each = λ k s d less.
            ran_longer (search rules) (over k d (search rules)) (turn.on.each k s d (search rules) _ (so_far.each k s d less)).ran;
      };
      turns = come_to_end (inr over) (come_further so_far.come (_, turn.turns));
      heard = turn.heard so_far.heard;
    }
