use Rattle.std.proofs.Common.{◌≡◌, ◌<◌, false, length, refl, rules, arith}
use Rattle.std.specs.Prelude.{None}
use Rattle.ring_station.specs.Ends.{goes_on}
use Rattle.ring_station.proofs.Sharing.{no_turns, one_turn, over_more, none_if_over, turns_so}
use Rattle.ring_station.proofs.bank_thread.turn_of_banks.Goals as goal

pub loop-k-init : goal.loop-k-init
loop-k-init g c = record { turns = no_turns _ _; over = (λ none j d less. absurd (omega arith), λ over. refl) }

pub loop-k-preserved : goal.loop-k-preserved
loop-k-preserved g c =
    let k = c.loop-k.k in
    let now = c.loop-k.runs in
    let made = c.turn_of_bank-made.ensures in
    let less : k < length now = search rules in
    record {
      turns = rw c.turn_of_both-all.ensures
          (one_turn _ k _ now _ _ _ _ less (made.on, made.turn) c.loop-k.invariant.turns);
      over = rw c.turn_of_both-all.ensures (over_more (λ r. goes_on r.end.fault ≡ false) k now _ _ _ less
          (made.over, none_if_over _ _ made.made) c.loop-k.invariant.over);
    }

pub returns-clause-on : goal.returns-clause-on
returns-clause-on g c = record { number = search rules; each = λ b d less. (c.loop-k.invariant.turns.before b d None (search rules)).0 }

pub returns-clause-turns : goal.returns-clause-turns
returns-clause-turns g c =
    let all : c.loop-k.k ≡ length c.args.runs.now = search rules in
    rw (← all) (turns_so _ _ _ _ _ _ (λ k old new made h. h.1) c.loop-k.invariant.turns)

pub returns-clause-over : goal.returns-clause-over
returns-clause-over g c =
    let over = c.loop-k.invariant.over in
    (λ none k d less. over.0 none k d (search rules), λ each. over.1 (λ k d less. each k d (search rules)))
