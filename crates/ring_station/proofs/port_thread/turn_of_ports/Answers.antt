use Rattle.std.proofs.Common.{◌≡◌, ◌<◌, ◌+◌, false, length, refl, rules, arith, ◌∙◌, ap}
use Rattle.std.specs.Prelude.{None}
use Rattle.std.specs.Global.{Vec}
use Rattle.station_journal.specs.declared.asks.Ask.{Ask}
use Rattle.ring_station.specs.Ends.{goes_on}
use Rattle.ring_station.proofs.Sharing.{no_turns, one_turn, over_more, none_if_over, turns_so}
use Rattle.ring_station.proofs.CrewRunning.{ready_now, goes_on_at}
use Rattle.ring_station.proofs.port_thread.turn_of_ports.Goals as goal

pub loop-k-init : goal.loop-k-init
loop-k-init g c = record { turns = no_turns _ _; over = (λ none j d less. absurd (omega arith), λ over. refl) }

pub turn_of_port-made-requires-clause-ready : goal.turn_of_port-made-requires-clause-ready
turn_of_port-made-requires-clause-ready g c κs within =
    ready_now _ _ _ c.loop-k.k _ c.loop-k.runs c.index-scripts-p.result _ _
    (c.as_slice.ensures.value ∙ ap (λ (v : Vec Ask). v.items) c.index-scripts-p.is) c.requires.ready (search rules)
    (λ d. c.loop-k.invariant.turns.behind c.loop-k.k d (omega arith))

pub loop-k-preserved : goal.loop-k-preserved
loop-k-preserved g c =
    let k = c.loop-k.k in
    let now = c.loop-k.runs in
    let made = c.turn_of_port-made.ensures in
    let less : k < length now = search rules in
    let on = goes_on_at _ (c.args.start + k) c.args.turn c.index-scripts-p.result _ _ _
    (c.as_slice.ensures.value ∙ ap (λ (v : Vec Ask). v.items) c.index-scripts-p.is) (search rules) made.on in
    record {
      turns = rw c.turn_of_both-all.ensures
          (one_turn _ k c.args.runs.now now _ _ _ _ less (on, made.turn, made.heard) c.loop-k.invariant.turns);
      over = rw c.turn_of_both-all.ensures (over_more (λ r. goes_on r.end.fault ≡ false) k now _ _ _ less
          (made.over, none_if_over _ _ made.made) c.loop-k.invariant.over);
    }

pub returns-clause-on : goal.returns-clause-on
returns-clause-on g c = record {
  number = search rules;
  each = λ k s d less. (c.loop-k.invariant.turns.before k d None (search rules)).0 s;
}

pub returns-clause-turns : goal.returns-clause-turns
returns-clause-turns g c =
    let all : c.loop-k.k ≡ length c.args.runs.now = search rules in
    rw (← all) (turns_so _ _ _ _ _ _ (λ k old new made h. h.1) c.loop-k.invariant.turns)

pub returns-clause-heard : goal.returns-clause-heard
returns-clause-heard g c heard = λ k d less.
    (c.loop-k.invariant.turns.before k d None (search rules)).2 (heard k d (search rules))

pub returns-clause-over : goal.returns-clause-over
returns-clause-over g c =
    let over = c.loop-k.invariant.over in
    (λ none k d less. over.0 none k d (search rules), λ each. over.1 (λ k d less. each k d (search rules)))
