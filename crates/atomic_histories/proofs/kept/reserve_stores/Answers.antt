use Rattle.std.proofs.Common.{◌<◌, length, get_or, ap, ◌∙◌, arith}
use Rattle.std.specs.Prelude.{vec_len, vec_capacity}
use Rattle.std.proofs.lemmas.List.{take_all}
use Rattle.atomic_histories.specs.declared.pairs.FollowedPair.{FollowedPair}
use Rattle.atomic_histories.specs.Shown.{past_at}
use Rattle.atomic_histories.proofs.Loops.{set_shown, all_before}
use Rattle.atomic_histories.proofs.kept.reserve_stores.Goals as goal

pub returns-in_err-reserve-clause-same : goal.returns-in_err-reserve-clause-same
returns-in_err-reserve-clause-same c =
    grind (arith, c.loop-pair.pairs, c.loop-pair.pair-index, c.pair-item.result, set_shown, c.loop-pair.invariant.same)

pub loop-pair-preserved : goal.loop-pair-preserved
loop-pair-preserved c =
    let pairs = c.loop-pair.pairs in
    let i = c.loop-pair.pair-index in
    let d = c.pair-item.result in
    let pair = get_or pairs i d in
    let next : FollowedPair = record { word = pair.word; stores = c.reserve.new.self; past = pair.past } in
    let below : i < length pairs = omega (arith, c.loop-pair-test.true, c.loop-pair.auto.pairs) in
    let kept = c.loop-pair.invariant in
    record {
      same = λ ss. set_shown _ pairs i next d below
          (ap (λ stores. record { word = pair.word; stores = stores; past = past_at _ pair.past }) c.reserve.ensures.items)
          ∙ kept.same ss;
      room = all_before (λ p. vec_len p.stores < vec_capacity p.stores) pairs i next below kept.room
          (omega (arith, c.in_ok-reserve.ensures.ok));
    }

pub returns-clause-room : goal.returns-clause-room
returns-clause-room c = grind (arith, c.loop-pair.pairs, c.loop-pair.pair-index, take_all)
