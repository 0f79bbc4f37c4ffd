use Rattle.std.proofs.Common.{◌<◌, length, get_or, ap, ◌∙◌, arith}
use Rattle.std.specs.Prelude.{vec_len, vec_capacity}
use Rattle.atomic_histories.specs.declared.pairs.FollowedPair.{FollowedPair}
use Rattle.atomic_histories.specs.Shown.{past_at}
use Rattle.atomic_histories.proofs.Loops.{changed_more, all_behind}
use Rattle.atomic_histories.proofs.kept.open_store.Goals as goal

pub loop-pair-preserved : goal.loop-pair-preserved
loop-pair-preserved c =
    let pairs = c.loop-pair.pairs in
    let i = c.loop-pair.pair-index in
    let d = c.pair-item.result in
    let pair = get_or pairs i d in
    let next : FollowedPair = record { word = pair.word; stores = c.push_reserved.new.self; past = pair.past } in
    let below : i < length pairs = omega (arith, c.loop-pair-test.true, c.loop-pair.auto.pairs) in
    let kept = c.loop-pair.invariant in
    record {
      kept = λ ss. changed_more _ _ pairs i next d below
          (ap (λ stores. record { word = pair.word; stores = stores; past = past_at _ pair.past }) c.push_reserved.ensures.items)
          ∙ kept.kept ss;
      room = all_behind (λ p. vec_len p.stores < vec_capacity p.stores) pairs i next d below kept.room;
    }
