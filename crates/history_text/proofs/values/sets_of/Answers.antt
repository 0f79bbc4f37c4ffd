use Rattle.std.proofs.Common.{◌≡◌, ◌+◌, ◌∷◌, [], length, length-append, sym, subst, ap, arith}
use Rattle.history_text.specs.Values.{IsReturned, AreSetsFrom}
use Rattle.history_text.proofs.Written.{sets_more}
use Rattle.history_text.proofs.values.sets_of.Goals as goal

pub loop-place-preserved : goal.loop-place-preserved
loop-place-preserved c =
    let load = c.args.load in
    let place = c.loop-place.place in
    let sets = c.loop-place.sets.items in
    let set = c.in_ok-set.set in
    let count = c.loop-place.invariant.count in
    let pushed = c.in_ok-push.ensures.items in
    let same : place ≡ 0 + length sets = omega (arith, count) in
    record {
      count = omega (arith, ap length pushed, length-append sets (set ∷ []), count);
      sets = λ s k. subst (AreSetsFrom s.history load 0) (sym pushed)
          (sets_more s.history load 0 place sets set (c.loop-place.invariant.sets s k) same
          (subst (λ a. IsReturned s.history load.number a set) c.byte_address.ensures (c.in_ok-set.ensures s k)));
    }
