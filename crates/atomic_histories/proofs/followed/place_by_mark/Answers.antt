use Rattle.std.proofs.Common.{◌≡◌, ◌<◌, false, get_or, length, sym, ap, ◌∙◌, arith, below_more}
use Rattle.atomic_histories.proofs.Loops.{same_default}
use Rattle.atomic_histories.proofs.Marks.{passed, as_many}
use Rattle.atomic_histories.proofs.Merges.{is_this, found_at, found_nowhere}
use Rattle.atomic_histories.proofs.followed.place_by_mark.Goals as goal

pub returns-then-at-pairs : goal.returns-then-at-pairs
returns-then-at-pairs c = λ ss.
    let ps = c.args.pairs.now in
    let p = c.args.pair.now in
    found_nowhere _ ps p (λ k h. passed ss ps p p _ _ c.loop-from.from c.next_with-at.result
    c.requires.marks c.requires.mark c.next_with-at.ensures.place (c.loop-from.invariant.others ss p) k (omega (arith, h)) h)

pub returns : goal.returns
returns c = λ ss.
    let ps = c.args.pairs.now in
    let p = c.args.pair.now in
    found_nowhere _ ps p (λ k h. c.loop-from.invariant.others ss p k (omega (arith, h)))

pub returns-then-is_same : goal.returns-then-is_same
returns-then-is_same c = λ ss.
    let ps = c.args.pairs.now in
    let p = c.args.pair.now in
    let f = c.index-pairs-at.result in
    let at = c.next_with-at.result in
    let many = as_many _ ps c.requires.marks in
    let below : at < length ps = omega (arith, many) in
    let same = sym (c.is_same.ensures ss ss) ∙ c.if-is_same.true in
    found_at _ ps at f below
    (λ k h. passed ss ps p f _ _ c.loop-from.from at
    c.requires.marks c.requires.mark c.next_with-at.ensures.place (c.loop-from.invariant.others ss f) k h (omega (arith, h, below)))
    (ap (is_this ss p) (sym c.index-pairs-at.is) ∙ same)

pub loop-from-preserved : goal.loop-from-preserved
loop-from-preserved c =
    let ps = c.args.pairs.now in
    let p = c.args.pair.now in
    let f = c.index-pairs-at.result in
    let at = c.next_with-at.result in
    let many = as_many _ ps c.requires.marks in
    let below : at < length ps = omega (arith, many) in
    record {
      others = λ ss d. below_more (λ k. is_this ss p (get_or ps k d) ≡ false) at
          (λ k h. passed ss ps p d _ _ c.loop-from.from at
          c.requires.marks c.requires.mark c.next_with-at.ensures.place (c.loop-from.invariant.others ss d) k h (omega (arith, h, below)))
          (ap (is_this ss p) (same_default ps at d f below ∙ sym c.index-pairs-at.is) ∙
          (sym (c.is_same.ensures ss ss) ∙ c.if-is_same.false));
      most = omega (arith, below);
    }
