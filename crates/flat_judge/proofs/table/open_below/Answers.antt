use Rattle.std.proofs.Common.{◌+◌, sym, ap, ◌∙◌, length, arith}
use Rattle.std.specs.Prelude.{is_some}
use Rattle.flat_judge.specs.Table.{nth_tag}
use Rattle.flat_judge.proofs.Tags.{owed_first, counts_none, counts_last, counts_other, counts_same}
use Rattle.flat_judge.proofs.table.open_below.Goals as goal
use Rattle.flat_judge.proofs.table.open_below.Goals.{then-is_some, else-is_some, then-open-n, else-open-n}

pub loop-number-init : goal.loop-number-init
loop-number-init c =
    let none = owed_first c.args.due.now in
    (ap length (sym none), omega arith, ap (λ tags. nth_tag c.args.nth.now tags c.args.n) (sym none))

pub loop-number-preserved : goal.loop-number-preserved
loop-number-preserved c =
    let due = c.args.due.now in
    let k = c.loop-number.number in
    let tells = sym (c.is_some.ensures ∙ ap is_some c.due_word.ensures) in
    let before = c.loop-number.invariant in
    elim c.if-is_some.branch [
      | then-is_some w ↦ elim w.if-open-n.branch [
        | then-open-n v ↦
            let next = counts_last due c.args.n c.args.nth.now k c.loop-number.open c.loop-number.nth before (tells ∙ w.if-is_some.true)
            v.if-open-n.true in
            counts_same due c.args.n c.args.nth.now (k + 1) _ _ _ _ w.open-is (w.nth-is ∙ v.nth-is) next
        | else-open-n v ↦
            let next = counts_other due c.args.n c.args.nth.now k c.loop-number.open c.loop-number.nth before (tells ∙ w.if-is_some.true)
            v.if-open-n.false in
            counts_same due c.args.n c.args.nth.now (k + 1) _ _ _ _ w.open-is (w.nth-is ∙ v.nth-is) next
      ]
      | else-is_some w ↦
          let next = counts_none due c.args.n c.args.nth.now k c.loop-number.open c.loop-number.nth before (tells ∙ w.if-is_some.false) in
          counts_same due c.args.n c.args.nth.now (k + 1) _ _ _ _ w.open-is w.nth-is next
    ]
