use Rattle.std.proofs.Common.{arith, ◌≡◌, ◌-◌, ◌∙◌, ap, sym, take, drop, length, false}
use Rattle.std.proofs.lemmas.Grind.{common_steps}
use Rattle.std.specs.Prelude.{nat_eq, codes}
use Rattle.std.specs.List.{starts_with}
use Rattle.trace_text.proofs.Arrows.{arrow_on, arrow_from}
use Rattle.trace_sheets.proofs.sheet.arrow.Goals as goal

pub loop-at-init : goal.loop-at-init
loop-at-init c = arrow_from c.args.text.now 0 (omega arith) (λ k above upto is. omega (arith, above, upto))

pub loop-at-preserved : goal.loop-at-preserved
loop-at-preserved c =
    let text = c.args.text.now in
    let at = c.loop-at.at in
    let all : take (length text - at) (drop at text) ≡ drop at text = grind (arith, common_steps) in
    let none : starts_with nat_eq (drop at text) (codes " -> ") ≡ false =
    ap (λ l. starts_with nat_eq l (codes " -> ")) (sym all)
    ∙ ap (starts_with nat_eq (take (length text - at) (drop at text))) (sym c.as_slice.ensures)
    ∙ sym c.starts_with.ensures.value
    ∙ c.if-starts_with.false in
    arrow_on text at (omega arith) none c.loop-at.invariant
