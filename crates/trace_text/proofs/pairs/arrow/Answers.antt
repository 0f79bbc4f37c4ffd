use Rattle.std.proofs.Common.{arith, ◌≡◌, ◌∙◌, sym, drop, false}
use Rattle.std.proofs.lemmas.Grind.{common_steps}
use Rattle.std.specs.Prelude.{nat_eq, codes}
use Rattle.std.specs.List.{starts_with}
use Rattle.trace_text.proofs.Arrows.{arrow_on, no_arrow_at, no_arrow, arrow_from}
use Rattle.trace_text.proofs.pairs.arrow.Goals as goal
use Rattle.trace_text.proofs.pairs.arrow.Goals.{else-text-at-eq32-via-then-text-at-eq32+else-starts_with}
use Rattle.trace_text.proofs.pairs.arrow.Goals.{else-text-at-eq32-via-else-text-at-eq32}

pub returns-in_err-hyphen-clause-value : goal.returns-in_err-hyphen-clause-value
returns-in_err-hyphen-clause-value c = c.from_residual.ensures ∙ sym (no_arrow c.args.text.now c.in_err-hyphen.ensures.none)

pub loop-at-init : goal.loop-at-init
loop-at-init c =
    let first = c.in_ok-hyphen.ensures.some in
    let begun = c.saturating_sub-begun.ensures in
    arrow_from c.args.text.now c.saturating_sub-begun.result (omega (arith, begun, first.0))
    (λ k above upto. first.1 k (omega (arith, begun, above, upto)))

pub loop-at-preserved : goal.loop-at-preserved
loop-at-preserved c =
    let text = c.args.text.now in
    let at = c.loop-at.at in
    let none : starts_with nat_eq (drop at text) (codes " -> ") ≡ false =
    elim c.else-text-at-eq32.branch [
      | else-text-at-eq32-via-then-text-at-eq32+else-starts_with w ↦
          grind (arith, common_steps, w.as_slice.ensures, w.starts_with.ensures.value, w.if-starts_with.false)
      | else-text-at-eq32-via-else-text-at-eq32 w ↦ no_arrow_at text at (omega arith) (λ is. omega (arith, is, w.if-text-at-eq32.false))
    ] in
    arrow_on text at (omega arith) none c.loop-at.invariant
