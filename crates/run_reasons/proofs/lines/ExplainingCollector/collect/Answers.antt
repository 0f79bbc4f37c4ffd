use Rattle.std.proofs.Common.{None, refl, arith}
use Rattle.trace_text.proofs.Held.{few_steps}
use Rattle.run_reasons.proofs.LinesTaken.{taken_still, taken_step, on_ok5}
use Rattle.run_reasons.proofs.lines.ExplainingCollector.collect.Goals as goal

pub step-requires : goal.step-requires
step-requires c =
    let went = c.requires.went in
    omega (arith, few_steps _ _ went.1 _ None went.2.flat, went.3, c.ranges.number.fits)

pub returns-in-None-clause-kept : goal.returns-in-None-clause-kept
returns-in-None-clause-kept c start texts number held =
    taken_still c.args.self.now _ c.args.text.now _ c.args.number held c.in_ok-pair.ensures.pair c.in-None.ensures.none number refl refl
    refl
    refl

pub returns-in-Some-clause-kept : goal.returns-in-Some-clause-kept
returns-in-Some-clause-kept c =
    on_ok5 c.step.result
    (λ flat origins steps none lines start texts number held.
    taken_step c.args.self.now _ c.args.text.now _ _ _ c.args.number held c.in_ok-pair.ensures.pair c.in-Some.ensures.some number flat
    origins
    lines steps none)
    c.step.ensures.flat c.step.ensures.origins c.step.ensures.steps c.step.ensures.none c.step.ensures.lines
