use Rattle.std.proofs.Common.{arith}
use Rattle.trace_text.proofs.Held.{on_ok, few_steps, judged_still, judged_more}
use Rattle.trace_text.proofs.check.CheckingCollector.collect.Goals as goal

pub judge-requires : goal.judge-requires
judge-requires c =
    let went = c.requires.went in
    record { few = omega (arith, few_steps _ _ went.1 _ _ went.2, went.3, c.requires.few) }

pub returns-in-None-clause-kept : goal.returns-in-None-clause-kept
returns-in-None-clause-kept c start texts number judged = judged_still _ _ texts _ _ _ _ c.in_ok-pair.ensures.pair c.in-None.ensures judged

pub returns-in-Some-clause-kept : goal.returns-in-Some-clause-kept
returns-in-Some-clause-kept c =
    on_ok c.judge.result
    (λ judges start texts number judged.
    judged_more _ _ texts _ _ _ _ _ _ _ _ _ c.in_ok-pair.ensures.pair c.in-Some.ensures number judged judges) c.judge.ensures.judged
