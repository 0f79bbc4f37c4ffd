use Rattle.std.proofs.Common.{sym, arith}
use Rattle.std.proofs.lemmas.Result.{on_ok_weaker}
use Rattle.history_text.proofs.reading.JudgingCollector.collect.Goals as goal

pub judge-requires : goal.judge-requires
judge-requires c =
    let went = c.requires.went in
    omega (arith, went.3, went.2.begun.lines)

pub returns-clause-kept : goal.returns-clause-kept
returns-clause-kept c =
    on_ok_weaker c.judge.result
    (λ ok start texts number were. record {
      start = were.start;
      begun = ok were.start texts c.args.text.now (sym c.in_ok-event.ensures.said) were.begun;
      each = λ other h. ok other texts c.args.text.now (sym c.in_ok-event.ensures.said) (were.each other h);
    })
    c.judge.ensures.ok
