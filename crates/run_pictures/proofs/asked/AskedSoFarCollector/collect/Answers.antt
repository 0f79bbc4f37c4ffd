use Rattle.std.proofs.Common.{sym, ◌∙◌}
use Rattle.trace_text.proofs.Held.{on_ok}
use Rattle.run_pictures.proofs.Recorded.{gathered_none, gathered_one}
use Rattle.run_pictures.proofs.asked.AskedSoFarCollector.collect.Goals as goal

pub returns-in-Some-clause-kept : goal.returns-in-Some-clause-kept
returns-in-Some-clause-kept c =
    on_ok c.keep.result (λ one start texts number held. gathered_one c.args.self.now c.keep.new.self c.in-Some.asked texts c.args.text.now
    c.in_ok-pair.pair c.in_ok-pair.ensures.pair (sym c.asked_in.ensures ∙ c.in-Some.is) one held) c.keep.ensures.ok

pub returns-in-None-clause-kept : goal.returns-in-None-clause-kept
returns-in-None-clause-kept c = λ start texts number held. gathered_none c.args.self.now texts c.args.text.now c.in_ok-pair.pair
    c.in_ok-pair.ensures.pair (sym c.asked_in.ensures ∙ c.in-None.is) held
