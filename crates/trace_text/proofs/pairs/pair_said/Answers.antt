use Rattle.std.proofs.Common.{sym, ap, ◌∙◌}
use Rattle.trace_text.specs.Pairs.{pair_of}
use Rattle.trace_text.proofs.Arrows.{read_behind}
use Rattle.trace_text.proofs.pairs.pair_said.Goals as goal

pub returns-in-Ok-clause-pair : goal.returns-in-Ok-clause-pair
returns-in-Ok-clause-pair c =
    let usual = c.in-Some.ensures in
    c.answered.ensures usual.reply usual.said
    ∙ sym (ap pair_of usual.whole ∙ read_behind c.in-Some.front.now usual.reply c.in-Ok.line (sym c.in-Ok.ensures.said))
