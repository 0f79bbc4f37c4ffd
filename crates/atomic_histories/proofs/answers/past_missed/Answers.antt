use Rattle.std.proofs.Common.{sym, ◌∙◌}
use Rattle.atomic_histories.proofs.Parts.{missed_part, lost_part}
use Rattle.atomic_histories.proofs.answers.past_missed.Goals as goal

pub returns-then-hopes-clause-pair : goal.returns-then-hopes-clause-pair
returns-then-hopes-clause-pair c = λ ss part.
    missed_part _ _ _ ss _ _ _ part c.missed.ensures
    (sym c.is_word_of.ensures ∙ c.if-is_word_of.false) (sym (c.hopes.ensures ss) ∙ c.if-hopes.true)

pub returns-else-hopes-clause-pair : goal.returns-else-hopes-clause-pair
returns-else-hopes-clause-pair c = λ ss part.
    lost_part c.args.unit _ c.args.load.now ss c.args.pair.now
    (sym c.is_word_of.ensures ∙ c.if-is_word_of.false) (sym (c.hopes.ensures ss) ∙ c.if-hopes.false)
