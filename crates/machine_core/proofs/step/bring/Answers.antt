use Rattle.std.proofs.Common.{sym, ◌∙◌}
use Rattle.machine_core.proofs.Whole.{brought, left}
use Rattle.machine_core.proofs.step.bring.Goals as goal

pub returns-in-Moved : goal.returns-in-Moved
returns-in-Moved c =
    let is = sym c.answer_at.ensures ∙ c.in-Some.is in
    let moves = c.in-Moved.is in
    brought _ _ _ _ _ c.in-Some.answer is _ _ c.arrive-told.ensures moves _
    c.take_answer.ensures.banks

pub returns-in_default-told : goal.returns-in_default-told
returns-in_default-told c =
    let is = sym c.answer_at.ensures ∙ c.in-Some.is in
    left _ _ _ _ _ c.in-Some.answer is _ _ c.arrive-told.ensures
    c.in_default-told.not-Moved
