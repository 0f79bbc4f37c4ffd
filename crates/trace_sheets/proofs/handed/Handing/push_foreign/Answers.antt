use Rattle.std.proofs.Common.{◌++◌, ◌∙◌, Some, ap, codes}
use Rattle.trace_text.proofs.Held.{on_ok}
use Rattle.trace_sheets.specs.Forms.{told}
use Rattle.trace_sheets.specs.Grades.{with_mark}
use Rattle.trace_sheets.specs.Handed.{marks}
use Rattle.trace_sheets.specs.declared.score.Mark.TheVariants.{Wrong}
use Rattle.trace_sheets.proofs.handed.Handing.push_foreign.Goals as goal

pub returns-clause-marked : goal.returns-clause-marked
returns-clause-marked c =
    let s = c.args.self.now in
    on_ok c.push_form.result
    (λ pushed. ap (λ r. marks s.machine.now s.behind r (with_mark s.score Wrong)) (
    pushed
    ∙ ap (λ w. s.report.now.items ++ told s.format c.args.number c.args.text.now c.args.said.now (codes "not the sheet's") (Some w))
    (c.as_bytes.ensures.value ∙ c.in_ok-why.ensures.ok)
    )) c.push_form.ensures
