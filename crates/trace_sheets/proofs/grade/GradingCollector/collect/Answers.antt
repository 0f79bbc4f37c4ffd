use Rattle.std.proofs.Common.{◌∙◌, ◌++◌, ap, refl, arith, Some, None}
use Rattle.trace_sheets.specs.Sheets.{without_blanks}
use Rattle.trace_sheets.specs.Grades.{asked_of, came_of, correction, mark_of, with_mark}
use Rattle.trace_sheets.proofs.Grading.{few_marks, graded_more, told_behind}
use Rattle.trace_sheets.proofs.Lines.{said_in}
use Rattle.trace_sheets.proofs.grade.GradingCollector.collect.Goals as goal

pub mark-requires-clause-few : goal.mark-requires-clause-few
mark-requires-clause-few c = omega (arith, few_marks c.requires.went.2.2, c.requires.went.3, c.requires.few)

pub returns-in-Nothing-clause-kept : goal.returns-in-Nothing-clause-kept
returns-in-Nothing-clause-kept c start texts number went =
    let says = said_in c.args.text.now c.without_blanks-text.ensures c.in-Nothing.is c.in-Ok.ensures.ok in
    (went.0, went.1, graded_more went.2 c.args.text.now c.args.number None _ _ _ number says (refl, refl, refl))

pub returns-in-Command-clause-kept : goal.returns-in-Command-clause-kept
returns-in-Command-clause-kept c start texts number went =
    let says = said_in c.args.text.now c.without_blanks-text.ensures c.in-Command.is c.in-Ok.ensures.ok in (
      went.0,
      went.1,
      graded_more went.2 c.args.text.now c.args.number (Some (c.in-Command.line, None)) _ _ _ number says
          (c.new-came.ensures.after, refl, refl),
    )

pub returns-in-Ok-mark-clause-kept : goal.returns-in-Ok-mark-clause-kept
returns-in-Ok-mark-clause-kept c start texts number went =
    let old = c.args.self.now in
    let before = old.report.now.items in
    let blanks = c.without_blanks-text.ensures in
    let front = c.without_blanks-text.result.now in
    let text = without_blanks c.args.text.now in
    let n = c.args.number in
    let m = old.machine.now in
    let line = c.in-Prediction.line in
    let said = c.in-Prediction.said.now in
    let came = c.new-came-in-Prediction.ensures in
    let marked = c.in-Ok-mark.ensures in
    let says = said_in c.args.text.now blanks c.in-Prediction.is c.in-Ok.ensures.ok in (
      marked.format ∙ went.0,
      marked.marking ∙ went.1,
      graded_more went.2 c.args.text.now n (Some (line, Some said)) _ c.mark.new.self.report.now.items c.mark.new.self.score number says.0 (
        ap (λ m. m.now) marked.machine ∙ came.after,
        marked.report
            ∙ ap (λ l. before ++ l) (told_behind old.format old.marking n m _ front line said _ _ came.came came.after says.1)
            ∙ ap (λ t. before ++ correction old.format old.marking (asked_of n m t line said)) blanks
            ∙ ap (λ format. before ++ correction format old.marking (asked_of n m text line said)) went.0
            ∙ ap (λ marking. before ++ correction start.format marking (asked_of n m text line said)) went.1,
        marked.score
            ∙ ap (λ x. with_mark old.score (mark_of old.marking x said)) came.came
            ∙ ap (λ marking. with_mark old.score (mark_of marking (came_of m line) said)) went.1,
      ),
    )
