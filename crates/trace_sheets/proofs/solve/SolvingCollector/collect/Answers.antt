use Rattle.std.proofs.Common.{◌++◌, ◌∷◌, [], ◌∙◌, Some, None, cond, length, ap}
use Rattle.trace_text.specs.Codes.{line_feed}
use Rattle.trace_sheets.specs.Forms.{full_text}
use Rattle.trace_sheets.specs.Sheets.{is_open, without_blanks}
use Rattle.trace_sheets.specs.Solutions.{filled}
use Rattle.trace_sheets.proofs.Lines.{said_in}
use Rattle.trace_sheets.proofs.Solving.{solves_more}
use Rattle.trace_sheets.proofs.solve.SolvingCollector.collect.Goals as goal

pub returns-in-Ok-keep-clause-kept : goal.returns-in-Ok-keep-clause-kept
returns-in-Ok-keep-clause-kept c start texts number went =
    let says = said_in c.args.text.now c.without_blanks-front.ensures c.in-Nothing.is c.in-Ok.ensures.ok in
    let kept = c.in-Ok-keep.ensures in
    solves_more went c.args.text.now None c.keep.new.self.machine.now c.keep.new.self.solution.now.items says (ap (λ m. m.now) kept.machine)
    kept.added

pub returns-in-Ok-keep-2-clause-kept : goal.returns-in-Ok-keep-2-clause-kept
returns-in-Ok-keep-2-clause-kept c start texts number went =
    let says = said_in c.args.text.now c.without_blanks-front.ensures c.in-Command.is c.in-Ok.ensures.ok in
    let kept = c.in-Ok-keep-2.ensures in
    let new = c.keep-in-Command.new.self in
    solves_more went c.args.text.now (Some (c.in-Command.line, None)) new.machine.now new.solution.now.items says
    (ap (λ m. m.now) kept.machine ∙ c.new-came.ensures.after) kept.added

pub returns-in-Ok-answer-clause-kept : goal.returns-in-Ok-answer-clause-kept
returns-in-Ok-answer-clause-kept c start texts number went =
    let text = c.args.text.now in
    let line = c.in-Prediction.line in
    let said = c.in-Prediction.said.now in
    let says = said_in text c.without_blanks-front.ensures c.in-Prediction.is c.in-Ok.ensures.ok in
    let came = c.new-came-in-Prediction in
    let kept = c.in-Ok-answer.ensures in
    let new = c.answer.new.self in
    let old = c.args.self.now.solution.now.items in
    solves_more went text (Some (line, Some said)) new.machine.now new.solution.now.items says.0
    (ap (λ m. m.now) kept.machine ∙ came.ensures.after)
    (kept.added
    ∙ ap (λ k. old ++ (cond (is_open said) (filled k text (full_text came.result)) text ++ line_feed ∷ []))
    (ap length c.without_blanks-front.ensures)
    ∙ ap (λ x. old ++ (cond (is_open said) (filled (length (without_blanks text)) text (full_text x)) text ++ line_feed ∷ []))
    came.ensures.came)
