use Rattle.std.proofs.Common.{◌≡◌, ◌+◌, ◌∙◌, [], Some, None, ap, arith}
use Rattle.std.specs.List.{position}
use Rattle.trace_sheets.specs.Handed.{has_line, marked_at, marks, rest_at, walk}
use Rattle.trace_sheets.specs.Sheets.{without_blanks}
use Rattle.trace_sheets.proofs.Handing.{hands_more}
use Rattle.trace_sheets.proofs.Lines.{said_in}
use Rattle.trace_sheets.proofs.handed.HandingCollector.collect.Goals as goal

pub returns-in-Nothing-clause-kept : goal.returns-in-Nothing-clause-kept
returns-in-Nothing-clause-kept c start texts number went =
    let s = c.args.self.now in
    let says = said_in c.args.text.now c.without_blanks-text.ensures c.in-Nothing.is c.in-Ok.ensures.ok in
    let old = marks s.machine.now s.behind s.report.now.items s.score in
    let place : c.args.number ≡ s.lines + 1 = omega (arith, number, went.0.lines) in (
      hands_more went.0 c.args.text.now None (walk c.args.number s.questions.now old) says (ap (λ k. walk k s.questions.now old) place)
          (omega arith),
      went.1,
    )

pub returns-in-Ok-take-clause-kept : goal.returns-in-Ok-take-clause-kept
returns-in-Ok-take-clause-kept c start texts number went =
    let s = c.args.self.now in
    let t = c.take.new.self in
    let line = c.in-Command.line in
    let took = c.in-Ok-take.ensures in
    let says = said_in c.args.text.now c.without_blanks-text.ensures c.in-Command.is c.in-Ok.ensures.ok in
    let qs = s.questions.now in
    let at = position (has_line line) qs in
    let old = marks s.machine.now s.behind s.report.now.items s.score in
    let new = marks t.machine.now t.behind t.report.now.items t.score in
    let place : c.args.number ≡ s.lines + 1 = omega (arith, number, went.0.lines) in (
      hands_more went.0 c.args.text.now (Some (line, None)) (walk t.lines t.questions.now new) says (
          ap (λ k. walk k t.questions.now new) (took.same.1 ∙ place)
          ∙ ap (λ rest. walk (s.lines + 1) rest new) took.rest
          ∙ ap (walk (s.lines + 1) (rest_at qs at)) (
          took.marked
          ∙ ap (λ f. marked_at f c.args.number c.without_blanks-text.result.now line [] old qs at) went.1
          ∙ ap (λ front. marked_at start.format c.args.number front line [] old qs at) c.without_blanks-text.ensures
          ∙ ap (λ k. marked_at start.format k (without_blanks c.args.text.now) line [] old qs at) place
          )
          ) took.total,
      took.same.0 ∙ went.1,
    )

pub returns-in-Ok-take-2-clause-kept : goal.returns-in-Ok-take-2-clause-kept
returns-in-Ok-take-2-clause-kept c start texts number went =
    let s = c.args.self.now in
    let t = c.take-in-Prediction.new.self in
    let line = c.in-Prediction.line in
    let said = c.in-Prediction.said.now in
    let took = c.in-Ok-take-2.ensures in
    let says = said_in c.args.text.now c.without_blanks-text.ensures c.in-Prediction.is c.in-Ok.ensures.ok in
    let qs = s.questions.now in
    let at = position (has_line line) qs in
    let old = marks s.machine.now s.behind s.report.now.items s.score in
    let new = marks t.machine.now t.behind t.report.now.items t.score in
    let place : c.args.number ≡ s.lines + 1 = omega (arith, number, went.0.lines) in (
      hands_more went.0 c.args.text.now (Some (line, Some said)) (walk t.lines t.questions.now new) says.0 (
          ap (λ k. walk k t.questions.now new) (took.same.1 ∙ place)
          ∙ ap (λ rest. walk (s.lines + 1) rest new) took.rest
          ∙ ap (walk (s.lines + 1) (rest_at qs at)) (
          took.marked
          ∙ ap (λ f. marked_at f c.args.number c.without_blanks-text.result.now line said old qs at) went.1
          ∙ ap (λ front. marked_at start.format c.args.number front line said old qs at) c.without_blanks-text.ensures
          ∙ ap (λ k. marked_at start.format k (without_blanks c.args.text.now) line said old qs at) place
          )
          ) took.total,
      took.same.0 ∙ went.1,
    )
