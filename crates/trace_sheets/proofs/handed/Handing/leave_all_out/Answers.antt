use Rattle.std.proofs.Common.{◌≡◌, ◌+◌, ◌∙◌, false, slice_index_or, suc, take, take-suc, ap, sym, arith}
use Rattle.machine_core.specs.Words.{Load}
use Rattle.trace_text.specs.declared.lines.Line.TheVariants as line
use Rattle.trace_sheets.specs.Handed.{all_left_out, left_out, marks}
use Rattle.trace_sheets.specs.declared.handed.Question.{Question}
use Rattle.trace_sheets.proofs.Handing.{left_out_more}
use Rattle.trace_sheets.proofs.handed.Handing.leave_all_out.Goals as goal

pub loop-question-preserved : goal.loop-question-preserved
loop-question-preserved c =
    let s = c.args.self.now in
    let n = c.args.number in
    let i = c.loop-question.question-index in
    let qs = c.args.questions.now in
    let none : Question = record { number = 0; line = line.Event (Load 0 0); is_asked = false } in
    let q = slice_index_or qs i none in
    let next : i + 1 ≡ suc i = omega arith in
    let before = c.loop-question.self in
    let inv = c.loop-question.invariant in
    let told = c.in_ok-leave_out.ensures in
    let start = marks s.machine.now s.behind s.report.now.items s.score in
    let now = marks before.machine.now before.behind before.report.now.items before.score in (
      told.marked
          ∙ ap (λ f. left_out f n now q) inv.3.0
          ∙ ap (λ m. left_out s.format n m q) inv.0
          ∙ sym (left_out_more s.format n start (take i qs) q)
          ∙ ap (all_left_out s.format n start) (sym (take-suc qs i none c.loop-question-test.true))
          ∙ ap (λ k. all_left_out s.format n start (take k qs)) (sym next),
      omega (arith, told.total, inv.1),
      told.questions ∙ inv.2,
      (told.same.0 ∙ inv.3.0, told.same.1 ∙ inv.3.1, told.same.2 ∙ inv.3.2, told.same.3 ∙ inv.3.3),
    )
