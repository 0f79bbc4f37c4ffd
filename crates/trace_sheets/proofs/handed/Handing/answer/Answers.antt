use Rattle.std.proofs.Common.{◌≡◌, ◌++◌, ◌∙◌, true, false, cond, slice_index_or, ap, sym, arith}
use Rattle.trace_text.proofs.Held.{on_ok}
use Rattle.trace_text.specs.Texts.{after_line}
use Rattle.trace_text.specs.declared.lines.Line.TheVariants as line
use Rattle.machine_core.specs.Words.{Load}
use Rattle.trace_sheets.specs.Forms.{full_text, told}
use Rattle.trace_sheets.specs.Grades.{asked_of, correction, mark, mark_of, told_if, why_told, with_mark}
use Rattle.trace_sheets.specs.Handed.{marks, past, told_of}
use Rattle.trace_sheets.specs.declared.handed.Question.{Question}
use Rattle.trace_sheets.specs.declared.score.Marking.TheVariants.{Strict}
use Rattle.trace_sheets.proofs.Grading.{told_behind}
use Rattle.trace_sheets.proofs.Handing.{answered_first_is}
use Rattle.trace_sheets.proofs.handed.Handing.answer.Goals as goal

pub returns-clause-marked : goal.returns-clause-marked
returns-clause-marked c =
    let s = c.args.self.now in
    let m = s.machine.now in
    let n = c.args.number in
    let none : Question = record { number = 0; line = line.Event (Load 0 0); is_asked = false } in
    let q = slice_index_or c.args.questions.now 0 none in
    let came = c.new-came.result in
    let next = c.new-came.new.machine in
    let text = c.args.text.now in
    let said = c.args.said.now in
    let a = asked_of n m text c.args.line said in
    let asked : q.is_asked ≡ true = grind (arith, c.if-not-question.false) in
    let old = marks m s.behind s.report.now.items s.score in
    let mark_is = c.mark-mark.ensures in
    let behind = after_line m c.args.line in
    on_ok c.push_mark.result (λ pushed.
    ap (λ x. marks x q.number c.push_mark.new.report.items c.count.new.self) c.new-came.ensures.after
    ∙ ap (λ r. marks behind q.number r c.count.new.self) (
    pushed
    ∙ ap (λ k. s.report.now.items ++ told_if k (told s.format n text said (full_text came) (why_told next came c.args.is_readable)))
    mark_is
    ∙ ap (λ l. s.report.now.items ++ l) (told_behind s.format Strict n m next text c.args.line said came c.args.is_readable
    c.new-came.ensures.came c.new-came.ensures.after c.requires.readable)
    )
    ∙ ap (marks behind q.number (s.report.now.items ++ correction s.format Strict a))
    (c.count.ensures ∙ ap (with_mark s.score) (mark_is ∙ ap (λ x. mark_of Strict x said) c.new-came.ensures.came))
    ∙ ap (λ b. cond b (told_of old q c.args.line (correction s.format Strict a) (mark Strict a)) (past old q c.args.line)) (sym asked)
    ∙ sym (answered_first_is s.format n text c.args.line said old c.args.questions.now none c.in-len1-up.len_at_least))
    c.push_mark.ensures
