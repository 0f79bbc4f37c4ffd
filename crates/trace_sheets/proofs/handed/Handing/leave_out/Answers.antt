use Rattle.std.proofs.Common.{◌≡◌, ◌++◌, ◌∙◌, [], true, cond, ap, sym, arith}
use Rattle.trace_text.proofs.Held.{on_ok}
use Rattle.trace_text.specs.Texts.{after_line}
use Rattle.trace_sheets.specs.Forms.{full_text, told}
use Rattle.trace_sheets.specs.Grades.{came_of, why_of, why_told}
use Rattle.trace_sheets.specs.Handed.{left_out_text, marks, past, told_of}
use Rattle.trace_sheets.specs.declared.score.Mark.TheVariants.{Wrong}
use Rattle.trace_sheets.proofs.Handing.{lost_is}
use Rattle.trace_sheets.proofs.handed.Handing.leave_out.Goals as goal

pub returns-clause-marked : goal.returns-clause-marked
returns-clause-marked c =
    let s = c.args.self.now in
    let m = s.machine.now in
    let n = c.args.number in
    let q = c.args.question.now in
    let came = c.new-came.result in
    let next = c.new-came.new.machine in
    let asked : q.is_asked ≡ true = grind (arith, c.if-not-question.false) in
    let old = marks m s.behind s.report.now.items s.score in
    let text = told s.format n (left_out_text q.number) [] (full_text (came_of m q.line)) (why_of m q.line) in
    on_ok c.push_told.result (λ pushed.
    ap (λ x. marks x q.number c.push_told.new.report.items c.count.new.self) c.new-came.ensures.after
    ∙ ap (λ r. marks (after_line m q.line) q.number r c.count.new.self) (
    pushed
    ∙ ap (λ t. s.report.now.items ++ told s.format n t [] (full_text came) (why_told next came true))
    (c.as_bytes.ensures.value ∙ c.in_ok-text.ensures.ok)
    ∙ ap (λ l. s.report.now.items ++ l) (lost_is s.format n m next q.number q.line came c.new-came.ensures.came c.new-came.ensures.after)
    )
    ∙ ap (marks (after_line m q.line) q.number (s.report.now.items ++ text)) c.count.ensures
    ∙ ap (λ b. cond b (told_of old q q.line text Wrong) (past old q q.line)) (sym asked)) c.push_told.ensures
