use Rattle.std.proofs.Common.{◌≡◌, ◌+◌, ◌≤◌, take}
use Rattle.trace_sheets.specs.Forms.{total}
use Rattle.trace_sheets.specs.Handed.{all_left_out, marks}
use Rattle.trace_sheets.proofs.handed.Handing.leave_all_out.Given as goal

-- those that were looked at are left out
abbrev pub invariant-loop-question : goal.invariant-loop-question
invariant-loop-question l =
    let now = l.self in
    let old = l.initial.self in
    (marks now.machine.now now.behind now.report.now.items now.score
    ≡ all_left_out old.format l.number (marks old.machine.now old.behind old.report.now.items old.score)
    (take l.question-index l.questions))
    × (total now.score ≤ total old.score + l.question-index)
    × (now.questions.now ≡ old.questions.now)
    × ((now.format ≡ old.format) × (now.lines ≡ old.lines) × (now.machine.ghost_name ≡ old.machine.ghost_name)
    × (now.report.ghost_name ≡ old.report.ghost_name))
