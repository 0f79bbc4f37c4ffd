use Rattle.kroft_jobs.specs.Grades.{score_status}
use Rattle.kroft_command.specs.Tool.{of_trace}
use Rattle.kroft_command.specs.Program.{GradesBy}
use Rattle.kroft_command.proofs.Answering.{told_err}
use Rattle.kroft_command.proofs.tasks.grade_by.Goals as goal

pub returns-in_err-marks-clause-ends : goal.returns-in_err-marks-clause-ends
unfolding GradesBy
returns-in_err-marks-clause-ends g c =
    (c.grade_by.result, c.grade_by.ensures, told_err score_status of_trace _ _ c.in_err-marks.was _ c.from_residual.ensures.1)
