use Rattle.kroft_jobs.specs.Grades.{score_status}
use Rattle.kroft_command.specs.Tool.{of_trace}
use Rattle.kroft_command.specs.Program.{Grades}
use Rattle.kroft_command.proofs.Answering.{told_err}
use Rattle.kroft_command.proofs.tasks.grade.Goals as goal

pub returns-in_err-score-clause-ends : goal.returns-in_err-score-clause-ends
unfolding Grades
returns-in_err-score-clause-ends g c =
    (c.grade.result, c.grade.ensures, told_err score_status of_trace _ _ c.in_err-score.was _ c.from_residual.ensures.1)
