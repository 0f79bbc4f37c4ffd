use Rattle.kroft_command.specs.Tool.{of_trace}
use Rattle.kroft_command.specs.Program.{Solves}
use Rattle.kroft_command.proofs.Answering.{told_err}
use Rattle.kroft_command.proofs.tasks.solve.Goals as goal

pub returns-in_err-solve-clause-ends : goal.returns-in_err-solve-clause-ends
unfolding Solves
returns-in_err-solve-clause-ends g c =
    (c.solve.result, c.solve.ensures, told_err (λ done. 0) of_trace _ _ c.in_err-solve.was _ c.from_residual.ensures.1)
