use Rattle.kroft_command.specs.Tool.{of_trace}
use Rattle.kroft_command.specs.Program.{Runs}
use Rattle.kroft_command.proofs.Answering.{told_err}
use Rattle.kroft_command.proofs.tasks.run.Goals as goal

pub returns-in_err-serve-clause-ends : goal.returns-in_err-serve-clause-ends
unfolding Runs
returns-in_err-serve-clause-ends g c = (
  c.serve.result,
  c.serve.ensures.0,
  c.serve.ensures.1,
  told_err (λ counts. 0) of_trace _ _ c.in_err-serve.was _ c.from_residual.ensures.1,
)
