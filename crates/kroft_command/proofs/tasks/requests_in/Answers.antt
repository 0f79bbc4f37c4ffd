use Rattle.kroft_command.specs.Tool.{of_log}
use Rattle.kroft_command.specs.Program.{WritesRequests}
use Rattle.kroft_command.proofs.Answering.{told_err}
use Rattle.kroft_command.proofs.tasks.requests_in.Goals as goal

pub returns-in_err-write_requests-clause-ends : goal.returns-in_err-write_requests-clause-ends
unfolding WritesRequests
returns-in_err-write_requests-clause-ends g c = (
  c.write_requests.result,
  c.write_requests.ensures,
  told_err (λ done. 0) of_log _ _ c.in_err-write_requests.was _ c.from_residual.ensures.1,
)
