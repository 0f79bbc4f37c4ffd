use Rattle.std.proofs.Common.{arith}
use Rattle.history_reasons.proofs.Logs.{log_names_at_request}
use Rattle.history_reasons.proofs.log.StoreLog.sources_at_request.Goals as goal

pub returns : goal.returns
returns c w k = grind (arith, log_names_at_request)
