use Rattle.std.proofs.Common.{arith}
use Rattle.history_reasons.proofs.LoadLemmas.{byte_found}
use Rattle.history_reasons.proofs.log.StoreLog.load_at.Goals as goal

pub returns : goal.returns
returns c w k = grind (arith, byte_found)
