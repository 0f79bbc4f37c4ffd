use Rattle.std.proofs.Common.{arith}
use Rattle.std.proofs.lemmas.List.{drop_more}
use Rattle.history_reasons.proofs.log.StoreLog.reason_from.Goals as goal

pub returns-in-Some : goal.returns-in-Some
returns-in-Some c w k = grind (arith, drop_more, c.loop-k.invariant w k, c.reason_at.ensures w k)
