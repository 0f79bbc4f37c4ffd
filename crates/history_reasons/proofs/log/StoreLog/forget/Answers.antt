use Rattle.history_reasons.proofs.Logs.{not_shortened}
use Rattle.history_reasons.proofs.log.StoreLog.forget.Goals as goal

pub returns-else-self : goal.returns-else-self
returns-else-self c = not_shortened _ c.if-self.false
