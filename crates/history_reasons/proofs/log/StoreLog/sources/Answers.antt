use Rattle.std.proofs.Common.{arith}
use Rattle.std.proofs.lemmas.Result.{IfOk-weaker}
use Rattle.history_reasons.proofs.Logs.{log_names, names_all}
use Rattle.history_reasons.proofs.log.StoreLog.sources.Goals as goal

pub returns-clause-told : goal.returns-clause-told
returns-clause-told c w k = grind (arith, log_names)

pub returns-clause-whole : goal.returns-clause-whole
returns-clause-whole c w k all =
    IfOk-weaker c.kept_sources.result _ _ (λ v. names_all c.args.self.now w c.args.load.now c.args.byte v.items k all)
    c.kept_sources.ensures
