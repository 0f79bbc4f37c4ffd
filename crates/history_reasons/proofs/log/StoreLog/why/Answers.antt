use Rattle.std.proofs.Common.{◌∙◌}
use Rattle.history_reasons.proofs.Logs.{log_tells, true_reason, no_reason}
use Rattle.history_reasons.proofs.log.StoreLog.why.Goals as goal

pub returns-clause-told : goal.returns-clause-told
returns-clause-told c w k = c.kept_reason.ensures ∙ log_tells _ w c.args.load.now _ k

pub returns-clause-reason : goal.returns-clause-reason
returns-clause-reason c w k =
    rw (c.kept_reason.ensures ∙ log_tells _ w c.args.load.now _ k) (true_reason w c.args.load.now c.args.byte)

pub returns-clause-whole : goal.returns-clause-whole
returns-clause-whole c w k all =
    rw (c.kept_reason.ensures ∙ log_tells _ w c.args.load.now _ k) (no_reason w c.args.load.now c.args.byte all)
