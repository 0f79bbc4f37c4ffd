use Rattle.history_reasons.proofs.OpenLemmas.{under}
use Rattle.history_reasons.proofs.log.StoreLog.load_under.Goals as goal

pub returns : goal.returns
returns c =
    rw (c.load_operation.ensures, c.load_under.ensures, c.as_slice.ensures.value) (under c.args.number c.args.self.now.loads.items)
