use Rattle.history_reasons.proofs.Reasons.{reason_law}
use Rattle.history_reasons.proofs.why.Goals as goal

pub returns : goal.returns
returns c =
    let law = rw (← c.last_reason.ensures) at (reason_law c.args.image.now c.args.rest c.args.stores.now c.args.load.now c.args.byte) in
    record { told = c.last_reason.ensures; allowed = law.0; reason = law.1 }
