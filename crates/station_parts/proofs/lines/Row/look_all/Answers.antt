use Rattle.station_parts.proofs.Rowing.{looks_none, looks_steps}
use Rattle.station_parts.proofs.lines.Row.look_all.Goals as goal

pub loop-bank-init : goal.loop-bank-init
loop-bank-init c = looks_none _

pub loop-bank-preserved : goal.loop-bank-preserved
loop-bank-preserved c = looks_steps _ _ _ c.loop-bank.invariant c.look.ensures.looks
