use Rattle.station_parts.proofs.UsedEnds.{pops_nothing}
use Rattle.station_parts.proofs.Seeing.{looks_steps}
use Rattle.station_parts.proofs.ends.look_each.Goals as goal

pub loop-place-init : goal.loop-place-init
loop-place-init g c = pops_nothing _ 0

pub loop-place-preserved : goal.loop-place-preserved
loop-place-preserved g c = looks_steps _ _ _ _ c.loop-place.invariant c.count_at.ensures.looks
