use Rattle.std.proofs.Common.{sym}
use Rattle.cache_law.proofs.Present.{live_for-some}
use Rattle.cache_unit.proofs.unit.retire.Goals as goal

pub make_obsolete-requires : goal.make_obsolete-requires
make_obsolete-requires c =
    let p = live_for-some _ _ c.in-Some.slot (sym c.in-Some.ensures.answer) in
    record { slot = p.0; live = p.1 }
