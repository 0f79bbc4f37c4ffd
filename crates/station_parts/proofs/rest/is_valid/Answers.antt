use Rattle.std.proofs.Common.{ap, sym}
use Rattle.cache_law.specs.State.{Register}
use Rattle.station_parts.proofs.FreeSlots.{shown_valid}
use Rattle.cache_unit.proofs.Views.{not_shown}
use Rattle.station_parts.proofs.rest.is_valid.Goals as goal

pub returns-in-None : goal.returns-in-None
returns-in-None c =
    let cache = c.args.unit.now.cache in
    let free = not_shown cache.registers c.args.slot (sym c.in-None.ensures) in
    sym (ap (λ (r : Register). r.valid) free)

pub returns-in-Some : goal.returns-in-Some
returns-in-Some c =
    let cache = c.args.unit.now.cache in
    shown_valid cache.registers c.args.slot c.in-Some.shown (sym c.in-Some.ensures)
