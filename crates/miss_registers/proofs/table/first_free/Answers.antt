use Rattle.std.proofs.Common.{not, sym, ◌∙◌, rules, tests}
use Rattle.std.proofs.lemmas.Iterator.{YieldsList-from_slice}
use Rattle.std.proofs.lemmas.Iterator.Search.{position_from_yields_List}
use Rattle.miss_registers.proofs.Places.{free_slot_position}
use Rattle.miss_registers.proofs.table.first_free.Goals as goal

pub returns : goal.returns
returns c =
    let ran = c.position-place.ensures.ran in
    let yields = YieldsList-from_slice _ c.iter.ensures.rest in
    let found = position_from_yields_List (λ r. not r.valid) _ _ c.position-place.result ran yields (λ x b q k. search (rules, tests)) in
    let place = found ∙ sym (free_slot_position _) in
    search (rules, tests) ∙ place
