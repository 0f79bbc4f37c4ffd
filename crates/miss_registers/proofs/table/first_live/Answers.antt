use Rattle.std.proofs.Common.{Bool, ◌&&◌, ◌==◌, sym, ◌∙◌, rules, tests}
use Rattle.std.proofs.lemmas.Iterator.{YieldsList-from_slice}
use Rattle.std.proofs.lemmas.Iterator.Search.{position_from_yields_List}
use Rattle.miss_registers.specs.Registers.{Register, is_live}
use Rattle.miss_registers.proofs.Places.{live_for_position}
use Rattle.miss_registers.proofs.table.first_live.Goals as goal

pub returns : goal.returns
returns c =
    let ran = c.position-place.ensures.ran in
    let yields = YieldsList-from_slice _ c.iter.ensures.rest in
    let test : Register → Bool = λ r. is_live r && r.block == c.args.block in
    let found = position_from_yields_List test _ _ c.position-place.result ran yields (λ x b q k. search (rules, tests)) in
    let place = found ∙ sym (live_for_position _ _) in
    search (rules, tests) ∙ place
