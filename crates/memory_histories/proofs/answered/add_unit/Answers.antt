use Rattle.std.proofs.Common.{◌≡◌, ℕ, ◌==◌, if◌then◌else◌, [], ◌∙◌, nat_eq, ap, refl}
use Rattle.std.specs.HashMap.{get}
use Rattle.std.proofs.Math.Path.{fun_ext}
use Rattle.std.proofs.lemmas.Bool.{eq-eqb}
use Rattle.memory_histories.specs.Parts.{parts_bytes}
use Rattle.memory_histories.specs.Shown.{answered_in, parts_or}
use Rattle.memory_histories.proofs.Pieces.{after_part}
use Rattle.memory_histories.proofs.Units.{one_part}
use Rattle.memory_histories.proofs.answered.add_unit.Goals as goal

pub returns-clause-ok : goal.returns-clause-ok
returns-clause-ok c =
    let p = c.args.part.now in
    let before = answered_in (get nat_eq c.args.units.now) in
    let same : get nat_eq c.reserve.new.self ≡ get nat_eq c.args.units.now = fun_ext c.in_ok-reserve.ensures.entries.2 in
    let at = λ (u : ℕ). c.put_unit.ensures.at u
    ∙ ap (λ units. if p.unit == u then parts_bytes c.push_reserved.new.self.items else answered_in units u) same in
    let none : before p.unit ≡ [] = ap (λ o. parts_bytes (parts_or o)) c.requires in
    let one = eq-eqb p.unit p.unit refl in
    one_part c.args.moment p before _
    (at p.unit ∙ rw (one, c.push_reserved.ensures.items, c.in_ok-parts.ensures.items, c.answered_part.ensures, none)
    (after_part c.args.moment p [])) (λ u e. at u ∙ rw e refl)
