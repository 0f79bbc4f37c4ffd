use Rattle.std.proofs.Common.{◌≡◌, length, refl, sym, ◌∙◌, ap, subst, arith}
use Rattle.std.proofs.lemmas.Grind.{merely}
use Rattle.cache_law.specs.State.{UnitState}
use Rattle.cache_law.specs.Sound.{InRange}
use Rattle.station_parts.specs.Segments.{whole_of}
use Rattle.station_parts.proofs.Making.{are_in_range, asks_number, lines_number, answers_number, new_counted, new_tells, new_ports}
use Rattle.station_parts.proofs.Making.{new_station}
use Rattle.station_parts.proofs.make.shaped_station.Goals as goal

pub make_unit-requires : goal.make_unit-requires
make_unit-requires c =
    let z = c.args.sizes.now in
    let fits = are_in_range z c.args.ports c.args.journal (sym c.bad_size.ensures ∙ c.in_default.is) in
    fits.unit

pub invariant_of-result : goal.invariant_of-result
invariant_of-result c =
    let z = c.args.sizes.now in
    let fits = are_in_range z c.args.ports _ (sym c.bad_size.ensures ∙ c.in_default.is) in
    let is = c.in_ok-unit.ensures.ok in
    let sizes : c.in_ok-unit.unit.sizes ≡ z = cc in
    let ports = c.in_ok-ports.ensures in
    let banks = c.in_ok-banks.ensures in
    let first = c.none.ensures in
    let empty = c.in_ok-entries.ensures.items in
    let few_ports = fits.few_ports in
    record {
      shaped = sizes;
      in_range = subst InRange (sym sizes) fits.range;
      lines = lines_number _ _ _ _ banks.new ∙ banks.number ∙ sym (ap (λ (x : UnitState). x.sizes.banks) is);
      ends = answers_number _ _ _ _ banks.new ∙ banks.number ∙ sym (ap (λ (x : UnitState). x.sizes.banks) is);
      small = fits.few_entries;
      within = rw empty (omega arith);
      reserved = c.in_ok-entries.ensures.capacity;
      handed_is = ap (λ vs. length (whole_of vs)) (sym first);
      lasts = omega arith;
      tells = rw first (rw empty (merely (new_tells _ _ _ _ banks.new _ is)));
      counted = λ _. new_counted _ _ _ _ banks.new;
      few_ports = omega (arith, asks_number _ _ _ ports.new);
      ports = rw first (rw empty (new_ports _ _ _ ports.new));
    }

pub returns-clause-ok : goal.returns-clause-ok
returns-clause-ok c =
    let z = c.args.sizes.now in
    let ports = c.in_ok-ports.ensures in
    let banks = c.in_ok-banks.ensures in
    rw (sym ports.number)
    (new_station z _ _ _ _ ports.new banks.new banks.number c.in_ok-unit.ensures.ok
    c.none.ensures c.in_ok-entries.ensures.items refl refl)
