use Rattle.std.proofs.Common.{arith, ◌≡◌, nat_eq, ap, ◌∙◌, refl}
use Rattle.std.specs.HashMap.{get}
use Rattle.std.specs.List.{filter}
use Rattle.std.proofs.Math.Path.{fun_ext}
use Rattle.memory_histories.specs.Windows.{is_open}
use Rattle.memory_histories.specs.Kept.{answered_after}
use Rattle.memory_histories.specs.Parts.{parts_bytes}
use Rattle.memory_histories.specs.Shown.{kept, answered_in, put_units}
use Rattle.memory_histories.proofs.Units.{put_all}
use Rattle.memory_histories.proofs.regular.RegularMemory.answer_parts.Goals as goal

pub returns-clause-ok : goal.returns-clause-ok
unfolding kept
returns-clause-ok c =
    let m = c.args.self.now in
    let before = answered_in (get nat_eq m.units) in
    let ending = parts_bytes c.as_slice-2.result.now in
    let bytes : ending ≡ filter (is_open c.args.number) (parts_bytes m.stores.items) = grind arith in
    let same : get nat_eq c.reserve.new.self ≡ get nat_eq m.units = fun_ext c.in_ok-reserve.ensures.entries.2 in
    let after : answered_in (get nat_eq c.put_changes.new.units) ≡ (λ unit. answered_after m.moment ending unit (before unit)) =
    fun_ext (λ unit. c.put_changes.ensures unit
    ∙ (ap (λ units. put_units (answered_in units) c.in_ok-changes.changes.items unit) same
    ∙ put_all m.moment c.as_slice-2.result.now before _ c.in_ok-changes.ensures.after c.in_ok-changes.ensures.whole unit)) in
    rw (after, bytes, c.end_store.ensures) refl
