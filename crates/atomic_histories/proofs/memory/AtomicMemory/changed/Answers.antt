use Rattle.std.proofs.Common.{◌≡◌, ℕ, false, nat_eq, List, IfOk, IfErr, OnOk}
use Rattle.std.specs.HashMap.{get}
use Rattle.atomic_histories.specs.declared.unit.Operation.{Operation}
use Rattle.atomic_histories.specs.declared.unit.UnitPlace.{UnitPlace}
use Rattle.atomic_histories.specs.Law.{unit_at}
use Rattle.atomic_histories.specs.Followed.{Ways, ways_after}
use Rattle.atomic_histories.specs.Held.{is_without}
use Rattle.atomic_histories.specs.Few.{IsFewFor}
use Rattle.atomic_histories.specs.Judge.{held, ChangedFaultIs}
use Rattle.atomic_histories.specs.Shown.{shown_unit, words_in}
use Rattle.atomic_histories.proofs.Ranges.{kept_none, words_none, said_there}
use Rattle.atomic_histories.proofs.memory.AtomicMemory.changed.Goals.{After-drop-unit-in-None-2}
use Rattle.atomic_histories.proofs.memory.AtomicMemory.changed.Goals as goal

-- what is said of a unit that no operation has touched is said of what is kept under its number
of_kept : (c : After-drop-unit-in-None-2) → (P : UnitPlace → ℕ → Ways → List Operation → Type 0)
    → P c.place-place.result (words_in c.in_ok-unit-in-None.unit.stretches.items) (shown_unit c.in_ok-unit-in-None.unit)
    c.as_slice-loads.result.now
    → P (unit_at (held c.args.self.now).size c.args.number) ((held c.args.self.now).words c.args.number)
    ((held c.args.self.now).units c.args.number) c.args.self.now.loads.items
of_kept c P =
    let m = c.args.self.now in
    let f = get nat_eq m.units in
    let unit = c.in_ok-unit-in-None.unit in
    let none = c.in-None.ensures.value in
    said_there P _ _ _ _ _ _ _ _ c.place-place.ensures (words_none f c.args.number unit none c.in_ok-unit-in-None.ensures.stretches)
    (kept_none m.image.items m.rest (held m).size f c.args.number c.place-place.result unit c.as_slice.result.now none
    c.as_slice.ensures.value c.place-place.ensures c.in_ok-unit-in-None.ensures.shown) c.as_slice-loads.ensures.value

pub returns-in_ok-unit-in-None-clause-unit : goal.returns-in_ok-unit-in-None-clause-unit
returns-in_ok-unit-in-None-clause-unit c =
    of_kept c (λ p n w ls. IfOk c.changed_unit-in-None.result (λ u. shown_unit u ≡ ways_after p w c.args.event))
    c.changed_unit-in-None.ensures.unit

pub returns-in_ok-unit-in-None-clause-left : goal.returns-in_ok-unit-in-None-clause-left
returns-in_ok-unit-in-None-clause-left c =
    of_kept c (λ p n w ls. OnOk c.changed_unit-in-None.result (is_without w (ways_after p w c.args.event) ≡ false))
    c.changed_unit-in-None.ensures.left

pub returns-in_ok-unit-in-None-clause-words : goal.returns-in_ok-unit-in-None-clause-words
returns-in_ok-unit-in-None-clause-words c =
    of_kept c (λ p n w ls. OnOk c.changed_unit-in-None.result (IsFewFor w c.args.event)) c.changed_unit-in-None.ensures.words

pub returns-in_ok-unit-in-None-clause-fault : goal.returns-in_ok-unit-in-None-clause-fault
returns-in_ok-unit-in-None-clause-fault c =
    of_kept c (λ p n w ls. IfErr c.changed_unit-in-None.result (ChangedFaultIs c.args.self.now.limit p n w c.args.event ls))
    c.changed_unit-in-None.ensures.fault
