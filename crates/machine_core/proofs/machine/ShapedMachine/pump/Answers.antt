use Rattle.std.proofs.Common.{◌≡◌, Some, is_some, ap, subst, sym, ◌∙◌}
use Rattle.machine_core.specs.Machine.{MachineState}
use Rattle.machine_core.specs.Pump.{pumped}
use Rattle.machine_core.specs.Law.{IsDriven}
use Rattle.machine_core.proofs.Whole.{is_driven, is_kept, pump_told, pump_lowers}
use Rattle.machine_core.proofs.machine.ShapedMachine.pump.Goals as goal

pub returns-in_err-event-clause-rests : goal.returns-in_err-event-clause-rests
returns-in_err-event-clause-rests c =
    let none = sym c.next_event.ensures ∙ c.in_err-event.was in
    rw (← c.self.view_is) (pump_told _ _ _ (is_driven c.self.invariant) (ap is_some c.from_residual.ensures ∙ sym (ap is_some none)))

pub returns-in_err-event-clause-kept : goal.returns-in_err-event-clause-kept
returns-in_err-event-clause-kept c =
    rw (← c.self.view_is) (is_kept c.self.invariant)

pub returns-clause-rests : goal.returns-clause-rests
returns-clause-rests c =
    let some = sym c.next_event.ensures ∙ c.in_ok-event.was in
    rw (← c.self.view_is) (pump_told _ _ (Some c.in_ok-event.event) (is_driven c.self.invariant) (sym (ap is_some some)))

pub returns-clause-lowers : goal.returns-clause-lowers
returns-clause-lowers c =
    let driven = subst (λ (s : MachineState). IsDriven s.sizes s.machine) c.self.view_is (is_driven c.self.invariant) in
    let some = sym c.next_event.ensures ∙ c.in_ok-event.was in
    let now = subst (λ (s : MachineState). pumped s.sizes s.machine ≡ Some c.in_ok-event.event) c.self.view_is some in
    pump_lowers _ _ _ c.in_ok-event.event driven now c.apply.ensures.machine
