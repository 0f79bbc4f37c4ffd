use Rattle.std.proofs.Common.{◌&&◌, IsTrue, ap₂, sym, ◌∙◌}
use Rattle.machine_core.proofs.Requests.{settled_ok}
use Rattle.machine_core.proofs.machine.ShapedMachine.settled.Goals as goal

pub returns-then-clean-clause-banks : goal.returns-then-clean-clause-banks
returns-then-clean-clause-banks c =
    let is = ap₂ (λ a b. a && b) (sym c.clean.ensures ∙ c.if-clean.true) (cc) in
    let held = λ (h : IsTrue _). settled_ok _ _ c.self.invariant.sound (is ∙ h) in
    rw (← c.self.view_is) held
