use Rattle.std.proofs.Common.{◌≤◌, sym, ap, subst, ◌∙◌, arith}
use Rattle.machine_core.specs.Machine.{MachineState}
use Rattle.machine_core.specs.AnyMachine.{answered}
use Rattle.machine_core.specs.Law.{most_weight}
use Rattle.machine_core.specs.Whole.{IsWholeState}
use Rattle.round_driver.specs.Rounds.{is_end}
use Rattle.register_sweeps.proofs.EnoughTurns.{enough_turns}
use Rattle.register_sweeps.proofs.row.most_turns.Goals as goal

pub returns-then-is_request-clause-same : goal.returns-then-is_request-clause-same
returns-then-is_request-clause-same c = λ d here.
    let request = sym c.is_request.ensures ∙ c.if-is_request.true in
    let whole = subst IsWholeState (sym here) c.requires.whole in
    let waits = ap (λ (s : MachineState). is_end (answered s c.args.event)) here ∙ c.requires.waits request in
    let enough : most_weight c.args.machine.now.sizes ≤ 4294967295 = omega (arith, c.requires.few) in
    let enough_here : most_weight d.state.sizes ≤ 4294967295 = subst (λ (s : MachineState). most_weight s.sizes ≤ 4294967295)
    (sym here) enough in
    enough_turns 4294967295 c.args.event d request whole waits enough_here
