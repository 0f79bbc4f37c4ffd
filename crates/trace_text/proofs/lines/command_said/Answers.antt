use Rattle.std.proofs.Common.{arith, sym, ap, ◌∙◌}
use Rattle.std.specs.Prelude.{None}
use Rattle.std.specs.Option.{option_map}
use Rattle.trace_text.proofs.Commands.{command_is, bare_said, fields_said, longer_said, no_command}
use Rattle.trace_text.proofs.lines.command_said.Goals as goal

pub returns-in_err-command-clause-command : goal.returns-in_err-command-clause-command
returns-in_err-command-clause-command c =
    ap (λ o. option_map (λ said. said.0) o) c.from_residual.ensures ∙ sym (no_command c.args.text.now c.in_err-command.ensures.none)

pub returns-in-empty-clause-command : goal.returns-in-empty-clause-command
returns-in-empty-clause-command c =
    command_is _ c.args.text.now None
    (bare_said _ _ _ c.in_ok-command.ensures.some c.in-empty.len_below)

pub returns-in-32-clause-command : goal.returns-in-32-clause-command
returns-in-32-clause-command c =
    command_is _ c.args.text.now _
    (fields_said _ _ _ c.in_ok-command.ensures.some
    (omega (arith, c.in-32.len_at_least)) (omega arith))

pub returns-in_default-clause-command : goal.returns-in_default-clause-command
returns-in_default-clause-command c =
    sym (longer_said _ _ _ c.in_ok-command.ensures.some
    (omega (arith, c.in_default.len_at_least)) (λ is. omega (arith, is)))
