use Rattle.std.proofs.Common.{sym}
use Rattle.trace_text.specs.Lines.{BeginsNoCommand}
use Rattle.trace_text.proofs.Commands.{if_none, told_none, only_told}
use Rattle.trace_text.proofs.lines.begun_command.Goals as goal

pub returns-in_err-command-clause-none : goal.returns-in_err-command-clause-none
returns-in_err-command-clause-none c =
    if_none c.from_residual.result (BeginsNoCommand c.args.text.now) (told_none c.args.text.now (sym c.in_err-command.ensures))

pub returns-in_err-rest-clause-none : goal.returns-in_err-rest-clause-none
returns-in_err-rest-clause-none c =
    let text = c.args.text.now in
    if_none c.from_residual-in_err-rest.result (BeginsNoCommand text)
    (only_told text c.in_ok-command.command (sym c.in_ok-command.ensures) c.in_err-rest.ensures.none)
