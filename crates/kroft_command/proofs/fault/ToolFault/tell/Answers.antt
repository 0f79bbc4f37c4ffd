use Rattle.std.proofs.Common.{rules, sym, subst, inl}
use Rattle.kroft_command.specs.Tool.{IsLineOf}
use Rattle.kroft_command.proofs.fault.ToolFault.tell.Goals as goal

pub returns-in-Ok : goal.returns-in-Ok
returns-in-Ok g c =
    let is_line = subst (IsLineOf c.args.self.now) (sym c.as_bytes.ensures.value) c.in-Ok.ensures in
    inl (c.as_bytes.result.now, is_line, search rules, c.status.ensures)
