use Rattle.std.proofs.Common.{◌≡◌, ◌+◌, ◌-◌, ◌∙◌, ap, sym, arith, take, drop, length, Some, Ok, Err}
use Rattle.std.proofs.lemmas.Grind.{common_steps}
use Rattle.trace_sheets.proofs.Lines.{line_predicted}
use Rattle.trace_sheets.proofs.sheet.predicted.Goals as goal

pub returns-in-Err-clause-fault : goal.returns-in-Err-clause-fault
returns-in-Err-clause-fault c = (
  line_predicted c.args.text.now c.args.at (Err c.in-Err.fault) c.requires.some c.requires.arrow c.in-Err.ensures.line,
  c.in-Err.ensures.fault,
)

pub returns-clause-ok : goal.returns-clause-ok
returns-clause-ok c =
    let text = c.args.text.now in
    let at = c.args.at in
    let line = c.in-Ok.line in
    let all : take (length text - (at + 4)) (drop (at + 4) text) ≡ drop (at + 4) text = grind (arith, common_steps) in (
      line_predicted text at (Ok line) c.requires.some c.requires.arrow c.in-Ok.ensures.line ∙ ap (λ s. Ok (Some (line, Some s))) (sym all),
      c.is_readable.ensures,
    )
