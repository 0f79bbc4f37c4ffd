use Rattle.std.proofs.Common.{◌∙◌, ap, sym, ◌||◌}
use Rattle.std.specs.Option.{is_some}
use Rattle.trace_text.specs.Pairs.{answer_of}
use Rattle.trace_sheets.proofs.Lines.{recorded}
use Rattle.trace_sheets.proofs.sheet.is_answer.Goals as goal

pub returns-else-is_finding : goal.returns-else-is_finding
returns-else-is_finding c =
    let stands = c.requires.stands in
    let none = sym c.is_finding.ensures ∙ c.if-is_finding.false in
    c.is_recorded.ensures
    ∙ recorded c.args.text.now stands.0 stands.1 stands.2 stands.3
    ∙ ap (λ s. is_some (answer_of s)) (sym stands.4)
    ∙ ap (λ b. b || is_some (answer_of c.args.said.now)) (sym none)
