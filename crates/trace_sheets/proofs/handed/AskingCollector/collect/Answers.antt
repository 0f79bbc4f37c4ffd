use Rattle.std.proofs.Common.{◌≡◌, ◌++◌, ◌∷◌, [], ◌∙◌, Some, None, append-nil, ap, sym}
use Rattle.trace_text.proofs.Held.{on_ok}
use Rattle.trace_sheets.proofs.Handing.{asks_more}
use Rattle.trace_sheets.proofs.Lines.{said_in}
use Rattle.trace_sheets.proofs.handed.AskingCollector.collect.Goals as goal

pub returns-in-Nothing-clause-kept : goal.returns-in-Nothing-clause-kept
returns-in-Nothing-clause-kept c start texts number went =
    let says = said_in c.args.text.now c.without_blanks-text.ensures c.in-Nothing.is c.in-Ok.ensures.ok in
    asks_more texts went number c.args.text.now None says (sym (append-nil c.args.self.now.questions.items))

pub returns-in-Command-clause-kept : goal.returns-in-Command-clause-kept
returns-in-Command-clause-kept c =
    let says = said_in c.args.text.now c.without_blanks-text.ensures c.in-Command.is c.in-Ok.ensures.ok in
    let asked = Some (c.in-Command.line, None) in
    on_ok c.ask.result (λ added start texts number went. asks_more texts went number c.args.text.now asked says added) c.ask.ensures.ok

pub returns-in-Prediction-clause-kept : goal.returns-in-Prediction-clause-kept
returns-in-Prediction-clause-kept c =
    let said = c.in-Prediction in
    let says = said_in c.args.text.now c.without_blanks-text.ensures said.is c.in-Ok.ensures.ok in
    let asked = Some (said.line, Some said.said.now) in
    let asks = ap (λ b. c.args.self.now.questions.items ++ record { number = c.args.number; line = said.line; is_asked = b } ∷ [])
    c.is_open.ensures in
    on_ok c.ask-in-Prediction.result
    (λ added start texts number went. asks_more texts went number c.args.text.now asked says.0 (added ∙ asks))
    c.ask-in-Prediction.ensures.ok
