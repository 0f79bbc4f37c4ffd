use Rattle.std.proofs.Common.{◌≡◌, ◌∙◌, ap, sym, Option, Some, None}
use Rattle.std.specs.Option.{option_and_then}
use Rattle.history_reasons.specs.declared.open.OpenOperation.{OpenOperation}
use Rattle.history_reasons.specs.Open.{operation_under}
use Rattle.history_reasons.specs.Units.{unit_reason}
use Rattle.history_sessions.specs.Reasons.{unit_bytes}
use Rattle.history_sessions.proofs.session.HistorySession.reason.Goals as goal

pub returns-in_err-load : goal.returns-in_err-load
returns-in_err-load c s k few =
    let none : operation_under c.args.number s.loads ≡ None = sym (c.load_under.ensures s k) ∙ c.in_err-load.was in
    c.from_residual.ensures
    ∙ sym (ap (λ (o : Option OpenOperation). option_and_then (λ x. unit_reason s.seen (unit_bytes s.law) c.args.number x.address
    c.args.bytes.now
    c.args.place) o) none)

pub returns : goal.returns
returns c s k few =
    let some : operation_under c.args.number s.loads ≡ Some c.in_ok-load.load = sym (c.load_under.ensures s k) ∙ c.in_ok-load.was in
    let size = c.unit_bytes.ensures.bytes ∙ ap unit_bytes k.law in
    c.unit_reason.ensures s.seen (k.log few)
    ∙ ap (λ n. unit_reason s.seen n c.args.number c.in_ok-load.load.address c.args.bytes.now c.args.place) size
    ∙ sym (ap (λ (o : Option OpenOperation). option_and_then (λ x. unit_reason s.seen (unit_bytes s.law) c.args.number x.address
    c.args.bytes.now
    c.args.place) o) some)
