use Rattle.std.proofs.Common.{Some, ◌∙◌, ap, sym, subst}
use Rattle.history_text.specs.declared.answers.RefusalCause.{RefusalCause}
use Rattle.history_text.specs.declared.answers.RefusalCause.TheVariants.{WrongByte}
use Rattle.history_text.specs.Answers.{bytes_in_set}
use Rattle.history_text.specs.Notes.{alternatives_of}
use Rattle.history_text.specs.Refusals.{IsWrongByte, IsWrong}
use Rattle.history_text.proofs.notes.wrong_byte.Goals as goal

pub returns : goal.returns
returns c s st =
    let load = c.args.load in
    let bytes = c.args.bytes.now in
    let place = c.args.place in
    let returned = c.in-Some-byte_at.returned in
    let allowed = c.in-Some.allowed in
    let sources = c.in_ok-sources.sources in
    let address = c.byte_address-address.ensures in
    let overwritten = c.overwritten-overwritten.ensures s st in
    let cause : RefusalCause = WrongByte c.byte_address-address.result returned allowed sources c.overwritten-overwritten.result in
    let here : IsWrongByte s load bytes place returned allowed cause = record {
      sources = sources;
      named = c.in_ok-sources.ensures s st ∙ ap (λ a. alternatives_of s load.number a (bytes_in_set allowed)) address;
      is = λ i. WrongByte (address i) returned allowed sources (overwritten i);
    } in
    subst (λ b. IsWrong s load bytes place b c.args.allowed cause) (sym c.in-Some-byte_at.is ∙ c.byte_at.ensures)
    (subst (λ a. IsWrong s load bytes place (Some returned) a cause) (sym c.in-Some.is) here)
