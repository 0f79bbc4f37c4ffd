use Rattle.std.proofs.lemmas.Result.{IfOk-weaker}
use Rattle.std.proofs.Common.{◌∙◌, ap}
use Rattle.history_text.specs.Notes.{alternatives_of}
use Rattle.history_text.proofs.notes.alternatives.Goals as goal

pub returns : goal.returns
returns c =
    IfOk-weaker c.alternatives_among.result _ _
    (λ all is s st. is s st
    ∙ ap (λ bs. alternatives_of s c.args.number c.args.address bs) (c.as_slice.ensures.value ∙ c.bytes_in_set-bytes.ensures))
    c.alternatives_among.ensures
