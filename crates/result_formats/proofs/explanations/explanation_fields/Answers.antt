use Rattle.std.proofs.Common.{◌++◌, ◌∷◌, [], ◌∙◌, ap, ap₂, arith}
use Rattle.result_formats.specs.Explanations.{explanation_named, front_named, bytes_named, atomic_named, wrong_in}
use Rattle.result_formats.proofs.Items.{told}
use Rattle.result_formats.proofs.explanations.explanation_fields.Goals as goal

pub returns : goal.returns
unfolding explanation_named
returns c =
    let reason = c.reason_in-reason.ensures in
    let front = c.front_fields.ensures ∙ ap₂ front_named c.mismatch_in.ensures reason in
    let wrong = c.wrong_in-wrong.ensures ∙ ap wrong_in reason in
    let bytes = c.bytes_fields.ensures ∙ ap bytes_named wrong in
    let atomic = c.atomic_field-atomic.ensures ∙ ap atomic_named wrong in
    ap₂ (λ a b. a ++ b) (told _ c.ending_fields.result 3 _ (omega arith) c.ending_fields.ensures)
    (ap₂ (λ a b. a ++ b) (told _ c.front_fields.result 12 _ (omega arith) front)
    (ap₂ (λ a b. a ++ b) (told _ c.bytes_fields.result 16 _ (omega arith) bytes) (ap (λ x. x ∷ []) atomic)))
