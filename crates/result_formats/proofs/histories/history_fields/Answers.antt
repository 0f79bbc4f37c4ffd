use Rattle.std.proofs.Common.{◌++◌, ◌∙◌, ap, ap₂, arith}
use Rattle.result_formats.specs.Histories.{history_named, operation_named, cause_in, why_named, stores_named}
use Rattle.result_formats.proofs.Items.{told}
use Rattle.result_formats.proofs.histories.history_fields.Goals as goal

pub returns : goal.returns
unfolding history_named
returns c =
    let refusal = c.refusal_in-refusal.ensures in
    let cause = c.cause_in-cause.ensures ∙ ap cause_in refusal in
    let operation = c.operation_fields.ensures ∙ ap operation_named refusal in
    let why = c.why_fields.ensures ∙ ap₂ why_named c.address_in.ensures cause in
    let stores = c.store_fields.ensures ∙ ap stores_named cause in
    ap₂ (λ a b. a ++ b) (told _ c.end_fields.result 6 _ (omega arith) c.end_fields.ensures)
    (ap₂ (λ a b. a ++ b) (told _ c.operation_fields.result 2 _ (omega arith) operation)
    (ap₂ (λ a b. a ++ b) (told _ c.why_fields.result 7 _ (omega arith) why)
    (told _ c.store_fields.result 4 _ (omega arith) stores)))
