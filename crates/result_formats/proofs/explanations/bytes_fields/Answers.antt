use Rattle.std.proofs.Common.{◌++◌, ap₂, arith}
use Rattle.result_formats.proofs.Items.{told}
use Rattle.result_formats.proofs.explanations.bytes_fields.Goals as goal

pub returns : goal.returns
returns c =
    ap₂ (λ a b. a ++ b) (told _ c.byte_fields.result 4 _ (omega arith) c.byte_fields.ensures)
    (ap₂ (λ a b. a ++ b) (told _ c.byte_fields-2.result 4 _ (omega arith) c.byte_fields-2.ensures)
    (ap₂ (λ a b. a ++ b) (told _ c.byte_fields-3.result 4 _ (omega arith) c.byte_fields-3.ensures)
    (told _ c.byte_fields-4.result 4 _ (omega arith) c.byte_fields-4.ensures)))
