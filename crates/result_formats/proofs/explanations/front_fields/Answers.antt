use Rattle.std.proofs.Common.{◌++◌, ◌∙◌, ap, ap₂, arith}
use Rattle.result_formats.specs.Explanations.{words_named}
use Rattle.result_formats.proofs.Items.{told}
use Rattle.result_formats.proofs.explanations.front_fields.Goals as goal

pub returns : goal.returns
returns c =
    ap₂ (λ a b. a ++ b) (told _ c.pair_fields.result 4 _ (omega arith) c.pair_fields.ensures)
    (ap₂ (λ a b. a ++ b) (told _ c.about_fields.result 6 _ (omega arith) c.about_fields.ensures)
    (told _ c.words_fields.result 2 _ (omega arith) (c.words_fields.ensures ∙ ap words_named c.wrong_in.ensures)))
