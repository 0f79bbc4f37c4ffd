use Rattle.std.proofs.Common.{◌∷◌, ap₂, ◌∙◌, ap, arith}
use Rattle.std.specs.Option.{option_copied}
use Rattle.result_formats.specs.Histories.{sources_told, overwritten_named}
use Rattle.result_formats.proofs.Items.{told}
use Rattle.result_formats.proofs.ToldBytes.{sources_are}
use Rattle.result_formats.proofs.histories.store_fields.Goals as goal

pub returns : goal.returns
returns c =
    ap₂ (λ x xs. x ∷ xs) (c.sources_field.ensures ∙ ap (λ t. sources_told t c.args.sources.now) c.is_wrong_byte.ensures
    ∙ sources_are (option_copied c.args.cause) c.args.sources.now c.requires)
    (told _ c.overwritten_fields.result 3 _ (omega arith) (c.overwritten_fields.ensures ∙ ap overwritten_named c.overwritten_in.ensures))
