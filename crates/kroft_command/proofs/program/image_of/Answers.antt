use Rattle.std.proofs.Common.{refl, sym, subst}
use Rattle.flat_model.specs.declared.image.Image.TheVariants.{Bytes}
use Rattle.kroft_command.specs.Program.{IsImageOf}
use Rattle.kroft_command.proofs.program.image_of.Goals as goal

pub returns-in_ok-image_bytes-in-File-clause-image : goal.returns-in_ok-image_bytes-in-File-clause-image
returns-in_ok-image_bytes-in-File-clause-image g c =
    let bytes = c.in_ok-image_bytes-in-File.field-0 in
    subst (λ name. IsImageOf name (Bytes bytes)) (sym c.in-File.is) (bytes, refl)
