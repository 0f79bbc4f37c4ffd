use Rattle.shape_files.proofs.Fits.{sizes_fit}
use Rattle.shape_files.proofs.shape_file.ToolShape.sizes.Goals as goal

pub returns-clause-good : goal.returns-clause-good
returns-clause-good c = λ good. sizes_fit c.args.self.now good
