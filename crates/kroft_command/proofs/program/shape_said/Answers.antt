use Rattle.std.proofs.Common.{rules}
use Rattle.toml.specs.Parse.{parse_document}
use Rattle.kroft_command.proofs.Shapes.{text_good}
use Rattle.kroft_command.proofs.program.shape_said.Goals as goal

pub returns-clause-good : goal.returns-clause-good
returns-clause-good c = text_good (parse_document c.args.text.now) c.in_ok-read_shape.field-0 (search rules)
