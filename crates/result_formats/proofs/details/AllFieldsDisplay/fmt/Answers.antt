use Rattle.std.proofs.Common.{subst}
use Rattle.std.specs.Fmt.{HasWritten}
use Rattle.result_formats.proofs.Told.{fields_said}
use Rattle.result_formats.proofs.details.AllFieldsDisplay.fmt.Goals as goal

pub returns-clause-writes : goal.returns-clause-writes
returns-clause-writes g c plain done =
    subst (λ text. HasWritten g.W.Write.write_str_gives c.args.f.now text c.write_fields.new.f)
    (fields_said c.args.self.now.0 c.args.self.now.1.now)
    (c.write_fields.ensures plain done)
