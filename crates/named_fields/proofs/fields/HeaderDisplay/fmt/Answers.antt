use Rattle.std.proofs.Common.{subst}
use Rattle.std.specs.Fmt.{HasWritten}
use Rattle.named_fields.proofs.Joined.{header_said}
use Rattle.named_fields.proofs.fields.HeaderDisplay.fmt.Goals as goal

pub returns-clause-writes : goal.returns-clause-writes
returns-clause-writes g c plain done =
    subst (λ text. HasWritten g.W.Write.write_str_gives c.args.f.now text c.write_header.new.f) (header_said c.args.self.now.0.now)
    (c.write_header.ensures plain done)
