use Rattle.std.proofs.Common.{subst}
use Rattle.std.specs.Fmt.{HasWritten}
use Rattle.result_formats.proofs.Told.{series_told}
use Rattle.result_formats.proofs.series.AllSeriesDisplay.fmt.Goals as goal

pub returns-clause-writes : goal.returns-clause-writes
returns-clause-writes g c plain done =
    subst (λ text. HasWritten g.W.Write.write_str_gives c.args.f.now text c.write_series.new.f)
    (series_told c.args.self.now.0 c.args.self.now.1.now)
    (c.write_series.ensures plain done)
