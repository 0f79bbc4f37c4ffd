use Rattle.std.proofs.Common.{arith}
use Rattle.station_parts.proofs.Rows.{here_before}
use Rattle.station_parts.proofs.lines.Row.is_called.Goals as goal

pub returns : goal.returns
returns c = grind (arith, here_before)
