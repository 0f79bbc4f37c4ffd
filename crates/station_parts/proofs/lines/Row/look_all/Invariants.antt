use Rattle.station_parts.specs.Rows.{LinesLook}
use Rattle.station_parts.proofs.lines.Row.look_all.Given as goal

abbrev pub invariant-loop-bank : goal.invariant-loop-bank
invariant-loop-bank l = LinesLook l.fn.self.lines.items l.self.lines.items
