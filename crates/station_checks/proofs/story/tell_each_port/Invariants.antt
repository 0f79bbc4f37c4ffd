use Rattle.std.proofs.Common.{take}
use Rattle.std.specs.Prelude.{flat_map}
use Rattle.std.specs.List.{enumerate_from}
use Rattle.std.specs.Io.KnownBytes.{Appends}
use Rattle.station_checks.specs.PortTexts.{numbered_port_text}
use Rattle.station_checks.proofs.story.tell_each_port.Given as goal

abbrev pub invariant-loop-port : goal.invariant-loop-port
invariant-loop-port g l =
    Appends (g.W.Write.contents l.fn.out) (g.W.Write.contents l.out)
    (flat_map (numbered_port_text l.asks l.lists) (enumerate_from 0 (take l.port l.scripts)))
