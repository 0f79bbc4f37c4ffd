use Rattle.std.proofs.Common.{◌≡◌, take, drop}
use Rattle.std.specs.Prelude.{flat_map}
use Rattle.std.specs.List.{enumerate_from}
use Rattle.std.specs.Io.KnownBytes.{Appends}
use Rattle.station_checks.specs.PortTexts.{placed_ask_line, final_verdicts}
use Rattle.station_checks.proofs.story.tell_asks.Given as goal

abbrev pub invariant-loop-ask : goal.invariant-loop-ask
invariant-loop-ask g l =
    record {
      told : Appends (g.W.Write.contents l.fn.out) (g.W.Write.contents l.out)
          (flat_map (placed_ask_line l.list) (enumerate_from 0 (take l.ask-index l.asks)));
      rest : final_verdicts l.rest ≡ drop l.ask-index (final_verdicts l.list);
    }
