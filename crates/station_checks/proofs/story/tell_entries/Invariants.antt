use Rattle.std.proofs.Common.{take}
use Rattle.std.specs.Prelude.{flat_map}
use Rattle.std.specs.Io.KnownBytes.{Appends}
use Rattle.station_checks.specs.Stories.{shown_text}
use Rattle.station_checks.proofs.story.tell_entries.Given as goal

abbrev pub invariant-loop-entry : goal.invariant-loop-entry
invariant-loop-entry g l =
    Appends (g.W.Write.contents l.fn.out) (g.W.Write.contents l.out) (flat_map shown_text (take l.entry-index l.entries))
