use Rattle.std.proofs.Common.{◌≡◌, ℕ, ◌<◌, false}
use Rattle.cache_law.specs.Reads.{is_short}
use Rattle.cache_unit.proofs.reads.lacks_room.Given as goal

abbrev pub invariant-loop-bank : goal.invariant-loop-bank
invariant-loop-bank g l = (j : ℕ) → j < l.bank → is_short (g.L.Lines.room_of l.lines) l.first l.words l.banks j ≡ false
