use Rattle.std.proofs.Common.{◌+◌, drop, length}
use Rattle.run_pictures.specs.declared.drawing.Drawing.{Drawing}
use Rattle.run_pictures.specs.Drawn.{Follows}
use Rattle.run_pictures.proofs.drawn.draw_events.Given as goal

-- However the events that are left are drawn, all of them are drawn then.
abbrev pub invariant-loop-k : goal.invariant-loop-k
invariant-loop-k l = (last : Drawing) → Follows (length l.all) (l.k + 1) l.machine (drop l.k l.all) l.drawing last
    → Follows (length l.all) 1 l.initial.machine l.all l.initial.drawing last
