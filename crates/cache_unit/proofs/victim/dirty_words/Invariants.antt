use Rattle.std.proofs.Common.{◌≡◌, ◌≤◌, length, take}
use Rattle.cache_directory.specs.Frames.{frame_at}
use Rattle.cache_law.specs.Causes.{dirty_from}
use Rattle.cache_unit.proofs.victim.dirty_words.Given as goal

abbrev pub invariant-loop-i : goal.invariant-loop-i
invariant-loop-i l = (l.count ≡ length (dirty_from 0 0 (take l.i (frame_at l.directory.frames l.frame).cells))) × (l.count ≤ l.i)
