use Rattle.std.proofs.Common.{◌≡◌, ◌*◌, ◌++◌, take}
use Rattle.cache_directory.specs.Frames.{frame_at}
use Rattle.write_queue.specs.Queue.{queue as queue_of}
use Rattle.cache_law.specs.Causes.{dirty_from}
use Rattle.cache_unit.proofs.victim.queue_dirty_words.Given as goal

abbrev pub invariant-loop-i : goal.invariant-loop-i
invariant-loop-i l = l.queue ≡ queue_of (l.fn.queue.entries ++ dirty_from l.block (l.block * l.fn.sizes.block_words)
    (take l.i (frame_at l.directory.frames l.frame).cells)) l.fn.queue.limit
