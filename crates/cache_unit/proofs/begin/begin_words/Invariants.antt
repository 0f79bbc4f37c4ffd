use Rattle.std.proofs.Common.{◌≡◌, set}
use Rattle.cache_directory.specs.Frames.{IsWhole, with_frame}
use Rattle.miss_registers.specs.Whole as file
use Rattle.cache_unit.proofs.Begins.{frame_to, register_to}
use Rattle.cache_unit.proofs.begin.begin_words.Given as goal

abbrev pub invariant-loop-i : goal.invariant-loop-i
invariant-loop-i l = (l.directory ≡ with_frame l.fn.directory l.frame (frame_to l.fn.sizes.block_words l.queue.entries l.block l.i)) ×
    IsWhole l.fn.sizes.ways l.fn.sizes.block_words l.directory × file.IsWhole l.fn.sizes.block_words l.fn.sizes.regs l.registers ×
    (l.registers ≡ set l.fn.registers l.slot (register_to l.fn.sizes.block_words l.queue.entries l.block l.frame l.i))
