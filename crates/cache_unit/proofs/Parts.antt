-- The parts of a sound unit are whole: their numbers are in their ranges.
use Rattle.std.proofs.Common.{sym}
use Rattle.cache_unit.specs.declared.unit.ShapedUnit.TheInside.{Inside}
use Rattle.cache_unit.specs.View.{IsSoundUnit}
use Rattle.miss_registers.specs.Whole as whole
use Rattle.cache_directory.specs.Frames as dir

pub directory_whole : (u : Inside) → IsSoundUnit u → dir.IsWhole u.sizes.ways u.sizes.block_words u.directory
directory_whole u h = record {
  some_way = h.ranges.some_ways;
  few_ways = h.ranges.few_ways;
  some_word = h.ranges.some_words;
  few_words = h.ranges.few_words;
  some_set = rw (sym h.sound.sets) at h.ranges.some_sets;
  few_sets = rw (sym h.sound.sets) at h.ranges.few_sets;
  sound = h.sound.directory;
}

pub registers_whole : (u : Inside) → IsSoundUnit u → whole.IsWhole u.sizes.block_words u.sizes.regs u.registers
registers_whole u h = record {
  some_register = h.ranges.some_regs;
  few_registers = h.ranges.few_regs;
  some_word = h.ranges.some_words;
  few_words = h.ranges.few_words;
  sound = h.sound.registers;
}
