-- A unit's numbers, and its machine's shape.
use Rattle.std.specs.Prelude.{ℕ}
use Rattle.flat_model.specs.declared.Shape.{Shape}
use Rattle.cache_law.specs.declared.Sizes.{Sizes}

-- those of the numbers that a shape has
abbrev pub shape_of : Sizes → Shape
shape_of z =
    record {
      words = z.words;
      sets = z.sets;
      banks = z.banks;
      bank_queue = z.bank_queue;
      write_queue = z.write_queue;
      replies = z.replies;
    }

-- the numbers of a unit, by its parameters and its shape
abbrev pub sizes_of : ℕ → ℕ → ℕ → ℕ → Shape → Sizes
sizes_of ways words regs depth s =
    record {
      ways = ways;
      block_words = words;
      regs = regs;
      depth = depth;
      words = s.words;
      sets = s.sets;
      banks = s.banks;
      bank_queue = s.bank_queue;
      write_queue = s.write_queue;
      replies = s.replies;
    }
