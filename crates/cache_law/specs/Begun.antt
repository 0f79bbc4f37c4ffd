-- A block as a miss begins it, with the newest queued bytes of its words.
use Rattle.std.specs.Prelude.{ℕ, ◌*◌, true, false, Some, List, [], map}
use Rattle.std.specs.List.{range_with_len}
use Rattle.flat_model.specs.Words.{zero_word, no_lanes}
use Rattle.cache_directory.specs.declared.Cell.{Cell}
use Rattle.cache_directory.specs.Frames.{Frame}
use Rattle.miss_registers.specs.Registers.{Field, Register}
use Rattle.write_queue.specs.declared.Queued.{Queued}
use Rattle.write_queue.specs.Queue.{overlaid, queued_lanes}

-- a word's newest queued bytes: no lane becomes dirty
abbrev pub begun_cell : List Queued → ℕ → Cell
begun_cell entries at = record { word = overlaid zero_word entries at; dirty = no_lanes }

-- the arriving word mustn't change these bytes
abbrev pub begun_field : List Queued → ℕ → Field
begun_field entries at = record { in_stack = false; processed = false; code = queued_lanes entries at; waiting = [] }

abbrev pub begun_frame : ℕ → List Queued → ℕ → Frame
begun_frame words entries block =
    record { block = Some block; pending = true; cells = map (begun_cell entries) (range_with_len (block * words) words) }

abbrev pub begun_register : ℕ → List Queued → ℕ → ℕ → Register
begun_register words entries block frame =
    record {
      valid = true;
      obsolete = false;
      block = block;
      frame = frame;
      fields = map (begun_field entries) (range_with_len (block * words) words);
    }
