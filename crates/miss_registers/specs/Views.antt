-- What the views show.
use Rattle.std.specs.Prelude.{ℕ, ◌+◌, ◌&&◌, nat_lt, if◌then◌else◌, List, [], ◌∷◌, length, Option, Some, None, slice_get, slice_index_or}
use Rattle.std.specs.Option.{option_map}
use Rattle.flat_model.specs.Words.{zero_word, no_lanes}
use Rattle.miss_registers.specs.declared.Owed.{Owed}
use Rattle.miss_registers.specs.declared.RegisterView.{RegisterView}
use Rattle.miss_registers.specs.declared.FieldView.{FieldView}
use Rattle.miss_registers.specs.Registers.{Field, Register, field_at, is_live}

-- no load
abbrev pub no_load : Owed
no_load = record { tag = 0; held = zero_word; lanes = no_lanes }

-- the load that is answered first
abbrev pub load_at_front : List Owed → Owed
load_at_front waiting = slice_index_or waiting 0 no_load

-- a register that isn't live shows no frame
abbrev pub frame_shown : Register → ℕ
frame_shown r = if is_live r then r.frame else 0

-- how many words are processed
abbrev pub processed_shown : List Field → ℕ
processed_shown [] = 0
processed_shown (f ∷ rest) = (if f.processed then 1 else 0) + processed_shown rest

abbrev pub shown_register : Register → RegisterView
shown_register r =
    record { valid = r.valid; obsolete = r.obsolete; block = r.block; frame = frame_shown r; processed = processed_shown r.fields }

-- a register, where there is one
abbrev pub register_view : List Register → ℕ → Option RegisterView
register_view rs slot = option_map shown_register (slice_get rs slot)

-- the part of a register for one word. The tag, the held lanes and the held bytes are those of the first load that waits
abbrev pub shown_field : Field → FieldView
shown_field f =
    record {
      send = nat_lt 0 (length f.waiting);
      in_stack = f.in_stack;
      processed = f.processed;
      code = f.code;
      tag = (load_at_front f.waiting).tag;
      held_lanes = (load_at_front f.waiting).lanes;
      held = (load_at_front f.waiting).held;
      targets = length f.waiting;
    }

-- that part, where there are such a register and such a word
abbrev pub field_view : ℕ → List Register → ℕ → ℕ → Option FieldView
field_view words rs slot i =
    if nat_lt slot (length rs) && nat_lt i words then Some (shown_field (field_at rs slot i)) else None

-- a load that waits for a word
abbrev pub target_view : List Register → ℕ → ℕ → ℕ → Option Owed
target_view rs slot i place = slice_get (field_at rs slot i).waiting place
