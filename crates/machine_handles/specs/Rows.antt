-- What the rows of plain numbers say that a machine is opened by and shows.
use Rattle.std.specs.Prelude.{ℕ, Bool, if◌then◌else◌}
use Rattle.machine_core.specs.Words.{Sizes, Owed, RegisterView, FieldView}
use Rattle.machine_handles.specs.declared.views.ShapeRow.{ShapeRow}
use Rattle.machine_handles.specs.declared.views.RegisterRow.{RegisterRow}
use Rattle.machine_handles.specs.declared.views.FieldRow.{FieldRow}
use Rattle.machine_handles.specs.declared.views.TargetRow.{TargetRow}

-- the numbers of the machine that a row asks for
abbrev pub sizes_of : ShapeRow → Sizes
sizes_of r =
    record {
      ways = r.ways;
      block_words = r.block_words;
      regs = r.regs;
      depth = r.depth;
      words = r.words;
      sets = r.sets;
      banks = r.banks;
      bank_queue = r.bank_queue;
      write_queue = r.write_queue;
      replies = r.replies;
    }

abbrev pub bit : Bool → ℕ
bit b = if b then 1 else 0

-- a register, a word of its block, and a load that waits, as rows
abbrev pub register_row : RegisterView → RegisterRow
register_row v = record { valid = bit v.valid; obsolete = bit v.obsolete; block = v.block; frame = v.frame; processed = v.processed }

abbrev pub field_row : FieldView → FieldRow
field_row v =
    record {
      send = bit v.send;
      in_stack = bit v.in_stack;
      processed = bit v.processed;
      targets = v.targets;
      tag = v.tag;
      code = v.code.0;
      held_lanes = v.held_lanes.0;
      held = v.held;
    }

abbrev pub target_row : Owed → TargetRow
target_row o = record { tag = o.tag; lanes = o.lanes.0; held = o.held }
