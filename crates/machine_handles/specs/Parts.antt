-- What the parts of a machine show beside its registers, as rows of plain numbers and by its state alone.
use Rattle.std.specs.Prelude.{ℕ, ◌*◌, nat_lt, if◌then◌else◌, Option, Some, None, slice_get}
use Rattle.std.specs.Option.{option_map}
use Rattle.machine_core.specs.Words.{Word, Lanes, Entry, Queued, Command, Read, Write, BankAnswer, Lookup, Hit, Join, Miss}
use Rattle.flat_model.specs.Words.{zero_word}
use Rattle.machine_core.specs.Banks.{bank_at}
use Rattle.machine_core.specs.Lookups.{lookup}
use Rattle.machine_core.specs.Views.{frame_view, word_view, dirty_view, reply_view}
use Rattle.machine_core.specs.Machine.{MachineState}
use Rattle.flat_judge.specs.declared.rows.AnswerRow.{AnswerRow}
use Rattle.flat_judge.specs.Rows.{answer_row}
use Rattle.machine_handles.specs.declared.part_rows.FrameRow.{FrameRow}
use Rattle.machine_handles.specs.declared.part_rows.FrameWordRow.{FrameWordRow}
use Rattle.machine_handles.specs.declared.part_rows.ArrivalRow.{ArrivalRow}
use Rattle.machine_handles.specs.declared.part_rows.QueuedRow.{QueuedRow}
use Rattle.machine_handles.specs.declared.part_rows.CommandRow.{CommandRow}

-- ---- rows

-- a frame that is free, or that holds this block
abbrev pub frame_row : Option ℕ → FrameRow
frame_row None = record { valid = 0; block = 0 }
frame_row (Some block) = record { valid = 1; block = block }

-- a word of the buffer, and its dirty lanes
abbrev pub frame_word_row : Option Word → Option Lanes → Option FrameWordRow
frame_word_row (Some word) (Some dirty) = Some (record { word = word; dirty = dirty.0 })
frame_word_row word dirty = None

-- a word on its way to a register: in the input stack, or in its bank
abbrev pub entry_row : Entry → ArrivalRow
entry_row e = record { slot = e.slot; i = e.i; word = e.word }

abbrev pub bank_answer_row : BankAnswer → ArrivalRow
bank_answer_row a = record { slot = a.slot; i = a.i; word = a.word }

abbrev pub queued_row : Queued → QueuedRow
queued_row q = record { block = q.block; at = q.at; word = q.word; lanes = q.lanes.0 }

abbrev pub command_row : Command → CommandRow
command_row (Read slot i place) = record { kind = 0; slot = slot; i = i; place = place; word = zero_word; lanes = 0 }
command_row (Write place word lanes) = record { kind = 1; slot = 0; i = 0; place = place; word = word; lanes = lanes.0 }

-- a lookup by its number
abbrev pub lookup_number : Lookup → ℕ
lookup_number Hit = 0
lookup_number Join = 1
lookup_number Miss = 2

-- ---- what a machine shows: none, where there is no such thing

unfoldable pub frame_shown : MachineState → ℕ → Option FrameRow
frame_shown s f = if nat_lt f (s.sizes.sets * s.sizes.ways) then Some (frame_row (frame_view s.machine.cache f)) else None

-- word i of the block that a frame holds
unfoldable pub frame_word_shown : MachineState → ℕ → ℕ → Option FrameWordRow
frame_word_shown s f i = frame_word_row (word_view s.machine.cache f i) (dirty_view s.machine.cache f i)

unfoldable pub stack_shown : MachineState → ℕ → Option ArrivalRow
stack_shown s place = option_map entry_row (slice_get s.machine.cache.stack place)

unfoldable pub queue_shown : MachineState → ℕ → Option QueuedRow
queue_shown s place = option_map queued_row (slice_get s.machine.cache.queue place)

unfoldable pub command_shown : MachineState → ℕ → ℕ → Option CommandRow
command_shown s bank place = option_map command_row (slice_get (bank_at s.machine.banks bank).queue place)

unfoldable pub bank_answer_shown : MachineState → ℕ → ℕ → Option ArrivalRow
bank_answer_shown s bank place = option_map bank_answer_row (slice_get (bank_at s.machine.banks bank).answers place)

-- the answer that a take at a place would get
unfoldable pub reply_shown : MachineState → ℕ → Option AnswerRow
reply_shown s place = option_map answer_row (reply_view s.machine.cache place)

-- what a request for a word would find
unfoldable pub lookup_shown : MachineState → ℕ → Option ℕ
lookup_shown s at = option_map lookup_number (lookup s.sizes s.machine.cache at)
