-- What stands at each place of a picture, by the machine's state alone, and its text.
use Rattle.std.specs.Prelude.{ℕ, Bool, true, false, ◌&&◌, not, if◌then◌else◌, ◌==◌, List, [], ◌++◌, codes, decimal, Option, Some, None}
use Rattle.std.specs.Prelude.{slice_get}
use Rattle.std.specs.List.{list_any, range_with_len}
use Rattle.flat_model.specs.declared.limits.TheConstants.{MAX_REGS}
use Rattle.machine_core.specs.Words.{Word, Lanes, Answer, BankAnswer, Command, Entry, Queued, Owed, RegisterView, FieldView}
use Rattle.machine_core.specs.Words as words
use Rattle.flat_model.specs.Flat.{Flat}
use Rattle.flat_model.specs.Words.{has_any}
use Rattle.flat_model.specs.Texts.{word_text as digits, lanes_text as mask}
use Rattle.machine_core.specs.Banks.{bank_at}
use Rattle.machine_core.specs.Views.{frame_view, word_view, dirty_view, reply_view}
use Rattle.machine_core.specs.Machine.{MachineState}
use Rattle.machine_core.specs.AnyMachine.{register_shown, field_shown, target_shown, bank_shown}
use Rattle.run_pictures.specs.declared.place.Place.{Place}
use Rattle.run_pictures.specs.declared.place.Place.TheVariants as spot
use Rattle.run_pictures.specs.declared.cells.Cell.{Cell}
use Rattle.run_pictures.specs.declared.shown.Way.{Way}
use Rattle.run_pictures.specs.declared.shown.Way.TheVariants.{Missing, InStack, Processed}
use Rattle.run_pictures.specs.declared.shown.Shown.{Shown}
use Rattle.run_pictures.specs.declared.shown.Shown.TheVariants as shown
use Rattle.run_pictures.specs.contracts.shown.ShownPartialEq.TheImpl as shown_eq

-- ---- texts

abbrev pub way_text : Way → List ℕ
way_text Missing = codes "missing"
way_text InStack = codes "in stack"
way_text Processed = codes "processed"

abbrev pub shown_text : Shown → List ℕ
shown_text shown.Nothing = []
shown_text shown.Free = codes "free"
shown_text (shown.Valid block frame came) = codes "valid, block "
    ++ (decimal block ++ (codes ", frame " ++ (decimal frame ++ (codes ", words came: " ++ decimal came))))
shown_text (shown.Obsolete block came) = codes "obsolete, block " ++ (decimal block ++ (codes ", words came: " ++ decimal came))
shown_text (shown.Field way) = way_text way
shown_text (shown.Coded way code) = way_text way ++ (codes ", code " ++ mask code)
shown_text (shown.Load tag) = codes "tag " ++ decimal tag
shown_text (shown.Owed tag word) = codes "tag " ++ (decimal tag ++ (codes " is owed " ++ digits word))
shown_text (shown.Holding tag word lanes held) = codes "tag "
    ++ (decimal tag ++ (codes " is owed " ++ (digits word ++ (codes ", holds " ++ (mask lanes ++ (codes " " ++ digits held))))))
shown_text (shown.Block block) = codes "block " ++ decimal block
shown_text (shown.Pending block) = codes "block " ++ (decimal block ++ codes ", pending")
shown_text (shown.Word word) = digits word
shown_text (shown.Dirty word dirty) = digits word ++ (codes ", dirty " ++ mask dirty)
shown_text (shown.Entry slot i word) = codes "register " ++ (decimal slot ++ (codes ", word " ++ (decimal i ++ (codes ": " ++ digits word))))
shown_text (shown.Queued at block lanes word) = codes "word "
    ++ (decimal at ++ (codes ", block " ++ (decimal block ++ (codes ": " ++ (mask lanes ++ (codes " " ++ digits word))))))
shown_text (shown.Read place slot i) = codes "read place "
    ++ (decimal place ++ (codes ": register " ++ (decimal slot ++ (codes ", word " ++ decimal i))))
shown_text (shown.Write place lanes word) = codes "write place "
    ++ (decimal place ++ (codes ": " ++ (mask lanes ++ (codes " " ++ digits word))))
shown_text (shown.Value tag word) = codes "tag " ++ (decimal tag ++ (codes ": " ++ digits word))

-- ---- registers

abbrev pub used : RegisterView → Shown
used r = if r.obsolete then shown.Obsolete r.block r.processed else shown.Valid r.block r.frame r.processed

abbrev pub register_seen : Option RegisterView → Shown
register_seen None = shown.Nothing
register_seen (Some r) = if r.valid then used r else shown.Free

-- whether a register stands for a block that is missing words
abbrev pub is_valid : Option RegisterView → Bool
is_valid None = false
is_valid (Some r) = r.valid

abbrev pub way_of : FieldView → Way
way_of f = if f.processed then Processed else (if f.in_stack then InStack else Missing)

abbrev pub with_code : Way → Lanes → Shown
with_code way code = if has_any code then shown.Coded way code else shown.Field way

abbrev pub field_seen : (is_used : Bool) → Option FieldView → Shown
field_seen true (Some f) = with_code (way_of f) f.code
field_seen is_used f = shown.Nothing

-- a load that waits, the word that flat memory owes it, and the bytes that it has already
abbrev pub owed : Owed → Option Word → Shown
owed load None = shown.Load load.tag
owed load (Some word) = if has_any load.lanes then shown.Holding load.tag word load.lanes load.held else shown.Owed load.tag word

-- whether loads may wait for a word of a register
abbrev pub is_awaited : (is_used : Bool) → Option FieldView → Bool
is_awaited true (Some f) = not f.processed
is_awaited is_used f = false

abbrev pub load_seen : Flat → (is_awaited : Bool) → Option Owed → Shown
load_seen flat true (Some load) = owed load (flat.due load.tag)
load_seen flat is_awaited load = shown.Nothing

-- ---- frames

abbrev pub lives_for : ℕ → Option RegisterView → Bool
lives_for block None = false
lives_for block (Some r) = r.valid && (not r.obsolete && r.block == block)

unfoldable pub is_live_for : MachineState → ℕ → ℕ → Bool
is_live_for s slot block = lives_for block (register_shown s slot)

-- whether words of a block that a frame holds are on their way
unfoldable pub is_pending : MachineState → ℕ → Bool
is_pending s block = list_any (λ slot. is_live_for s slot block) (range_with_len 0 MAX_REGS)

abbrev pub frame_seen : MachineState → Option ℕ → Shown
frame_seen s None = shown.Nothing
frame_seen s (Some block) = if is_pending s block then shown.Pending block else shown.Block block

abbrev pub cell_seen : Option Word → Option Lanes → Shown
cell_seen (Some word) (Some dirty) = if has_any dirty then shown.Dirty word dirty else shown.Word word
cell_seen word dirty = shown.Nothing

-- ---- queues

abbrev pub entry_seen : Option Entry → Shown
entry_seen None = shown.Nothing
entry_seen (Some e) = shown.Entry e.slot e.i e.word

abbrev pub queued_seen : Option Queued → Shown
queued_seen None = shown.Nothing
queued_seen (Some q) = shown.Queued q.at q.block q.lanes q.word

-- a command: a read for a register's word, or a write of the lanes of a word. Both say where in the bank the word lies
abbrev pub command_seen : Option Command → Shown
command_seen None = shown.Nothing
command_seen (Some (words.Read slot i place)) = shown.Read place slot i
command_seen (Some (words.Write place word lanes)) = shown.Write place lanes word

abbrev pub answer_seen : Option BankAnswer → Shown
answer_seen None = shown.Nothing
answer_seen (Some a) = shown.Entry a.slot a.i a.word

abbrev pub reply_seen : Option Answer → Shown
reply_seen (Some (words.Value tag word)) = shown.Value tag word
reply_seen reply = shown.Nothing

abbrev pub memory_seen : Option Word → Shown
memory_seen None = shown.Nothing
memory_seen (Some word) = shown.Word word

-- ---- all places

abbrev pub is_used : MachineState → ℕ → Bool
is_used s slot = is_valid (register_shown s slot)

-- What is drawn at a place of a machine of this state, whose loads are owed what this flat memory owes. A register's line is
-- written by a trace's own words.
abbrev pub shown_at : MachineState → Flat → Place → Shown
shown_at s flat (spot.Register slot) = register_seen (register_shown s slot)
shown_at s flat (spot.Line slot) = shown.Nothing
shown_at s flat (spot.Field slot i) = field_seen (is_used s slot) (field_shown s slot i)
shown_at s flat (spot.Load slot i place) =
    load_seen flat (is_awaited (is_used s slot) (field_shown s slot i)) (target_shown s slot i place)
shown_at s flat (spot.Frame frame) = frame_seen s (frame_view s.machine.cache frame)
shown_at s flat (spot.Cell frame i) = cell_seen (word_view s.machine.cache frame i) (dirty_view s.machine.cache frame i)
shown_at s flat (spot.Stack place) = entry_seen (slice_get s.machine.cache.stack place)
shown_at s flat (spot.Queue place) = queued_seen (slice_get s.machine.cache.queue place)
shown_at s flat (spot.Command bank place) = command_seen (slice_get (bank_at s.machine.banks bank).queue place)
shown_at s flat (spot.Answer bank place) = answer_seen (slice_get (bank_at s.machine.banks bank).answers place)
shown_at s flat (spot.Reply place) = reply_seen (reply_view s.machine.cache place)
shown_at s flat (spot.Memory at) = memory_seen (bank_shown s at)

-- ---- cells

abbrev pub is_same : Shown → Shown → Bool
is_same before after = (shown_eq.ghosts).eq before after

-- a place before the first event
abbrev pub first_cell : MachineState → Flat → Place → Cell
first_cell s flat place = record { place = place; shown = shown_at s flat place; is_changed = false }

-- the same place in a machine that stands so now
abbrev pub cell_behind : MachineState → Flat → Cell → Cell
cell_behind s flat cell =
    let now = shown_at s flat cell.place in
    record { place = cell.place; shown = now; is_changed = not (is_same cell.shown now) }
