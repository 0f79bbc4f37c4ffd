-- What the views of the unit show.
use Rattle.std.specs.Prelude.{ℕ, Bool, true, false, ◌&&◌, not, List, [], ◌∷◌, Option, slice_get}
use Rattle.std.specs.Option.{option_map}
use Rattle.std.specs.List.{list_all}
use Rattle.flat_model.specs.declared.Answer.{Answer}
use Rattle.flat_model.specs.declared.Answer.TheVariants.{Value}
use Rattle.flat_model.specs.declared.Word.{Word}
use Rattle.flat_model.specs.declared.Lanes.{Lanes}
use Rattle.flat_model.specs.Words.{has_any}
use Rattle.cache_directory.specs.declared.Cell.{Cell}
use Rattle.miss_registers.specs.declared.Owed.{Owed}
use Rattle.miss_registers.specs.declared.RegisterView.{RegisterView}
use Rattle.miss_registers.specs.declared.FieldView.{FieldView}
use Rattle.miss_registers.specs.Views as registers
use Rattle.cache_law.specs.declared.Sizes.{Sizes}
use Rattle.cache_law.specs.State.{Cache, frame_at}

-- a register, and its part for one word, where they are there
abbrev pub register_view : Cache → ℕ → Option RegisterView
register_view c slot = registers.register_view c.registers slot

abbrev pub field_view : Sizes → Cache → ℕ → ℕ → Option FieldView
field_view z c slot i = registers.field_view z.block_words c.registers slot i

-- a load that waits for a word
abbrev pub target_view : Cache → ℕ → ℕ → ℕ → Option Owed
target_view c slot i place = registers.target_view c.registers slot i place

-- the value that a take would answer
abbrev pub reply_view : Cache → ℕ → Option Answer
reply_view c place = option_map (λ r. Value r.tag r.word) (slice_get c.ready place)

-- the block that a frame holds, where there are such a frame and block
abbrev pub frame_view : Cache → ℕ → Option ℕ
frame_view c f = (frame_at c f).block

-- the buffer's word and its dirty lanes, where a frame holds a block
abbrev pub cell_view : Cache → ℕ → ℕ → Option Cell
cell_view c f i = slice_get (frame_at c f).cells i

abbrev pub word_view : Cache → ℕ → ℕ → Option Word
word_view c f i = option_map (λ cell. cell.word) (cell_view c f i)

abbrev pub dirty_view : Cache → ℕ → ℕ → Option Lanes
dirty_view c f i = option_map (λ cell. cell.dirty) (cell_view c f i)

abbrev pub is_empty : {X : Type 0} → List X → Bool
is_empty [] = true
is_empty (x ∷ xs) = false

-- no valid register, and nothing that memory doesn't have
abbrev pub is_clean : Cache → Bool
is_clean c =
    list_all (λ r. not r.valid) c.registers
    && (list_all (λ f. list_all (λ cell. not (has_any cell.dirty)) f.cells) c.directory.frames && is_empty c.queue)
