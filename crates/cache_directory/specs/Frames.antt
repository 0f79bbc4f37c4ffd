-- The frames, as lists.
use Rattle.std.specs.Prelude.{ℕ, ◌≡◌, ◌<◌, ◌≤◌, ◌+◌, ◌*◌, ◌%◌, ◌/◌, Bool, true, false, not, ◌&&◌, ◌||◌, if◌then◌else◌, ◌==◌, nat_lt, List}
use Rattle.std.specs.Prelude.{[], ◌∷◌, ◌++◌, length, replicate, Option, Some, None, is_none, is_some, slice_set, slice_index_or}
use Rattle.std.specs.List.{find, filter, range_with_len, list_all}
use Rattle.flat_model.specs.declared.limits.TheConstants.{MAX_BLOCK_WORDS, MAX_WAYS, MAX_CONST_WAYS, MAX_SETS}
use Rattle.flat_model.specs.declared.Word.{Word}
use Rattle.flat_model.specs.declared.Lanes.{Lanes}
use Rattle.flat_model.specs.declared.ShapeField.{ShapeField}
use Rattle.flat_model.specs.declared.ShapeField.TheVariants.{BlockWords, Ways, Sets}
use Rattle.flat_model.specs.Words.{zero_word, no_lanes, joined, merged}
use Rattle.flat_model.specs.Places.{place_of, is_number}
use Rattle.cache_directory.specs.declared.Cell.{Cell}
use Rattle.cache_directory.specs.declared.directory.Choice.{Choice}
use Rattle.cache_directory.specs.declared.directory.Choice.TheVariants.{Free, Victim, AllPending}

-- a frame: the block that it holds, if it holds one, and that block's words
pub record Frame : Type 0 where
  pub block : Option ℕ
  pub pending : Bool
  pub cells : List Cell

pub record Frames : Type 0 where
  pub frames : List Frame
  -- per set, the frames that hold a block, the one allocated longest ago first
  pub orders : List (List ℕ)

abbrev pub zero_cell : Cell
zero_cell = record { word = zero_word; dirty = no_lanes }

abbrev pub empty_frame : Frame
empty_frame = record { block = None; pending = false; cells = [] }

-- ---- reading

abbrev pub frame_at : List Frame → ℕ → Frame
frame_at fs f = slice_index_or fs f empty_frame

abbrev pub cell_at : Frame → ℕ → Cell
cell_at f i = slice_index_or f.cells i zero_cell

-- whether the frame is there and holds a block
abbrev pub is_held : Frames → ℕ → Bool
is_held d f = is_some (frame_at d.frames f).block

-- the frame that holds a block
unfoldable pub frame_of : List Frame → ℕ → Option ℕ
frame_of fs block = place_of (λ f. is_number f.block block) fs

abbrev pub order_of : Frames → ℕ → List ℕ
order_of d set = slice_index_or d.orders set []

-- the frames in which a block of the set may lie
abbrev pub ways_of : ℕ → ℕ → List ℕ
ways_of ways set = range_with_len (set * ways) ways

-- the set of a block
abbrev pub set_of : Frames → ℕ → ℕ
set_of d block = block % length d.orders

-- how often a frame stands in an order
abbrev pub times_in : List ℕ → ℕ → ℕ
times_in [] f = 0
times_in (g ∷ rest) f = (if g == f then 1 else 0) + times_in rest f

-- ---- what is always so

-- a frame that holds a block has the block's words, and one that holds none is empty; a block lies in one frame at most, which is one
-- of its set; and the order of a set has exactly the frames of that set that hold a block, each once
pub record IsSound (ways words : ℕ) (d : Frames) : Type 0 where
  pub frames_there : length d.frames ≡ length d.orders * ways
  pub cells : (f block : ℕ) → (frame_at d.frames f).block ≡ Some block → length (frame_at d.frames f).cells ≡ words
  pub empty : (f : ℕ) → (frame_at d.frames f).block ≡ None → frame_at d.frames f ≡ empty_frame
  pub in_set : (f block : ℕ) → (frame_at d.frames f).block ≡ Some block → f / ways ≡ set_of d block
  pub alone : (f g block : ℕ) → (frame_at d.frames f).block ≡ Some block → (frame_at d.frames g).block ≡ Some block → f ≡ g
  pub ordered : (set f : ℕ) → times_in (order_of d set) f ≡ (if is_held d f && (f / ways == set) then 1 else 0)

-- the same, and its numbers are in their ranges
pub record IsWhole (ways words : ℕ) (d : Frames) : Type 0 where
  pub some_way : 0 < ways
  pub few_ways : ways ≤ MAX_WAYS
  pub some_word : 0 < words
  pub few_words : words ≤ MAX_BLOCK_WORDS
  pub some_set : 0 < length d.orders
  pub few_sets : length d.orders ≤ MAX_SETS
  pub sound : IsSound ways words d

-- the same, however many words a block has: what a call needs that counts ways alone
pub record IsWholeFor (ways : ℕ) (d : Frames) : Type 0 where
  pub words : ℕ
  pub whole : IsWhole ways words d

-- ---- a new directory

-- the first number of a directory whose type has its ways that is out of its range
abbrev pub bad_field : ℕ → ℕ → ℕ → Option ShapeField
bad_field ways words sets =
    if words == 0 || nat_lt MAX_BLOCK_WORDS words
    then Some BlockWords
    else (if ways == 0 || nat_lt MAX_CONST_WAYS ways then Some Ways else (if sets == 0 || nat_lt MAX_SETS sets then Some Sets else None))

-- all frames are empty
abbrev pub all_empty : ℕ → ℕ → Frames
all_empty ways sets = record { frames = replicate (sets * ways) empty_frame; orders = replicate sets [] }

-- ---- one frame changes

abbrev pub with_cell : Frame → ℕ → Cell → Frame
with_cell f i cell = record f { cells = slice_set f.cells i cell }

-- the bytes outside `keep` come from memory
unfoldable pub filled : Frame → ℕ → Word → Lanes → Frame
filled f i word keep = with_cell f i (record (cell_at f i) { word = merged word (cell_at f i).word keep })

-- the bytes in the lanes come from the processor
unfoldable pub written : Frame → ℕ → Word → Lanes → Frame
written f i word lanes =
    with_cell f i (record { word = merged (cell_at f i).word word lanes; dirty = joined (cell_at f i).dirty lanes })

unfoldable pub settled : Frame → Frame
settled f = record f { pending = false }

unfoldable pub fresh_frame : ℕ → ℕ → Frame
fresh_frame words block = record { block = Some block; pending = true; cells = replicate words zero_cell }

abbrev pub with_frame : Frames → ℕ → Frame → Frames
with_frame d f frame = record d { frames = slice_set d.frames f frame }

-- ---- a frame is allocated, and given up

abbrev pub without : List ℕ → ℕ → List ℕ
without order f = filter (λ g. not (g == f)) order

unfoldable pub installed : ℕ → ℕ → Frames → ℕ → ℕ → Frames
installed ways words d f block = record {
  frames = slice_set d.frames f (fresh_frame words block);
  orders = slice_set d.orders (f / ways) (order_of d (f / ways) ++ f ∷ []);
}

unfoldable pub released : ℕ → Frames → ℕ → Frames
released ways d f = record {
  frames = slice_set d.frames f empty_frame;
  orders = slice_set d.orders (f / ways) (without (order_of d (f / ways)) f);
}

-- ---- the choice of a frame

-- the free way of lowest number, and the resident way that was allocated longest ago
unfoldable pub free_way : ℕ → Frames → ℕ → Option ℕ
free_way ways d set = find (λ f. is_none (frame_at d.frames f).block) (ways_of ways set)

unfoldable pub oldest : Frames → ℕ → Option ℕ
oldest d set = find (λ f. not (frame_at d.frames f).pending) (order_of d set)

-- which frame a block of this set may take
abbrev pub choice_from : Option ℕ → Option ℕ → Choice
choice_from (Some f) o = Free f
choice_from None (Some f) = Victim f
choice_from None None = AllPending

unfoldable pub chosen : ℕ → Frames → ℕ → Choice
chosen ways d set = choice_from (free_way ways d set) (oldest d set)

abbrev pub is_all_pending : Choice → Bool
is_all_pending (Free f) = false
is_all_pending (Victim f) = false
is_all_pending AllPending = true

-- whether all ways of a set are pending
abbrev pub are_pending : ℕ → Frames → ℕ → Bool
are_pending ways d set = list_all (λ f. (frame_at d.frames f).pending) (ways_of ways set)
