-- A block's words as they are begun, one after the other.
use Rattle.std.proofs.Common.{◌≡◌, ℕ, suc, zero, ◌+◌, ◌<◌, ◌≤◌, Bool, true, false, cond, List, [], ◌∷◌, ◌++◌, length, take, get_or, refl}
use Rattle.std.proofs.Common.{ap, arith, append_assoc, ◌*◌, map, replicate, set, Some, add-one}
use Rattle.std.proofs.lemmas.List.{length-replicate, length-take-le, take_more, get_or-set_same, set-get_or, set-set}
use Rattle.flat_model.specs.Words.{has_any, zero_word, merged, no_lanes}
use Rattle.flat_model.specs.declared.Word.{Word}
use Rattle.flat_model.specs.declared.Lanes.{Lanes}
use Rattle.write_queue.specs.declared.Queued.{Queued}
use Rattle.write_queue.specs.Queue.{Queue, queue as queue_of, overlaid, queued_lanes}
use Rattle.cache_directory.specs.declared.Cell.{Cell}
use Rattle.cache_directory.specs.Frames.{Frames, IsSound, zero_cell, frame_at, is_held, Frame, empty_frame, cell_at, fresh_frame}
use Rattle.cache_directory.specs.Frames.{with_frame, filled}
use Rattle.cache_law.specs.Causes.{dirty_from}
use Rattle.std.specs.List.{range_with_len}
use Rattle.flat_model.proofs.Lanewise.{merged-none, joined-none}
use Rattle.miss_registers.specs.Registers.{Register, free_register, clear_field, register_at, field_of, fresh, noted}
use Rattle.cache_law.specs.Begun.{begun_cell, begun_field, begun_frame, begun_register}

-- ---- The words with dirty lanes, one cell at a time.

-- a cell's word, as it is queued
abbrev pub queued_cell : ℕ → ℕ → Cell → Queued
queued_cell block at cell = record { block = block; at = at; word = merged zero_word cell.word cell.dirty; lanes = cell.dirty }

dirty_from-append : (block at : ℕ) (xs ys : List Cell) → dirty_from block at (xs ++ ys) ≡ dirty_from block at xs
    ++ dirty_from block (at + length xs) ys
dirty_from-append block at [] ys = grind arith
dirty_from-append block at (x ∷ xs) ys = grind (arith, dirty_from-append block (at + 1) xs ys)

-- one more cell
pub dirty_more : (block at : ℕ) (cells : List Cell) (i : ℕ) (b : Bool) → i < length cells → has_any (get_or cells i zero_cell).dirty ≡ b
    → dirty_from block at (take (i + 1) cells) ≡ dirty_from block at (take i cells)
    ++ cond b (queued_cell block (at + i) (get_or cells i zero_cell) ∷ []) []
dirty_more block at cells i b h e = grind (arith, take_more cells i zero_cell h, dirty_from-append, length-take-le)

-- how many they are doesn't depend on where they stand
pub dirty-length : (block at block' at' : ℕ) (cells : List Cell) → length (dirty_from block at cells) ≡ length (dirty_from block' at' cells)
dirty-length block at block' at' [] = refl
dirty-length block at block' at' (x ∷ cells) = grind (arith, dirty-length block (at + 1) block' (at' + 1) cells)

-- the first cells have no more of them than all
pub dirty_within : (block at : ℕ) (cells : List Cell) (i : ℕ)
    → length (dirty_from block at (take i cells)) ≤ length (dirty_from block at cells)
dirty_within block at cells zero = omega arith
dirty_within block at [] (suc i) = omega arith
dirty_within block at (x ∷ cells) (suc i) = grind (arith, dirty_within block (at + 1) cells i)

-- a frame that holds a block has the block's words
pub held-cells : (ways words : ℕ) (d : Frames) (f : ℕ) → IsSound ways words d → is_held d f ≡ true
    → length (frame_at d.frames f).cells ≡ words
held-cells ways words d f whole held = grind arith

-- one more dirty word is queued
pub queue_one_more : (q old new : Queue) (block at i : ℕ) (cells : List Cell) (word : Word) (lanes : Lanes) → i < length cells
    → has_any (get_or cells i zero_cell).dirty ≡ true → lanes ≡ (get_or cells i zero_cell).dirty
    → word ≡ merged zero_word (get_or cells i zero_cell).word lanes
    → q ≡ queue_of (old.entries ++ dirty_from block at (take i cells)) old.limit
    → new ≡ queue_of (q.entries ++ record { block = block; at = at + i; word = word; lanes = lanes } ∷ []) q.limit
    → new ≡ queue_of (old.entries ++ dirty_from block at (take (i + 1) cells)) old.limit
queue_one_more q old new block at i cells word lanes h d el ew eq en = grind (arith, dirty_more block at cells i true h d, append_assoc)

-- of n values, the first i those of g from a on, and d behind them
abbrev pub begun_to : {X : Type 0} → (ℕ → X) → X → (a i n : ℕ) → List X
begun_to g d a zero n = replicate n d
begun_to g d a (suc i) zero = []
begun_to g d a (suc i) (suc n) = g a ∷ begun_to g d (a + 1) i n

begun_set : {X : Type 0} (g : ℕ → X) (d : X) (a i n : ℕ) → i < n → set (begun_to g d a i n) i (g (a + i)) ≡ begun_to g d a (suc i) n
begun_set g d a (suc i) (suc n) h =
    let e : a + suc i ≡ a + 1 + i = omega arith in
    cc (e, begun_set g d (a + 1) i n (omega arith))
begun_set g d a i n h = grind arith

begun_at : {X : Type 0} (g : ℕ → X) (d e : X) (a i n : ℕ) → i < n → get_or (begun_to g d a i n) i e ≡ d
begun_at g d e a zero (suc n) h = refl
begun_at g d e a (suc i) (suc n) h = begun_at g d e (a + 1) i n (omega arith)
begun_at g d e a i zero h = absurd (omega arith)

begun_all : {X : Type 0} (g : ℕ → X) (d : X) (a n : ℕ) → begun_to g d a n n ≡ map g (range_with_len a n)
begun_all g d a zero = refl
begun_all g d a (suc n) = cc (begun_all g d (a + 1) n)

pub begun-length : {X : Type 0} (g : ℕ → X) (d : X) (a i n : ℕ) → i ≤ n → length (begun_to g d a i n) ≡ n
begun-length g d a zero n h = length-replicate n d
begun-length g d a (suc i) zero h = absurd (omega arith)
begun-length g d a (suc i) (suc n) h = ap suc (begun-length g d (a + 1) i n (omega arith))

-- the frame and the register when i words are begun
abbrev pub frame_to : ℕ → List Queued → ℕ → ℕ → Frame
frame_to words entries block i =
    record { block = Some block; pending = true; cells = begun_to (begun_cell entries) zero_cell (block * words) i words }

abbrev pub register_to : ℕ → List Queued → ℕ → ℕ → ℕ → Register
register_to words entries block frame i = record {
  valid = true;
  obsolete = false;
  block = block;
  frame = frame;
  fields = begun_to (begun_field entries) clear_field (block * words) i words;
}

-- the frame's next word is filled
pub frame_next : (d d' d'' : Frames) (words : ℕ) (entries : List Queued) (block frame i : ℕ) → frame < length d.frames → i < words
    → d' ≡ with_frame d frame (frame_to words entries block i)
    → d'' ≡ with_frame d' frame (filled (frame_at d'.frames frame) i (overlaid zero_word entries (block * words + i)) no_lanes)
    → d'' ≡ with_frame d frame (frame_to words entries block (i + 1))
unfolding filled
frame_next d d' d'' words entries block frame i there small e e' =
    let g = begun_cell entries in
    let now = frame_to words entries block i in
    let at : frame_at d'.frames frame ≡ now = cc (e, get_or-set_same _ frame now empty_frame there) in
    let word = overlaid zero_word entries (block * words + i) in
    let one : filled now i word no_lanes ≡ frame_to words entries block (i + 1) =
    cc (
      merged-none word (cell_at now i).word,
      begun_at g zero_cell zero_cell (block * words) i words small,
      begun_set g zero_cell (block * words) i words small,
      add-one i,
    ) in
    cc (e, e', at, one, set-set d.frames frame now (frame_to words entries block (i + 1)))

-- the register's next code is noted
pub register_next : (rs rs' rs'' : List Register) (words : ℕ) (entries : List Queued) (block frame slot i : ℕ) → slot < length rs
    → i < words → rs' ≡ set rs slot (register_to words entries block frame i)
    → rs'' ≡ set rs' slot (noted (register_at rs' slot) i (queued_lanes entries (block * words + i)))
    → rs'' ≡ set rs slot (register_to words entries block frame (i + 1))
unfolding noted
register_next rs rs' rs'' words entries block frame slot i there small e e' =
    let g = begun_field entries in
    let now = register_to words entries block frame i in
    let at : register_at rs' slot ≡ now = cc (e, get_or-set_same rs slot now free_register there) in
    let lanes = queued_lanes entries (block * words + i) in
    let one : noted now i lanes ≡ register_to words entries block frame (i + 1) =
    cc (
      begun_at g clear_field clear_field (block * words) i words small,
      joined-none lanes,
      begun_set g clear_field (block * words) i words small,
      add-one i,
    ) in
    cc (e, e', at, one, set-set rs slot now (register_to words entries block frame (i + 1)))

pub frame_whole : (words : ℕ) (entries : List Queued) (block i : ℕ) → i ≡ words
    → frame_to words entries block i ≡ begun_frame words entries block
frame_whole words entries block i e = grind (arith, begun_all)

pub register_whole : (words : ℕ) (entries : List Queued) (block frame i : ℕ) → i ≡ words
    → register_to words entries block frame i ≡ begun_register words entries block frame
register_whole words entries block frame i e = grind (arith, begun_all)

-- no word is begun yet
pub frame_first : (d : Frames) (words : ℕ) (entries : List Queued) (block frame : ℕ) → frame_at d.frames frame ≡ fresh_frame words block
    → d ≡ with_frame d frame (frame_to words entries block 0)
unfolding fresh_frame
frame_first d words entries block frame e = grind (arith, set-get_or)

pub register_first : (rs : List Register) (words : ℕ) (entries : List Queued) (block frame slot : ℕ)
    → register_at rs slot ≡ fresh words block frame → rs ≡ set rs slot (register_to words entries block frame 0)
unfolding fresh
register_first rs words entries block frame slot e = grind (arith, set-get_or)

-- the register that is begun is the slot's
pub register_now : (rs rs' : List Register) (words : ℕ) (entries : List Queued) (block frame slot i : ℕ) → slot < length rs
    → rs' ≡ set rs slot (register_to words entries block frame i) → register_at rs' slot ≡ register_to words entries block frame i
register_now rs rs' words entries block frame slot i there e = grind (arith, get_or-set_same)

pub field_waits : (words : ℕ) (entries : List Queued) (block frame i : ℕ) → i < words
    → (field_of (register_to words entries block frame i) i).processed ≡ false
field_waits words entries block frame i h = grind (arith, begun_at)
