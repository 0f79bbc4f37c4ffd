-- What a `Tags` keeps: of each tag what became of it, and the words that its open load may have got since it was accepted.
use Rattle.std.specs.Prelude.{◌≡◌, ℕ, ◌≤◌, Bool, true, false, ◌==◌, ◌&&◌, if◌then◌else◌, List, [], ◌∷◌, ◌++◌, drop, length, slice_index_or}
use Rattle.std.specs.List.{sum_by}
use Rattle.flat_model.specs.declared.Word.{Word}
use Rattle.flat_model.specs.Flat.{same_word}
use Rattle.run_reasons.specs.declared.origins.TagUse.{TagUse}
use Rattle.run_reasons.specs.declared.origins.TagUse.TheVariants.{Never, Loaded, Taken}
use Rattle.run_reasons.specs.declared.tags.LeftWord.{LeftWord}
use Rattle.run_reasons.specs.declared.tags.TagSlot.{TagSlot}
use Rattle.run_reasons.specs.Origins.{is_open_at}

-- ---- what it shows

abbrev pub no_slot : TagSlot
no_slot = record { state = Never; before = 0 }

abbrev pub slot_at : List TagSlot → ℕ → TagSlot
slot_at slots tag = slice_index_or slots tag no_slot

-- what became of each tag of a list, and of those beyond it
abbrev pub uses_in : List TagSlot → ℕ → TagUse
uses_in slots tag = (slot_at slots tag).state

-- the words among these that were left at an address
abbrev pub words_at : ℕ → List LeftWord → List Word
words_at at [] = []
words_at at (l ∷ ls) = if at == l.at then l.word ∷ words_at at ls else words_at at ls

-- whether it is this word, left at this address
abbrev pub is_left : ℕ → Word → LeftWord → Bool
is_left at word l = (at == l.at) && same_word l.word word

-- those that were left at the address of an open load behind the first words of the list
abbrev pub words_behind : List LeftWord → ℕ → TagUse → List Word
words_behind left before Never = []
words_behind left before (Loaded load) = words_at load.at (drop before left)
words_behind left before (Taken n) = []

abbrev pub since_in : List LeftWord → List TagSlot → ℕ → List Word
since_in left slots tag = words_behind left (slot_at slots tag).before (slot_at slots tag).state

-- ---- what is true of it

-- whether a load has the tag
abbrev pub is_open : TagUse → Bool
is_open Never = false
is_open (Loaded load) = true
is_open (Taken n) = false

-- how many of these tags have a load, and how many one of the word at an address
abbrev pub loads_in : List TagSlot → ℕ
loads_in slots = sum_by (λ s. if is_open s.state then 1 else 0) slots

abbrev pub loads_at : ℕ → List TagSlot → ℕ
loads_at at slots = sum_by (λ s. if is_open_at at s.state then 1 else 0) slots

-- the loads are counted, and each began behind words that were left
pub record IsCounted (slots : List TagSlot) (counts : List ℕ) (loads : ℕ) (left : List LeftWord) : Type 0 where
  pub each_word : (at : ℕ) → slice_index_or counts at 0 ≡ loads_at at slots
  pub all : loads ≡ loads_in slots
  pub behind : (tag : ℕ) → is_open (uses_in slots tag) ≡ true → (slot_at slots tag).before ≤ length left

-- ---- what is kept of the words that were left

-- words that were left are kept while any load is open
abbrev pub while_open : ℕ → List LeftWord → List LeftWord
while_open loads left = if loads == 0 then [] else left

-- a word more, left at an address: it is kept only if a load of that address is open
abbrev pub with_left_word : List TagSlot → List LeftWord → ℕ → Word → List LeftWord
with_left_word slots left at word = if loads_at at slots == 0 then left else left ++ record { at = at; word = word } ∷ []
