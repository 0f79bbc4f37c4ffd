-- What each event makes of the forms of the unit's words and of what is owed, whatever words arrive.
use Rattle.std.specs.Prelude.{ℕ, ◌≡◌, true, if◌then◌else◌, ◌==◌, Option, Some, None, ◌++◌, List}
use Rattle.std.specs.Option.{option_map}
use Rattle.flat_model.specs.declared.Word.{Word}
use Rattle.flat_model.specs.declared.Lanes.{Lanes}
use Rattle.flat_model.specs.declared.Answer.{Answer}
use Rattle.flat_model.specs.declared.Answer.TheVariants.{Accepted, Moved, Value, Nothing, Refused}
use Rattle.flat_model.specs.Words.{zero_word}
use Rattle.flat_model.specs.Places.{is_number}
use Rattle.write_queue.specs.declared.Queued.{Queued}
use Rattle.write_queue.specs.Queue.{overlaid, queued_lanes}
use Rattle.cache_law.specs.declared.Request.{Request}
use Rattle.cache_law.specs.declared.Request.TheVariants.{Load, Store, Prefetch}
use Rattle.cache_law.specs.declared.Sizes.{Sizes}
use Rattle.cache_law.specs.State.{Cache, frame_at, frame_of, is_present, free_slot, block_of, place_in}
use Rattle.cache_law.specs.Causes.{choose, dirty_words}
use Rattle.cache_law.specs.Forms.{Asked, Form, bytes_of, over_form, form, fill, owed}

-- ---- all forms of a unit

abbrev pub form_where : Sizes → Cache → ℕ → Option ℕ → Option Form
form_where z c at None = None
form_where z c at (Some f) = Some (form c (block_of z at) (place_in z at))

-- the form of the word at an address, where its block is present
unfoldable pub form_at : Sizes → Cache → ℕ → Option Form
form_at z c at = form_where z c at (frame_of c (block_of z at))

-- the forms of the words, by address, and those that are owed, by tag
pub record Forms : Type 0 where
  pub words : ℕ → Option Form
  pub owing : ℕ → Option Form

abbrev pub forms : Sizes → Cache → Forms
forms z c = record { words = form_at z c; owing = owed c }

-- the same, but for one address or tag
abbrev pub but_at : (ℕ → Option Form) → ℕ → Option Form → ℕ → Option Form
but_at f n o m = if m == n then o else f m

-- ---- a block goes, and a block comes

-- the words of this block have no form
abbrev pub words_without : Sizes → (ℕ → Option Form) → Option ℕ → ℕ → Option Form
words_without z words block at = if is_number block (block_of z at) then None else words at

-- the newest queued lanes of a word, and elsewhere those that the register in this slot asks for
abbrev pub asked_form : Sizes → List Queued → ℕ → ℕ → Form
asked_form z queue slot at =
    over_form (queued_lanes queue at) (overlaid zero_word queue at) (λ l. Asked slot (place_in z at) l)

-- the words of this block are asked for
abbrev pub words_with : Sizes → (ℕ → Option Form) → ℕ → List Queued → ℕ → ℕ → Option Form
words_with z words block queue slot at = if block_of z at == block then Some (asked_form z queue slot at) else words at

-- a miss: the block that the chosen frame holds goes, its dirty words are queued, and the new block comes
abbrev pub missed_words : Sizes → Cache → ℕ → Option ℕ → Option ℕ → ℕ → Option Form
missed_words z c block (Some f) (Some slot) =
    words_with z (words_without z (form_at z c) (frame_at c f).block) block (c.queue ++ dirty_words z c (Some f)) slot
missed_words z c block f slot = form_at z c

-- the words once a block is present: a request that finds no frame or no register is refused
abbrev pub fetched_words : Sizes → Cache → ℕ → ℕ → Option Form
fetched_words z c block = if is_present c block then form_at z c else missed_words z c block (choose z c block) (free_slot c)

-- ---- requests

-- the tag is owed the form of the word
pub record LoadForms (z : Sizes) (c : Cache) (tag at : ℕ) (d : Cache) : Type 0 where
  pub present : is_present d (block_of z at) ≡ true
  pub after : forms z d
      ≡ record {
        words = fetched_words z c (block_of z at);
        owing = but_at (owed c) tag (fetched_words z c (block_of z at) at);
      }

-- the lanes of the word's form are the stored bytes
pub record StoreForms (z : Sizes) (c : Cache) (at : ℕ) (word : Word) (lanes : Lanes) (d : Cache) : Type 0 where
  pub present : is_present d (block_of z at) ≡ true
  pub after : forms z d
      ≡ record {
        words =
            but_at (fetched_words z c (block_of z at)) at
            (option_map (over_form lanes word) (fetched_words z c (block_of z at) at));
        owing = owed c;
      }

pub record PrefetchForms (z : Sizes) (c : Cache) (at : ℕ) (d : Cache) : Type 0 where
  pub present : is_present d (block_of z at) ≡ true
  pub after : forms z d ≡ record { words = fetched_words z c (block_of z at); owing = owed c }

-- a request is accepted or refused
unfoldable pub RequestForms : Sizes → Cache → Request → Answer → Cache → Type 0
RequestForms z c (Load tag at) Accepted d = LoadForms z c tag at d
RequestForms z c (Store at word lanes) Accepted d = StoreForms z c at word lanes d
RequestForms z c (Prefetch at) Accepted d = PrefetchForms z c at d
RequestForms z c request (Refused cause) d = forms z d ≡ forms z c
RequestForms z c request answer d = ⊥

-- ---- the other events

-- the block's words have no form
unfoldable pub EvictForms : Sizes → Cache → ℕ → Answer → Cache → Type 0
EvictForms z c block Accepted d = forms z d ≡ record { words = words_without z (form_at z c) (Some block); owing = owed c }
EvictForms z c block (Refused cause) d = forms z d ≡ forms z c
EvictForms z c block answer d = ⊥

-- a drained write changes none, and neither does a word that is processed
unfoldable pub SameForms : Sizes → Cache → Answer → Cache → Type 0
SameForms z c answer d = forms z d ≡ forms z c

-- the form once word i of the register in this slot is known
abbrev pub filled_form : ℕ → ℕ → Word → Form → Form
filled_form slot i w form l = fill slot i w (form l)

-- a word that arrives fills all forms
unfoldable pub ArriveForms : Sizes → Cache → ℕ → ℕ → Word → Answer → Cache → Type 0
ArriveForms z c slot i w Moved d =
    forms z d ≡ record {
      words = λ at. option_map (filled_form slot i w) (form_at z c at);
      owing = λ tag. option_map (filled_form slot i w) (owed c tag);
    }
ArriveForms z c slot i w (Refused cause) d = forms z d ≡ forms z c
ArriveForms z c slot i w answer d = ⊥

-- the value is what its tag was owed, and the tag is owed nothing more
pub record TakeForms (z : Sizes) (c : Cache) (tag : ℕ) (word : Word) (d : Cache) : Type 0 where
  pub before : owed c tag ≡ Some (bytes_of word)
  pub after : forms z d ≡ record { words = form_at z c; owing = but_at (owed c) tag None }

unfoldable pub TakenForms : Sizes → Cache → Answer → Cache → Type 0
TakenForms z c (Value tag word) d = TakeForms z c tag word d
TakenForms z c Nothing d = forms z d ≡ forms z c
TakenForms z c answer d = ⊥
