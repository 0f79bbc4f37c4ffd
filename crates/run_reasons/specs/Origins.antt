-- Where the words of flat memory come from: the fold that keeps, beside flat memory, where each byte was last stored,
-- where each tag was loaded or taken, which words its load may have got since, and when each value of a byte was overwritten.
use Rattle.std.specs.Prelude.{ℕ, ◌+◌, Bool, false, ◌==◌, ◌&&◌, if◌then◌else◌, nat_lt, Option, Some, None, List, [], ◌∷◌, ◌++◌, length}
use Rattle.std.specs.Prelude.{replicate, slice_set, slice_index_or}
use Rattle.flat_model.specs.declared.Word.{Word}
use Rattle.flat_model.specs.declared.Lanes.{Lanes}
use Rattle.flat_model.specs.declared.Event.{Event}
use Rattle.flat_model.specs.declared.Event.TheVariants.{Load, Store, Take}
use Rattle.flat_model.specs.declared.Answer.{Answer}
use Rattle.flat_model.specs.declared.Answer.TheVariants.{Accepted, Value}
use Rattle.flat_model.specs.Words.{zero_word, has, merged, Lane0, Lane1, Lane2, Lane3}
use Rattle.flat_model.specs.Flat.{Flat, opening, word_at, flat_after}
use Rattle.trace_text.specs.Pairs.{pair_of}
use Rattle.trace_text.specs.Checks.{step_of}
use Rattle.trace_text.specs.declared.check.Step.{Step}
use Rattle.run_reasons.specs.declared.origins.Stores.{Stores}
use Rattle.run_reasons.specs.declared.origins.AcceptedLoad.{AcceptedLoad}
use Rattle.run_reasons.specs.declared.origins.TagUse.{TagUse}
use Rattle.run_reasons.specs.Pasts.{PastOf, overwritten_in}
use Rattle.run_reasons.specs.declared.origins.TagUse.TheVariants.{Never, Loaded, Taken}

-- flat memory, the lines that last stored each word's bytes, what became of each tag, and which values were overwritten. Of a
-- tag that is loaded there are also the words that stood at its load's address since the load was accepted, but for the first:
-- each is what a store left there, and the oldest comes first
pub record Origins : Type 0 where
  pub flat : Flat
  pub stores : List Stores
  pub tags : ℕ → TagUse
  pub since : ℕ → List Word
  pub past : PastOf

-- no line has stored a byte
abbrev pub no_stores : Stores
no_stores = record { b0 = 0; b1 = 0; b2 = 0; b3 = 0 }

abbrev pub stores_at : List Stores → ℕ → Stores
stores_at stores at = slice_index_or stores at no_stores

-- the lines after line n has stored the bytes in these lanes
unfoldable pub stored_in : ℕ → Lanes → Stores → Stores
stored_in n lanes s = record {
  b0 = if has lanes Lane0 then n else s.b0;
  b1 = if has lanes Lane1 then n else s.b1;
  b2 = if has lanes Lane2 then n else s.b2;
  b3 = if has lanes Lane3 then n else s.b3;
}

-- the tags, of which one has become this
abbrev pub with_use : (ℕ → TagUse) → ℕ → TagUse → ℕ → TagUse
with_use tags tag state t = if t == tag then state else tags t

-- memory of these words, before any line
abbrev pub beginning : List Word → Origins
beginning words = record {
  flat = opening words;
  stores = replicate (length words) no_stores;
  tags = λ tag. Never;
  since = λ tag. [];
  past = λ key. None;
}

-- a load of this address, accepted in line n
abbrev pub accepted_load : Origins → ℕ → ℕ → AcceptedLoad
accepted_load o n at = record { line = n; at = at; word = word_at o.flat.mem at; stores = stores_at o.stores at }

-- the lines that last stored each byte, after line n with this event and answer
abbrev pub stores_after : List Stores → ℕ → Event → Answer → List Stores
stores_after stores n (Store at word lanes) Accepted = slice_set stores at (stored_in n lanes (stores_at stores at))
stores_after stores n event answer = stores

-- what became of each tag
abbrev pub tags_after : Origins → ℕ → Event → Answer → ℕ → TagUse
tags_after o n (Load tag at) Accepted = with_use o.tags tag (Loaded (accepted_load o n at))
tags_after o n (Take place) (Value tag word) = with_use o.tags tag (Taken n)
tags_after o n event answer = o.tags

-- whether a tag is loaded with the word at an address
abbrev pub is_open_at : ℕ → TagUse → Bool
is_open_at at Never = false
is_open_at at (Loaded load) = load.at == at
is_open_at at (Taken n) = false

-- for one tag none of them is left
abbrev pub without_since : (ℕ → List Word) → ℕ → ℕ → List Word
without_since since tag t = if t == tag then [] else since t

-- a store leaves this word at an address: from now on it stands there for each load that is open
abbrev pub with_left : (ℕ → TagUse) → (ℕ → List Word) → ℕ → Word → ℕ → List Word
with_left tags since at word t = if is_open_at at (tags t) then since t ++ word ∷ [] else since t

-- the word that an event may overwrite: a store's
abbrev pub word_under : Flat → Event → Word
word_under s (Store at word lanes) = word_at s.mem at
word_under s event = zero_word

-- which values were overwritten, where this word stood under the event
abbrev pub past_over : Word → List Stores → PastOf → ℕ → Event → Answer → PastOf
past_over old stores past n (Store at word lanes) Accepted = overwritten_in n lanes at old (stores_at stores at) past
past_over old stores past n event answer = past

abbrev pub past_after : Origins → ℕ → Event → Answer → PastOf
past_after o n event answer = past_over (word_under o.flat event) o.stores o.past n event answer

-- which words stood at the address of each open load since it was accepted, where this word stood under the event
abbrev pub since_over : Word → (ℕ → TagUse) → (ℕ → List Word) → Event → Answer → ℕ → List Word
since_over old tags since (Load tag at) Accepted = without_since since tag
since_over old tags since (Store at word lanes) Accepted = with_left tags since at (merged old word lanes)
since_over old tags since (Take place) (Value tag word) = without_since since tag
since_over old tags since event answer = since

abbrev pub since_after : Origins → Event → Answer → ℕ → List Word
since_after o event answer = since_over (word_under o.flat event) o.tags o.since event answer

-- what an event and its answer in line n leave
abbrev pub origins_after : Origins → ℕ → Event → Answer → Origins
origins_after o n event answer = record {
  flat = flat_after o.flat event answer;
  stores = stores_after o.stores n event answer;
  tags = tags_after o n event answer;
  since = since_after o event answer;
  past = past_after o n event answer;
}

-- the same of a line, which may be no step
abbrev pub origins_then : Origins → ℕ → Option Step → Origins
origins_then o n None = o
origins_then o n (Some step) = origins_after o n step.event step.answer

-- what these lines leave, of which the first is line n
abbrev pub origins_from : ℕ → Origins → List (List ℕ) → Origins
origins_from n o [] = o
origins_from n o (text ∷ texts) = origins_from (n + 1) (origins_then o n (step_of (pair_of text))) texts

-- what these lines leave, of a run that begins with these words
abbrev pub origins_of : List Word → List (List ℕ) → Origins
origins_of words texts = origins_from 1 (beginning words) texts

-- the line behind a load that stored the byte that came, if memory has it there still; else 0
abbrev pub later_store : ℕ → ℕ → ℕ → ℕ → ℕ
later_store load now got store = if (now == got) && nat_lt load store then store else 0

-- the same of each byte of a word
abbrev pub later_stores : ℕ → Word → Word → Stores → Stores
later_stores load now got s = record {
  b0 = later_store load now.b0 got.b0 s.b0;
  b1 = later_store load now.b1 got.b1 s.b1;
  b2 = later_store load now.b2 got.b2 s.b2;
  b3 = later_store load now.b3 got.b3 s.b3;
}
