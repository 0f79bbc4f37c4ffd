-- A recorded run whose last value is late: the word that came isn't the one that its load is owed, but stood at its address at a
-- later moment.
use Rattle.std.specs.Prelude.{ℕ, ◌≡◌, Bool, true, false, ◌&&◌, not, ◌==◌, List, [], ◌∷◌, ◌++◌, Some}
use Rattle.memory_histories.specs.declared.events.Rest.TheVariants.{Zeros}
use Rattle.machine_core.specs.Words.{Word, Event, Load, Take, Answer, Accepted, Value}
use Rattle.flat_model.specs.Flat.{Flat, opening, word_at, same_word, may_answer, flat_after, flat_run}
use Rattle.atomic_histories.specs.Law.{IsAtomic}
use Rattle.history_laws.specs.Told.{image_bytes, told_history, IsAddressable}

-- a step gives a value under this tag
abbrev pub is_value_of : ℕ → Event → Answer → Bool
is_value_of tag (Take place) (Value t word) = t == tag
is_value_of tag event answer = false

-- none of these steps does, so a load that is open under the tag before them is open behind them
abbrev pub has_no_value : ℕ → List Event → List Answer → Bool
has_no_value tag (event ∷ events) (answer ∷ answers) = not (is_value_of tag event answer) && has_no_value tag events answers
has_no_value tag events answers = true

-- In this flat run a load is accepted under the tag and open from then to the end, and at some moment between the two this word
-- stood at its address.
pub record HasStood (image : List Word) (events : List Event) (answers : List Answer) (tag : ℕ) (word : Word) : Type 0 where
  -- the steps before the load, from there to the moment, and behind it
  pub at : ℕ
  pub before : List Event
  pub until : List Event
  pub behind : List Event
  pub before_answers : List Answer
  pub until_answers : List Answer
  pub behind_answers : List Answer
  pub events_are : events ≡ before ++ Load tag at ∷ (until ++ behind)
  pub answers_are : answers ≡ before_answers ++ Accepted ∷ (until_answers ++ behind_answers)
  -- flat memory where the load is accepted, at the moment, and at the end
  pub first : Flat
  pub moment : Flat
  pub last : Flat
  pub runs_first : flat_run (opening image) before before_answers ≡ Some first
  pub accepted : may_answer first (Load tag at) Accepted ≡ true
  pub runs_until : flat_run (flat_after first (Load tag at) Accepted) until until_answers ≡ Some moment
  pub stood : same_word (word_at moment.mem at) word ≡ true
  pub runs_behind : flat_run moment behind behind_answers ≡ Some last
  pub open_until : has_no_value tag until until_answers ≡ true
  pub open_behind : has_no_value tag behind behind_answers ≡ true

-- such a run with that value behind it is an atomic history, in units of any size
abbrev pub LateIsAtomic : List Word → ℕ → List Event → List Answer → ℕ → ℕ → Word → Type 0
LateIsAtomic image size events answers tag place word =
    IsAddressable image → HasStood image events answers tag word
    → IsAtomic (image_bytes image) Zeros size (told_history (events ++ Take place ∷ []) (answers ++ Value tag word ∷ []))
