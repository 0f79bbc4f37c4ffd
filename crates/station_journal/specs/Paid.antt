-- Which loads of a journal have got their values.
use Rattle.std.specs.Prelude.{◌≡◌, ℕ, Bool, true, false, ◌&&◌, ◌||◌, ◌==◌, not, List, [], ◌∷◌, ◌++◌}
use Rattle.std.specs.List.{list_all}
use Rattle.flat_model.specs.declared.Word.{Word}
use Rattle.flat_model.specs.declared.Event.{Event}
use Rattle.flat_model.specs.declared.Event.TheVariants.{Load, Take}
use Rattle.flat_model.specs.declared.Answer.{Answer}
use Rattle.flat_model.specs.declared.Answer.TheVariants.{Accepted, Value}
use Rattle.station_journal.specs.declared.journal.Source.{Source}
use Rattle.station_journal.specs.declared.journal.Entry.{Entry}
use Rattle.station_journal.specs.declared.journal.Entry.TheVariants.{Step, Ended}

-- a load under this tag is accepted
abbrev pub accepts : ℕ → Event → Answer → Bool
accepts tag (Load t at) Accepted = t == tag
accepts tag event answer = false

abbrev pub is_accepted : ℕ → Entry → Bool
is_accepted tag (Step source event answer) = accepts tag event answer
is_accepted tag (Ended port) = false

-- the tag's value is taken
abbrev pub takes : ℕ → Event → Answer → Bool
takes tag (Take place) (Value t word) = tag == t
takes tag event answer = false

abbrev pub is_taken : ℕ → Entry → Bool
is_taken tag (Step source event answer) = takes tag event answer
is_taken tag (Ended port) = false

-- up to the next accepted load of the tag, no entry takes its value
abbrev pub is_untaken : ℕ → List Entry → Bool
is_untaken tag [] = true
is_untaken tag (e ∷ rest) = is_accepted tag e || (not (is_taken tag e) && is_untaken tag rest)

-- before the next accepted load of the tag its value is taken, once
pub record IsTaken (tag : ℕ) (entries : List Entry) : Type 0 where
  pub before : List Entry
  pub rest : List Entry
  pub source : Source
  pub place : ℕ
  pub word : Word
  pub is : entries ≡ before ++ Step source (Take place) (Value tag word) ∷ rest
  pub none_between : list_all (λ e. not (is_accepted tag e || is_taken tag e)) before ≡ true
  pub once : is_untaken tag rest ≡ true

-- each accepted load has one value, between it and the next accepted load of its tag
abbrev pub LoadsAreTaken : List Entry → Type 0
LoadsAreTaken entries =
    (before rest : List Entry) (source : Source) (tag at : ℕ)
    → entries ≡ before ++ Step source (Load tag at) Accepted ∷ rest
    → IsTaken tag rest
