-- In a run of flat memory that ends with nothing owed, each accepted load has got its value.
use Rattle.std.proofs.Common.{◌≡◌, ℕ, ◌+◌, Bool, true, false, ◌||◌, List, [], ◌∷◌, ◌++◌, Some, None, is_some, refl, ap}
use Rattle.std.proofs.Common.{arith, eq-eqb, ⊎_elim}
use Rattle.std.specs.Option.{option_and_then}
use Rattle.std.proofs.lemmas.Bool.{cases_Bool}
use Rattle.flat_model.specs.declared.Word.{Word}
use Rattle.flat_model.specs.declared.Event.{Event}
use Rattle.flat_model.specs.declared.Event.TheVariants.{Load, Store, Take}
use Rattle.flat_model.specs.declared.Answer.{Answer}
use Rattle.flat_model.specs.declared.Answer.TheVariants.{Accepted, Value}
use Rattle.flat_model.specs.Flat.{Flat, may_answer, flat_after, flat_step, flat_run}
use Rattle.station_journal.specs.declared.journal.Source.{Source}
use Rattle.station_journal.specs.declared.journal.Entry.{Entry}
use Rattle.station_journal.specs.declared.journal.Entry.TheVariants.{Step, Ended}
use Rattle.station_journal.specs.Journal.{events_of, answers_of}
use Rattle.station_journal.specs.Paid.{accepts, is_accepted, takes, is_taken, is_untaken, IsTaken, LoadsAreTaken}

-- ---- a run, step by step

pub record Then (f g : Flat) (event : Event) (answer : Answer) (entries : List Entry) : Type 0 where
  pub may : may_answer f event answer ≡ true
  pub runs : flat_run (flat_after f event answer) (events_of entries) (answers_of entries) ≡ Some g

pub first_of_run : (f g : Flat) (event : Event) (answer : Answer) (entries : List Entry)
    → option_and_then (λ t. flat_run t (events_of entries) (answers_of entries)) (flat_step f event answer) ≡ Some g
    → Then f g event answer entries
first_of_run f g event answer entries e = grind arith

-- ---- one step

abbrev pub one_if : Bool → ℕ
one_if true = 1
one_if false = 0

-- a tag is owed one value more by a load that is accepted, and one less by a value that is taken
pub step_due : (tag : ℕ) (f : Flat) (event : Event) (answer : Answer) → may_answer f event answer ≡ true
    → one_if (is_some (f.due tag)) + one_if (accepts tag event answer)
    ≡ one_if (is_some ((flat_after f event answer).due tag)) + one_if (takes tag event answer)
step_due tag f (Load t at) Accepted may = grind arith
step_due tag f (Store at word lanes) Accepted may = refl
step_due tag f (Take place) (Value t word) may = grind arith
step_due tag f event answer may = refl

-- an entry that takes the tag's value
record Takes (tag : ℕ) (source : Source) (event : Event) (answer : Answer) : Type 0 where
  place : ℕ
  word : Word
  is : Step source event answer ≡ Step source (Take place) (Value tag word)
  other : accepts tag event answer ≡ false

taken : (tag : ℕ) (source : Source) (event : Event) (answer : Answer) → takes tag event answer ≡ true → Takes tag source event answer
taken tag source (Take place) (Value t w) e =
    record { place = place; word = w; is = grind arith; other = refl }
taken tag source event answer e = cc

-- ---- a whole run

behind : (tag : ℕ) (e : Entry) (entries : List Entry) → (is_accepted tag e || is_taken tag e) ≡ false → IsTaken tag entries
    → IsTaken tag (e ∷ entries)
behind tag e entries none h =
    record {
      before = e ∷ h.before;
      rest = h.rest;
      source = h.source;
      place = h.place;
      word = h.word;
      is = ap (λ l. e ∷ l) h.is;
      none_between = grind arith;
      once = h.once;
    }

-- the value of a tag that is owed nothing isn't taken
untaken_from : (tag : ℕ) (entries : List Entry) (f g : Flat) → flat_run f (events_of entries) (answers_of entries) ≡ Some g
    → is_some (f.due tag) ≡ false → is_untaken tag entries ≡ true
untaken_from tag [] f g run none = refl
untaken_from tag (Ended port ∷ rest) f g run none = untaken_from tag rest f g run none
untaken_from tag (Step source event answer ∷ rest) f g run none =
    let first = first_of_run f g event answer rest run in
    grind (arith, step_due tag f event answer first.may, untaken_from tag rest _ g first.runs)

-- and the value of one that is owed it is taken, where it is owed nothing in the end
owed_taken : (tag : ℕ) (entries : List Entry) (f g : Flat) → flat_run f (events_of entries) (answers_of entries) ≡ Some g
    → g.due tag ≡ None → is_some (f.due tag) ≡ true → IsTaken tag entries
owed_taken tag [] f g run none owed = absurd (grind arith)
owed_taken tag (Ended port ∷ rest) f g run none owed =
    behind tag _ rest refl (owed_taken tag rest f g run none owed)
owed_taken tag (Step source event answer ∷ rest) f g run none owed =
    let first = first_of_run f g event answer rest run in
    ⊎_elim (λ e. let here = taken tag source event answer e in record {
      before = [];
      rest = rest;
      source = source;
      place = here.place;
      word = here.word;
      is = grind arith;
      none_between = refl;
      once = untaken_from tag rest (flat_after f event answer) g first.runs (grind arith);
    }) (λ e. behind tag _ rest (grind arith)
    (owed_taken tag rest _ g first.runs none (grind arith))) (cases_Bool _)

pub loads_are_taken : (entries : List Entry) (f g : Flat) → flat_run f (events_of entries) (answers_of entries) ≡ Some g
    → ((tag : ℕ) → g.due tag ≡ None) → LoadsAreTaken entries
loads_are_taken entries f g run none before rest source tag at is =
    go before f (rw is at run)
  where
    go : (before : List Entry) (f : Flat)
        → flat_run f (events_of (before ++ Step source (Load tag at) Accepted ∷ rest))
        (answers_of (before ++ Step source (Load tag at) Accepted ∷ rest)) ≡ Some g
        → IsTaken tag rest
    go [] f run = owed_taken tag rest _ g (first_of_run f g (Load tag at) Accepted rest run).runs (none tag)
        (grind (arith, eq-eqb tag tag refl))
    go (Ended port ∷ more) f run = go more f run
    go (Step s event answer ∷ more) f run = go more _ (first_of_run f g event answer (more ++ Step source _ Accepted ∷ rest) run).runs
