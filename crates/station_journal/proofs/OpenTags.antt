-- The tags that flat memory owes a value, counted along a run.
use Rattle.std.proofs.Common.{◌≡◌, ℕ, ◌+◌, ◌/◌, ◌≤◌, Bool, true, false, cond, ◌==◌, List, [], ◌∷◌, Some, None}
use Rattle.std.proofs.Common.{is_some, refl, ap, arith, eq-eqb}
use Rattle.flat_model.specs.declared.Event.{Event}
use Rattle.flat_model.specs.declared.Event.TheVariants.{Load, Store, Take}
use Rattle.flat_model.specs.declared.Answer.{Answer}
use Rattle.flat_model.specs.declared.Answer.TheVariants.{Accepted, Value}
use Rattle.flat_model.specs.Flat.{Flat, may_answer, flat_after, flat_run}
use Rattle.station_journal.specs.declared.journal.Entry.{Entry}
use Rattle.station_journal.specs.declared.journal.Entry.TheVariants.{Step, Ended}
use Rattle.station_journal.specs.Journal.{events_of, answers_of}
use Rattle.station_journal.proofs.Paying.{first_of_run, one_if, step_due}

-- ---- loads accepted and values taken, by their tags

abbrev pub load_by : (ℕ → Bool) → Event → Answer → ℕ
load_by q (Load tag at) Accepted = one_if (q tag)
load_by q event answer = 0

abbrev pub value_by : (ℕ → Bool) → Event → Answer → ℕ
value_by q (Take place) (Value tag word) = one_if (q tag)
value_by q event answer = 0

abbrev pub counted : (Event → Answer → ℕ) → List Entry → ℕ
counted n [] = 0
counted n (Ended port ∷ rest) = counted n rest
counted n (Step source event answer ∷ rest) = n event answer + counted n rest

-- ---- lists of tags

abbrev pub tally : (ℕ → Bool) → List ℕ → ℕ
tally q [] = 0
tally q (x ∷ xs) = one_if (q x) + tally q xs

without : ℕ → List ℕ → List ℕ
without tag [] = []
without tag (x ∷ xs) = cond (x == tag) xs (x ∷ without tag xs)

tally-without : (q : ℕ → Bool) (tag : ℕ) (xs : List ℕ) → 1 ≤ tally (λ x. x == tag) xs
    → tally q (without tag xs) + one_if (q tag) ≡ tally q xs
unfolding without
tally-without q tag [] some = absurd (omega arith)
tally-without q tag (x ∷ xs) some = go _ refl some (λ h. tally-without q tag xs h)
  where
    go : (t : Bool) → (x == tag) ≡ t → 1 ≤ one_if t + tally (λ y. y == tag) xs
        → (1 ≤ tally (λ y. y == tag) xs → tally q (without tag xs) + one_if (q tag) ≡ tally q xs)
        → tally q (cond t xs (x ∷ without tag xs)) + one_if (q tag) ≡ one_if (q x) + tally q xs
    go true e some rest = grind arith
    go false e some rest = grind arith

-- these are the tags that are owed, each once
pub record AreOpen (f : Flat) (tags : List ℕ) : Type 0 where
  pub once : (tag : ℕ) → tally (λ x. x == tag) tags ≡ one_if (is_some (f.due tag))

-- the tags that are owed after some steps, with as many more as loads were accepted, less those of
-- which a value was taken
pub record Balance (tags : List ℕ) (loads values : (ℕ → Bool) → ℕ) (g : Flat) : Type 0 where
  pub left : List ℕ
  pub are_open : AreOpen g left
  pub balance : (q : ℕ → Bool) → tally q tags + loads q ≡ tally q left + values q

-- ---- one step

step_balance : (f : Flat) (event : Event) (answer : Answer) (tags : List ℕ) → AreOpen f tags → may_answer f event answer ≡ true
    → Balance tags (λ q. load_by q event answer) (λ q. value_by q event answer) (flat_after f event answer)
step_balance f (Load t at) Accepted tags h may =
    record {
      left = t ∷ tags;
      are_open = grind arith;
      balance = λ q. omega arith;
    }
step_balance f (Store at word lanes) Accepted tags h may = record { left = tags; are_open = grind arith; balance = λ q. refl }
step_balance f (Take place) (Value t w) tags h may =
    let some : 1 ≤ tally (λ x. x == t) tags = grind arith in
    record {
      left = without t tags;
      are_open = record {
        once = λ k. grind (
          arith,
          h.once k,
          step_due k f (Take place) (Value t w) may,
          tally-without (λ x. x == k) t tags some,
        );
      };
      balance = λ q. grind (arith, tally-without q t tags some);
    }
step_balance f event answer tags h may = grind arith

-- ---- a run

pub run_balance : (entries : List Entry) (f g : Flat) (tags : List ℕ) → AreOpen f tags
    → flat_run f (events_of entries) (answers_of entries) ≡ Some g
    → Balance tags (λ q. counted (load_by q) entries) (λ q. counted (value_by q) entries) g
run_balance [] f g tags h run = grind arith
run_balance (Ended port ∷ rest) f g tags h run = run_balance rest f g tags h run
run_balance (Step source event answer ∷ rest) f g tags h run =
    let first = first_of_run f g event answer rest run in
    let one = step_balance f event answer tags h first.may in
    let more = run_balance rest _ g one.left one.are_open first.runs in
    record {
      left = more.left;
      are_open = more.are_open;
      balance = grind arith;
    }

-- ---- nothing open

pub none_open : (f : Flat) → ((tag : ℕ) → f.due tag ≡ None) → AreOpen f []
none_open f none = grind arith

-- where no tag of a list passes any of these tests, and each passes one, there is none
pub none_left : (f : Flat) (tags : List ℕ) → AreOpen f tags → ((p : ℕ) → tally (λ t. t / 256 == p) tags ≡ 0) → (tag : ℕ) → f.due tag ≡ None
none_left f [] h none tag = grind arith
none_left f (x ∷ xs) h none tag =
    absurd (omega (arith, none, ap one_if (eq-eqb (x / 256) _ refl)))
