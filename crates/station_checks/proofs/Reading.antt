-- What is read of one more entry of a journal.
use Rattle.std.proofs.Common.{◌≡◌, ℕ, zero, suc, ◌+◌, ◌<◌, List, [], ◌∷◌, ◌++◌, length, take, get_or, slice_get, Option, Some, None, refl}
use Rattle.std.proofs.Common.{ap, arith}
use Rattle.std.proofs.lemmas.List.{take_more}
use Rattle.std.proofs.lemmas.Option.{get_or_from_slice_get, slice_get_within}
use Rattle.flat_model.specs.declared.Event.{Event}
use Rattle.flat_model.specs.declared.Answer.{Answer}
use Rattle.station_journal.specs.declared.asks.Told.{Told}
use Rattle.station_journal.specs.declared.journal.Entry.{Entry}
use Rattle.station_journal.specs.declared.journal.Entry.TheVariants.{Step, Ended}
use Rattle.station_journal.specs.Journal.{events_of, answers_of}
use Rattle.station_journal.specs.Parts.{told_of}
use Rattle.station_journal.proofs.Parting.{told_of-append}
use Rattle.station_checks.specs.Checks.{told_list}

events_of-append : (xs ys : List Entry) → events_of (xs ++ ys) ≡ events_of xs ++ events_of ys
events_of-append [] ys = refl
events_of-append (Ended port ∷ xs) ys = events_of-append xs ys
events_of-append (Step source event answer ∷ xs) ys = ap (λ l. event ∷ l) (events_of-append xs ys)

answers_of-append : (xs ys : List Entry) → answers_of (xs ++ ys) ≡ answers_of xs ++ answers_of ys
answers_of-append [] ys = refl
answers_of-append (Ended port ∷ xs) ys = answers_of-append xs ys
answers_of-append (Step source event answer ∷ xs) ys = ap (λ l. answer ∷ l) (answers_of-append xs ys)

-- the entry that follows the first ones
module _ (xs : List Entry) (i : ℕ) (d entry : Entry) (within : i < length xs) (is : get_or xs i d ≡ entry) where
  pub events_more : (old new : List Event) → old ≡ events_of (take i xs) → new ≡ old ++ events_of (entry ∷ [])
      → new ≡ events_of (take (i + 1) xs)
  events_more old new before adds = grind (arith, take_more xs i d, events_of-append)

  pub answers_more : (old new : List Answer) → old ≡ answers_of (take i xs) → new ≡ old ++ answers_of (entry ∷ [])
      → new ≡ answers_of (take (i + 1) xs)
  answers_more old new before adds = grind (arith, take_more xs i d, answers_of-append)

-- the telling of that entry, if it is one
pub told_more : (port : ℕ) (xs : List Entry) (i : ℕ) (d : Entry) (telling : Option Told) (old new : List Told) → i < length xs
    → told_list telling ≡ told_of port (get_or xs i d ∷ []) → old ≡ told_of port (take i xs) → new ≡ old ++ told_list telling
    → new ≡ told_of port (take (i + 1) xs)
told_more port xs i d telling old new within tells before adds = grind (arith, take_more xs i d, told_of-append)

-- ---- entries that are read one by one

pub read_more : (xs : List Entry) (i : ℕ) (e : Entry) (old new : List Entry) → slice_get xs i ≡ Some e → old ≡ take i xs
    → new ≡ old ++ e ∷ []
    → new ≡ take (i + 1) xs
read_more xs i e old new is before adds =
    grind (arith, get_or_from_slice_get xs i e e, take_more xs i e, slice_get_within xs i e)

pub read_none : {X : Type 0} (xs : List Entry) (i : ℕ) → slice_get xs i ≡ None → i < length xs → X
read_none [] i none within = absurd (omega arith)
read_none (x ∷ xs) zero none within = cc
read_none (x ∷ xs) (suc i) none within = read_none xs i none (omega arith)
