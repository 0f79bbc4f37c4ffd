-- The parts of two journals, one behind the other.
use Rattle.std.proofs.Common.{◌≡◌, ℕ, List, [], ◌∷◌, ◌++◌, refl, append_assoc}
use Rattle.station_journal.specs.declared.journal.Entry.{Entry}
use Rattle.station_journal.specs.declared.journal.Entry.TheVariants.{Step, Ended}
use Rattle.station_journal.specs.Parts.{asks_of, told_of}

pub asks_of-append : (p : ℕ) (xs ys : List Entry) → asks_of p (xs ++ ys) ≡ asks_of p xs ++ asks_of p ys
asks_of-append p [] ys = refl
asks_of-append p (Ended port ∷ xs) ys =
    cc (asks_of-append p xs ys, append_assoc _ (asks_of p xs) (asks_of p ys))
asks_of-append p (Step source event answer ∷ xs) ys =
    cc (asks_of-append p xs ys, append_assoc _ _ _)

pub told_of-append : (p : ℕ) (xs ys : List Entry) → told_of p (xs ++ ys) ≡ told_of p xs ++ told_of p ys
told_of-append p [] ys = refl
told_of-append p (Ended port ∷ xs) ys = told_of-append p xs ys
told_of-append p (Step source event answer ∷ xs) ys =
    cc (told_of-append p xs ys, append_assoc _ _ _)
