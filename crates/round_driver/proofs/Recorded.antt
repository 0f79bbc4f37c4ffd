-- The outcomes of requests, as they are recorded round by round.
use Rattle.std.proofs.Common.{◌≡◌, ℕ, ◌≤◌, ⊎_elim, List, [], ◌∷◌, ◌++◌, length, length-append}
use Rattle.std.proofs.Common.{take, append_assoc, append-nil, refl, lt-ltb, le-ltb, arith}
use Rattle.std.proofs.lemmas.Bool.{cases_lt}
use Rattle.std.proofs.lemmas.List.{take-append-le, take_all}
use Rattle.round_driver.specs.Recordings.{Recorded}
use Rattle.round_driver.specs.Outcomes.{outcomes_of, nothing_recorded, with_outcome, with_note, with_notes}
use Rattle.round_driver.specs.declared.note.Note.{Note}
use Rattle.round_driver.specs.declared.outcomes.Outcome.{Outcome}

abbrev recorded : ℕ → List Outcome → Recorded
recorded room os = record { ended = os; room = room }

-- what is recorded of these notes behind these outcomes
abbrev Records : ℕ → List Note → List Outcome → Type 0
Records room ns os = (with_notes (recorded room os) ns).ended ≡ take room (os ++ outcomes_of ns)

-- an outcome more is recorded, if there is room
one_more : (room : ℕ) (os : List Outcome) (o : Outcome) (ns : List Note) → length os ≤ room
    → ((xs : List Outcome) → length xs ≤ room → Records room ns xs)
    → (with_notes (with_outcome (recorded room os) o) ns).ended ≡ take room (os ++ (o ∷ outcomes_of ns))
one_more room os o ns le rest =
    ⊎_elim (λ l. grind (arith, lt-ltb, length-append, append_assoc, rest (os ++ o ∷ []))) (grind (arith, le-ltb, take-append-le))
    (cases_lt (length os) room)

note_more : (room : ℕ) (os : List Outcome) (n : Note) (ns : List Note) → length os ≤ room
    → ((xs : List Outcome) → length xs ≤ room → Records room ns xs) → Records room (n ∷ ns) os
unfolding with_note
note_more room os n ns le rest = grind (arith, one_more, rest os le)

all_noted : (room : ℕ) (ns : List Note) (os : List Outcome) → length os ≤ room → Records room ns os
all_noted room [] os le = grind (arith, append-nil, take_all)
all_noted room (n ∷ ns) os le = note_more room os n ns le (all_noted room ns)

-- as many outcomes as there is room for
pub all_recorded : (room : ℕ) (ns : List Note) → (with_notes (nothing_recorded room) ns).ended ≡ take room (outcomes_of ns)
all_recorded room ns = all_noted room ns [] (omega arith)

pub recorded_then : (r : Recorded) (xs ys : List Note) → with_notes r (xs ++ ys) ≡ with_notes (with_notes r xs) ys
recorded_then r [] ys = refl
recorded_then r (x ∷ xs) ys = recorded_then (with_note r x) xs ys
