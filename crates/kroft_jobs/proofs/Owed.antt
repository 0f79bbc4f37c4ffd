-- The tags below a number that are owed a value, and those below the next.
use Rattle.std.proofs.Common.{◌≡◌, ℕ, ◌+◌, Bool, cond, [], ◌∷◌, ◌++◌, refl, ap, ◌∙◌}
use Rattle.std.specs.Prelude.{is_some}
use Rattle.std.specs.List.{filter, range_with_len}
use Rattle.std.proofs.lemmas.List.Elements.{filter-append}
use Rattle.flat_model.specs.Flat.{Flat}
use Rattle.flat_model.proofs.Numbers.{range_next}
use Rattle.kroft_jobs.specs.Answering.{owed_below}

-- below 0 there are none
pub owed_first : (f : Flat) → owed_below f 0 ≡ []
unfolding owed_below
owed_first f = refl

-- the next number, by whether it is owed a value
pub owed_more : (f : Flat) (n : ℕ) (b : Bool) → is_some (f.due n) ≡ b
    → owed_below f (n + 1) ≡ owed_below f n ++ cond b (n ∷ []) []
unfolding owed_below
owed_more f n b e =
    let owed = λ (tag : ℕ). is_some (f.due tag) in
    ap (filter owed) (range_next n) ∙ filter-append owed (range_with_len 0 n) (n ∷ [])
    ∙ ap (λ v. filter owed (range_with_len 0 n) ++ cond v (n ∷ []) []) e
