-- Units that change when a store is answered.
use Rattle.std.proofs.Common.{◌≡◌, ℕ, true, false, ◌==◌, not, List, [], ◌∷◌, ◌++◌, refl, sym, subst, ap}
use Rattle.std.proofs.Common.{◌∙◌, inl, inr, append-nil, arith, suc}
use Rattle.std.specs.List.{All, filter, list_any}
use Rattle.std.proofs.lemmas.Bool.{cases_Bool, eqb-true}
use Rattle.std.proofs.lemmas.List.Folds.{list_any-append, list_any_none}
use Rattle.memory_histories.specs.declared.windows.StoreByte.{StoreByte}
use Rattle.memory_histories.specs.declared.answered.UnitChange.{UnitChange}
use Rattle.memory_histories.specs.declared.parts.StorePart.{StorePart}
use Rattle.memory_histories.specs.Kept.{is_in, is_dropped, answered_after}
use Rattle.memory_histories.specs.Parts.{part_bytes, parts_bytes, is_part_in}
use Rattle.memory_histories.specs.Shown.{is_of_unit, put_units, IsAfter, HasUnit}
use Rattle.memory_histories.proofs.Lists.{filter-all, none_pass}
use Rattle.memory_histories.proofs.Pieces.{filter_in}

-- the last of the changes goes first into the map
pub put_last : (f g : ℕ → List StoreByte) (cs : List UnitChange) (c : UnitChange) (unit : ℕ) → ((u : ℕ) → g u ≡ put_units f (c ∷ []) u)
    → put_units g cs unit ≡ put_units f (cs ++ c ∷ []) unit
put_last f g [] c unit e = e unit
put_last f g (x ∷ xs) c unit e = cc (put_last f g xs c unit e)

-- a unit in which none of the bytes lies stays as it is
untouched : (t : ℕ) (ending answered : List StoreByte) (unit : ℕ) → filter (is_in unit) ending ≡ []
    → answered_after t ending unit answered ≡ answered
untouched t ending answered unit e =
    let a = none_pass (is_in unit) ending e in
    grind (arith, filter-all true (λ s. not (is_dropped unit ending s)) answered, list_any_none, append-nil)

put_from : (t : ℕ) (ending : List StoreByte) (f : ℕ → List StoreByte) (unit : ℕ) (cs : List UnitChange) → All (IsAfter t ending f) cs
    → (list_any (is_of_unit unit) cs ≡ false → answered_after t ending unit (f unit) ≡ f unit)
    → put_units f cs unit ≡ answered_after t ending unit (f unit)
put_from t ending f unit [] a h = sym (h refl)
put_from t ending f unit (c ∷ cs) a h = grind (arith, a 0 c, put_from t ending f unit cs (λ k d l. a (suc k) d (omega arith)))

pub put_all : (t : ℕ) (ending : List StorePart) (f : ℕ → List StoreByte) (cs : List UnitChange) → All (IsAfter t (parts_bytes ending) f) cs
    → All (HasUnit cs) ending → (unit : ℕ)
    → put_units f cs unit ≡ answered_after t (parts_bytes ending) unit (f unit)
put_all t ending f cs a whole unit = put_from t _ f unit cs a (λ none. untouched t _ _ unit (filter_in unit ending ∙ ap parts_bytes
    (filter-all false (is_part_in unit) ending (λ k d l. let h = whole k d l in grind arith))))

-- a store of one part changes its unit alone
pub one_part : (t : ℕ) (p : StorePart) (f g : ℕ → List StoreByte) → g p.unit ≡ answered_after t (part_bytes p) p.unit (f p.unit)
    → ((u : ℕ) → (p.unit == u) ≡ false → g u ≡ f u) → (unit : ℕ) → g unit ≡ answered_after t (part_bytes p) unit (f unit)
one_part t p f g here others unit = elim (cases_Bool (p.unit == unit)) [
  | inl e ↦ subst (λ u. g u ≡ answered_after t (part_bytes p) u (f u)) (eqb-true p.unit unit e) here
  | inr e ↦ others unit e ∙ sym (untouched t _ _ unit (rw (append-nil, e) at (filter_in unit (p ∷ []))))
]

-- Whether the units of the bytes so far are among the changes. ----

pub still_whole : (cs : List UnitChange) (c : UnitChange) (bytes : List StorePart) → All (HasUnit cs) bytes
    → All (HasUnit (cs ++ c ∷ [])) bytes
still_whole cs c bytes a k d l = grind (arith, list_any-append, a k d)

pub has_last : (cs : List UnitChange) (c : UnitChange) (s : StorePart) → c.unit ≡ s.unit → HasUnit (cs ++ c ∷ []) s
has_last cs c s e = grind (arith, list_any-append)
