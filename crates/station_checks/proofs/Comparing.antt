-- That tellings are compared as they are.
use Rattle.std.proofs.Common.{rules, ◌≡◌, ℕ, ◌<◌, ◌==◌, Bool, true, false, ◌&&◌, not, List, length, get_or, refl, ap, subst, arith}
use Rattle.std.specs.Bool.{Decides}
use Rattle.std.specs.Global.{Vec}
use Rattle.std.specs.Cmp.Lexicographic.{pointwise}
use Rattle.std.proofs.lemmas.Bool.Decides.{nat_tests}
use Rattle.std.proofs.lemmas.List.{get_or-map}
use Rattle.std.proofs.lemmas.Slice.Eq.{slice_eq-Decides}
use denote.Enum.Bare.{same_true, true_same}
use Rattle.flat_model.specs.declared.Word.{Word}
use Rattle.flat_model.specs.contracts.Cause.{the_type}
use Rattle.station_journal.specs.declared.asks.Told.{Told}
use Rattle.station_journal.specs.declared.asks.Told.TheVariants.{Accepted, Refused, Value}
use Rattle.station_journal.specs.contracts.asks.ToldPartialEq.TheImpl as eq
use Rattle.station_parts.specs.Runs.{list_in}

same_word : (v w : Word) → ((v.b0 == w.b0) && ((v.b1 == w.b1) && ((v.b2 == w.b2) && (v.b3 == w.b3)))) ≡ true → v ≡ w
same_word v w h = grind (arith, nat_tests)

-- a telling is itself
is_itself : (a : Told) → eq.eq-value.it a a ≡ true
is_itself Accepted = refl
is_itself (Refused c) = true_same the_type c c refl
is_itself (Value t w) = grind (arith, nat_tests)

is_same : (a b : Told) → eq.eq-value.it a b ≡ true → a ≡ b
is_same (Refused c) (Refused d) h = ap Refused (same_true the_type (search rules) c d h)
is_same (Value t w) (Value t' w') h = grind (arith, nat_tests, same_word)
is_same a b h = grind arith

told_decides : (a b : Told) → Decides (eq.eq-value.it a b) (a ≡ b)
told_decides a b = (is_same a b, λ h. subst (λ x. eq.eq-value.it a x ≡ true) h (is_itself a))

-- `!=` on two lists of tellings says whether they aren't one list
pub differ : (xs ys : List Told) (different : Bool) → different ≡ not (pointwise eq.eq-value.it xs ys)
    → (different ≡ false → xs ≡ ys) × (different ≡ true → xs ≡ ys → ⊥)
differ xs ys different is =
    let same = slice_eq-Decides told_decides xs ys (not different) (grind arith) in
    (λ h. same.0 (ap not h), λ h e. let k = same.1 e in grind arith)

-- the list of a port, by the place at which it is read
pub list_at : (lists : List (Vec Told)) (p : ℕ) (list : Vec Told) → p < length lists → list ≡ get_or lists p list
    → list_in lists p ≡ list.items
list_at lists p list within is = grind (arith, get_or-map)
