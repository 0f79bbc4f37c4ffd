-- The functions of the regular law decide its relations.
use Rattle.std.proofs.Common.{ℕ, Bool, List, Option, slice_get, arith}
use Rattle.std.specs.Bool.{Decides}
use Rattle.std.specs.List.{Any, list_any}
use Rattle.std.proofs.lemmas.Bool.Decides.{Decides-eqb, Decides-and, Decides-or, Decides-not}
use Rattle.std.proofs.lemmas.List.Folds.{Any-from_list_any, list_any-from_Any}
use Rattle.memory_histories.specs.declared.events.Rest.{Rest}
use Rattle.memory_histories.specs.declared.windows.StoreByte.{StoreByte}
use Rattle.memory_histories.specs.declared.windows.LoadByte.{LoadByte}
use Rattle.memory_histories.specs.Regular.{IsBefore, IsInitial, MayReturn, is_before, is_initial, may_return_byte}

Any-decides : {X : Type 0} (p : X → Bool) (P : X → Type 0) → ((x : X) → Decides (p x) (P x)) → (xs : List X)
    → Decides (list_any p xs) (Any P xs)
Any-decides p P each xs = (
  λ h. let a = Any-from_list_any p xs h in (a.0, a.1, a.2, a.3, (each a.1).0 a.4),
  λ a. list_any-from_Any p xs (a.0, a.1, a.2, a.3, (each a.1).1 a.4),
)

before : (o : Option ℕ) (t : ℕ) → Decides (is_before o t) (IsBefore o t)
before o t = grind arith

pub initial : (o : Option ℕ) (r : Rest) (b : ℕ) → Decides (is_initial o r b) (IsInitial o r b)
initial o r b = grind arith

pub may_return_decides : (image : List ℕ) (rest : Rest) (stores : List StoreByte) (l : LoadByte) (b : ℕ)
    → Decides (may_return_byte image rest stores l b) (MayReturn image rest stores l b)
may_return_decides image rest stores l b =
    Decides-or _ _ (Any-decides _ _ (λ s. Decides-and _ _ (Decides-eqb _ _) (Decides-and _ _ (Decides-eqb _ _)
    (Decides-not _ (Any-decides _ _ (λ o. Decides-and _ _ (Decides-eqb _ _) (Decides-and _ _ (before s.ended o.began)
    (before o.ended l.began))) stores)))) stores)
    (Decides-and _ _ (initial (slice_get image l.address) rest b)
    (Decides-not _ (Any-decides _ _ (λ s. Decides-and _ _ (Decides-eqb _ _) (before s.ended l.began)) stores)))
