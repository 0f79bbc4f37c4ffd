-- Where a load may get a byte from.
use Rattle.std.proofs.Common.{◌≡◌, ℕ, zero, suc, ◌<◌, ◌↔◌, ◌&&◌, not, Bool, true, List, [], ◌∷◌, map, length, slice_get, inl, inr, refl}
use Rattle.std.proofs.Common.{arith}
use Rattle.std.specs.Bool.{Decides}
use Rattle.std.specs.List.{All, Any, Contains, filter, list_any}
use Rattle.std.proofs.lemmas.Bool.{cases_Bool}
use Rattle.std.proofs.lemmas.List.Folds.{Any-from_list_any, list_any-from_Any}
use Rattle.std.proofs.lemmas.List.Elements.{Contains-append_right, Contains-get_or, All-contains, All-append, All-map, All-filter}
use Rattle.std.proofs.lemmas.List.Elements.{All-contains_itself, filter_passes}
use Rattle.memory_histories.specs.declared.events.Rest.{Rest}
use Rattle.memory_histories.specs.declared.windows.StoreByte.{StoreByte}
use Rattle.memory_histories.specs.declared.windows.LoadByte.{LoadByte}
use Rattle.memory_histories.specs.Regular.{IsInitial, IsCovered, MayReturn, is_initial, is_covered}
use Rattle.history_reasons.specs.declared.givers.Source.{Source}
use Rattle.history_reasons.specs.declared.givers.Source.TheVariants.{Initial, Store}
use Rattle.history_reasons.specs.Sources.{Gives, IsSource, gives, givers, initial_source, sources}
use Rattle.memory_histories.proofs.Law.{initial}
use Rattle.history_reasons.proofs.Reasons.{overwrites_law, covers_law}

-- Lists. ----

any_decides : (p : StoreByte → Bool) (P : StoreByte → Type 0) → ((x : StoreByte) → Decides (p x) (P x)) → (xs : List StoreByte)
    → Decides (list_any p xs) (Any P xs)
any_decides p P each xs = (
  λ h. let a = Any-from_list_any p xs h in (a.0, a.1, a.2, a.3, (each a.1).0 a.4),
  λ a. list_any-from_Any p xs (a.0, a.1, a.2, a.3, (each a.1).1 a.4),
)

-- what passes is among those that do
passes : (p : StoreByte → Bool) (xs : List StoreByte) (s : StoreByte) → Contains xs s → p s ≡ true
    → Contains (map Store (filter p xs)) (Store s)
passes p [] s (k, l, e) t = absurd (omega arith)
passes p (y ∷ ys) s (zero, l, e) t = rw (e, t) (0, omega arith, refl)
passes p (y ∷ ys) s (suc k, l, e) t =
    let r = passes p ys s (k, omega arith, e) t in
    elim (cases_Bool (p y)) [ inl h ↦ rw h (suc r.0, (let m = r.1 in omega arith), r.2) | inr h ↦ rw h r ]

-- The law. ----

module _ (image : List ℕ) (rest : Rest) (stores : List StoreByte) (l : LoadByte) (b : ℕ) where
  abbrev is_first : Bool
  is_first = is_initial (slice_get image l.address) rest b && not (is_covered stores l)

  gives_law : (s : StoreByte) → Decides (gives stores l b s) (Gives stores l b s)
  gives_law s = grind (arith, any_decides _ _ (λ o. overwrites_law s o l.began) stores)

  first_law : Decides is_first (IsInitial (slice_get image l.address) rest b × ¬ (IsCovered stores l))
  first_law = grind (arith, initial, any_decides _ _ (covers_law l) stores)

  initial_one : All (IsSource image rest stores l b) (initial_source is_first)
  initial_one = grind (arith, first_law, cases_Bool)

  all_sources : All (IsSource image rest stores l b) (sources image rest stores l b)
  all_sources =
      All-append (IsSource image rest stores l b) _ (map Store (givers stores l b)) initial_one
      (All-map (IsSource image rest stores l b) Store (givers stores l b) (λ k d m. (
        All-filter (gives stores l b) (Contains stores) stores (All-contains_itself stores) k d m,
        grind (arith, filter_passes, gives_law),
      )))

  is_there : (x : Source) → IsSource image rest stores l b x → Contains (sources image rest stores l b) x
  is_there Initial h = rw (first_law.1 h) (0, omega arith, refl)
  is_there (Store s) h =
      Contains-append_right _ (map Store _) _ (passes _ stores s h.0 ((gives_law s).1 h.1))

  pub each_source : (x : Source) → Contains (sources image rest stores l b) x ↔ IsSource image rest stores l b x
  each_source x = (All-contains (IsSource image rest stores l b) (sources image rest stores l b) x all_sources, is_there x)

  may : (x : Source) → IsSource image rest stores l b x → MayReturn image rest stores l b
  may x h = grind arith

  from_one : MayReturn image rest stores l b → (x : Source) × Contains (sources image rest stores l b) x
  from_one (inl a) = (Store a.1, is_there (Store a.1) ((a.0, a.2, a.3), a.4))
  from_one (inr f) = (Initial, is_there Initial f)

  pub some_source : (0 < length (sources image rest stores l b)) ↔ MayReturn image rest stores l b
  some_source = (
    λ h. may _ ((each_source _).0 (Contains-get_or _ 0 Initial h)),
    λ m. let some = (from_one m).1.1 in omega arith,
  )
