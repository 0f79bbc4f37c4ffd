-- What a search finds, and why a byte may not be returned.
use Rattle.std.proofs.lemmas.Bool.{cases_Bool}
use Rattle.std.proofs.Common.{◌≡◌, ℕ, suc, ◌+◌, ◌-◌, ◌↔◌, Bool, true, false, if◌then◌else◌, List, [], ◌∷◌, drop, Option, Some, None}
use Rattle.std.proofs.Common.{slice_get, inl, inr, refl, ◌∙◌, ap, arith, length-drop}
use Rattle.std.specs.Prelude.{reverse, IfSome, MatchOption}
use Rattle.std.specs.Bool.{Decides}
use Rattle.std.specs.List.{All, Any, find}
use Rattle.std.specs.Option.{option_map, option_or}
use Rattle.std.proofs.lemmas.Bool.Decides.{not_from_Decides}
use Rattle.std.proofs.lemmas.Grind.{get_or_tail}
use Rattle.std.proofs.lemmas.List.{get_or-drop, reverse-append}
use Rattle.std.proofs.lemmas.List.Elements.{All-nil, All-cons, All-contains}
use Rattle.std.proofs.lemmas.List.Folds.{find-append}
use Rattle.memory_histories.specs.declared.events.Rest.{Rest}
use Rattle.memory_histories.specs.declared.windows.StoreByte.{StoreByte}
use Rattle.memory_histories.specs.declared.windows.LoadByte.{LoadByte}
use Rattle.memory_histories.specs.Regular.{MayReturn, overwrites, is_initial, may_return_byte}
use Rattle.memory_histories.proofs.Law.{may_return_decides, initial}
use Rattle.history_reasons.specs.declared.Reason.{Reason}
use Rattle.history_reasons.specs.declared.Reason.TheVariants.{StoreOverwritten}
use Rattle.history_reasons.specs.Reasons.{Stores, Overwrote, Covered, IsLast, HasReason, stores_byte, covers, last_that, reason_by}
use Rattle.history_reasons.specs.Reasons.{last_reason}

-- Searches. ----

-- a search goes on behind a store
pub last_more : (p : StoreByte → Bool) (x : StoreByte) (xs : List StoreByte)
    → last_that p (x ∷ xs) ≡ option_or (last_that p xs) (if p x then Some x else None)
last_more p x xs = ap (find p) (reverse-append (x ∷ []) xs) ∙ find-append p (reverse xs) (x ∷ [])

-- what it tells: which is the last that is so, or that none is
abbrev pub Tells : (StoreByte → Type 0) → List StoreByte → Option StoreByte → Type 0
Tells P xs None = All (λ s. ¬ (P s)) xs
Tells P xs (Some x) = IsLast P xs x

module _ (p : StoreByte → Bool) (P : StoreByte → Type 0) (decides : (s : StoreByte) → Decides (p s) (P s)) where
  more : (y : StoreByte) (ys : List StoreByte) (o : Option StoreByte) (t : Bool) → p y ≡ t → Tells P ys o
      → Tells P (y ∷ ys) (option_or o (if t then Some y else None))
  more y ys (Some x) t e (k, l, at, is, behind) = (suc k, omega arith, at, is, grind (arith, get_or_tail, behind))
  more y ys None true e none = grind (arith, get_or_tail, decides y)
  more y ys None false e none = grind (arith, decides y, All-cons)

  pub tells : (xs : List StoreByte) → Tells P xs (last_that p xs)
  tells [] = All-nil (λ s. ¬ (P s))
  tells (y ∷ ys) = rw (last_more p y ys) (more y ys _ _ refl (tells ys))

none_is : (P : StoreByte → Type 0) (xs : List StoreByte) → Tells P xs None → ¬ (Any P xs)
none_is P xs none = λ a. All-contains (λ s. ¬ (P s)) xs a.1 none (a.0, a.2, a.3) a.4

-- the last of those behind the first ones is the last of all
pub last_behind : (P : StoreByte → Type 0) (n : ℕ) (xs : List StoreByte) (x : StoreByte) → IsLast P (drop n xs) x → IsLast P xs x
last_behind P n xs x (k, l, at, is, behind) =
    let long = length-drop n xs in
    (n + k, omega arith, rw (← get_or-drop) at, is, λ j d m o h. behind (j - n) d (omega arith) (omega arith) (grind (arith, get_or-drop)))

-- The tests decide what they say. ----

pub stores_law : (address b : ℕ) (s : StoreByte) → Decides (stores_byte address b s) (Stores address b s)
stores_law address b s = grind arith

pub overwrites_law : (s by : StoreByte) (moment : ℕ) → Decides (overwrites s moment by) (Overwrote by s moment)
overwrites_law s by moment = grind arith

pub covers_law : (l : LoadByte) (s : StoreByte) → Decides (covers l s) (Covered l s)
covers_law l s = grind arith

-- The law. ----

abbrev IsExact : List ℕ → Rest → List StoreByte → LoadByte → ℕ → Option Reason → Type 0
IsExact image rest stores l b o = ((o ≡ None) ↔ MayReturn image rest stores l b) × IfSome o (HasReason image rest stores l b)

module _ (image : List ℕ) (rest : Rest) (stores : List StoreByte) (l : LoadByte) (b : ℕ) where
  -- where the byte may not be returned, there is a reason
  abbrev IsTold : Option Reason → Type 0
  IsTold o = MatchOption o ⊥ (HasReason image rest stores l b)

  stored_case : ¬ (MayReturn image rest stores l b) → (s : StoreByte) → IsLast (Stores l.address b) stores s → (o : Option StoreByte)
      → Tells (λ x. Overwrote x s l.began) stores o → IsTold (option_map (λ x. StoreOverwritten s x) o)
  stored_case never s last None none = grind (arith, none_is (λ x. Overwrote x s l.began) stores none)
  stored_case never s last (Some by) over = (last, over)

  told : ¬ (MayReturn image rest stores l b) → (o : Option StoreByte) → Tells (Stores l.address b) stores o → (first : Bool)
      → is_initial (slice_get image l.address) rest b ≡ first → (c : Option StoreByte) → Tells (Covered l) stores c
      → IsTold (reason_by o (λ s. last_that (overwrites s l.began) stores) first c)
  told never (Some s) last first i c k =
      stored_case never s last _ (tells _ _ (λ x. overwrites_law s x l.began) stores)
  told never None none true i None k = grind (arith, initial, none_is (Covered l) stores k)
  told never None none first i c k = grind (arith, initial, none_is (Stores l.address b) stores none)

  exact : ¬ (MayReturn image rest stores l b) → (o : Option Reason) → IsTold o → IsExact image rest stores l b o
  exact never o k = grind arith

pub reason_law : (image : List ℕ) (rest : Rest) (stores : List StoreByte) (l : LoadByte) (b : ℕ)
    → IsExact image rest stores l b (last_reason image rest stores l b)
reason_law image rest stores l b = elim (cases_Bool (may_return_byte image rest stores l b)) [
  | inl e ↦ rw e (grind (arith, may_return_decides))
  | inr e ↦
      let never = not_from_Decides _ (may_return_decides image rest stores l b) e in
      rw e (exact image rest stores l b never _ (told image rest stores l b never _ (tells _ _ (stores_law l.address b) stores) _ refl _
      (tells _ _ (covers_law l) stores)))
]
