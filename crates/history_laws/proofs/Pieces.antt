-- The bytes of the open loads, beside the loads that they are of.
use Rattle.std.proofs.Common.{◌≡◌, ℕ, zero, suc, ◌+◌, ◌<◌, ◌≤◌, Bool, true, false, ◌||◌, not, ◌==◌, List, [], ◌∷◌, ◌++◌, map, length, Some}
use Rattle.std.proofs.Common.{None, slice_get, inl, inr, append_assoc, append-nil, eqb-true, refl, sym, ap, ◌∙◌, subst, arith}
use Rattle.std.specs.List.{filter, find, list_any, range_with_len, zip, position, prefix_len}
use Rattle.std.proofs.lemmas.Bool.{cases_Bool, le-ltb, both_ways, eq-eqb}
use Rattle.std.proofs.Math.Bool.{or_assoc, or-false}
use Rattle.std.proofs.lemmas.List.Elements.{filter-append}
use Rattle.std.proofs.lemmas.List.Folds.{list_any-append}
use Rattle.atomic_histories.proofs.Links.{eq_false_sym}
use Rattle.atomic_histories.specs.declared.unit.Operation.{Operation}
use Rattle.atomic_histories.specs.Stands.{Each, One}
use Rattle.atomic_histories.proofs.Lists.{each_weaker, one_any, one_weaker}
use Rattle.history_laws.proofs.Lists.{any_none, filter_all, filter_none}

-- an open load, and what is kept of its request
pub record Marked (X : Type 0) : Type 0 where
  pub operation : Operation
  pub mark : X

abbrev pub operation_of : {X : Type 0} → Marked X → Operation
operation_of k = k.operation

abbrev pub is_number : {X : Type 0} → ℕ → Marked X → Bool
is_number n k = k.operation.number == n

-- no two loads have a number
abbrev pub AreDifferent : {X : Type 0} → List (Marked X) → Type 0
AreDifferent [] = Unit {0}
AreDifferent (k ∷ ks) = (list_any (is_number k.operation.number) ks ≡ false) × AreDifferent ks

abbrev pub IsSome : {X : Type 0} → Marked X → Type 0
IsSome k = 1 ≤ k.operation.length

module _ {X L : Type 0} (make : Operation → ℕ → X → L) (number : L → ℕ) (named : (o : Operation) (a : ℕ) (x : X)
    → number (make o a x) ≡ o.number) where
  abbrev pub piece : Operation → X → ℕ → ℕ → List L
  piece o x a len = map (λ b. make o b x) (range_with_len a len)

  abbrev pub bytes_of : Marked X → List L
  bytes_of k = piece k.operation k.mark k.operation.address k.operation.length

  abbrev pub all_bytes : List (Marked X) → List L
  all_bytes [] = []
  all_bytes (k ∷ ks) = bytes_of k ++ all_bytes ks

  each_named : (o : Operation) (x : X) (len a : ℕ) → Each (λ l. number l ≡ o.number) (piece o x a len)
  each_named o x zero a = tt
  each_named o x (suc len) a = (named o a x, each_named o x len _)

  abbrev is_it : ℕ → L → Bool
  is_it n l = number l == n

  each_is : (k : Marked X) (n : ℕ) (b : Bool) → is_number n k ≡ b → Each (λ l. is_it n l ≡ b) (bytes_of k)
  each_is k n b h = grind (arith, each_weaker, k.operation, k.operation.number, each_named, k.mark, k.operation.length)

  any_first : (o : Operation) (x : X) (a len n : ℕ) → 1 ≤ len → (o.number == n) ≡ true → list_any (is_it n) (piece o x a len) ≡ true
  any_first o x a zero n s e = absurd (omega arith)
  any_first o x a (suc len) n s e = grind (arith, named o a x)

  any_piece : (k : Marked X) (n : ℕ) → IsSome k → list_any (is_it n) (bytes_of k) ≡ is_number n k
  any_piece k n s = elim (cases_Bool _) [
    | inl e ↦ any_first k.operation k.mark k.operation.address k.operation.length n s e ∙ sym e
    | inr e ↦ any_none _ _ (each_is k n false e) ∙ sym e
  ]

  -- whether a load is open under a number
  pub any_bytes : (ks : List (Marked X)) (n : ℕ) → Each IsSome ks → list_any (is_it n) (all_bytes ks) ≡ list_any (is_number n) ks
  any_bytes [] n s = refl
  any_bytes (k ∷ ks) n s = list_any-append _ (bytes_of k) (all_bytes ks) ∙ rw (any_piece k n s.0, any_bytes ks n s.1) refl

  none_of : (ks : List (Marked X)) (n : ℕ) → list_any (is_number n) ks ≡ false → filter (is_it n) (all_bytes ks) ≡ []
  none_of [] n h = refl
  none_of (k ∷ ks) n h = elim (cases_Bool (is_number n k)) [
    | inl e ↦ absurd (both_ways (is_number n k || list_any (is_number n) ks) h (rw e refl))
    | inr e ↦ let r = (rw e at h) in
        filter-append (is_it n) (bytes_of k) (all_bytes ks) ∙ rw (
          filter_none (is_it n) (bytes_of k) (each_is k n false e),
          none_of ks n r,
        ) refl
  ]

  -- the bytes of the load that is open under a number
  pub bytes_under : (ks : List (Marked X)) (n : ℕ) (k : Marked X) → AreDifferent ks → find (is_number n) ks ≡ Some k
      → filter (is_it n) (all_bytes ks) ≡ bytes_of k
  bytes_under [] n k d h = cc
  bytes_under (j ∷ ks) n k d h = elim (cases_Bool _) [
    | inl e ↦
        let s : Some j ≡ Some k = (rw e at h) in
        let same : j ≡ k = cc in
        let m = eqb-true j.operation.number n e in
        let parts : filter (is_it n) (all_bytes (j ∷ ks)) ≡ bytes_of j =
        filter-append (is_it n) (bytes_of j) (all_bytes ks)
        ∙ rw (
          filter_all (is_it n) (bytes_of j) (each_is j n true e),
          none_of ks n (rw m at d.0),
        ) (append-nil (bytes_of j)) in
        parts ∙ ap bytes_of same
    | inr e ↦
        filter-append (is_it n) (bytes_of j) (all_bytes ks)
        ∙ rw (filter_none (is_it n) (bytes_of j) (each_is j n false e)) (bytes_under ks n k d.1 (rw e at h))
  ]

  -- the others
  pub bytes_without : (ks : List (Marked X)) (n : ℕ) → filter (λ l. not (is_it n l)) (all_bytes ks) ≡ all_bytes (filter (λ k.
      not (is_number n k)) ks)
  bytes_without [] n = refl
  bytes_without (k ∷ ks) n = elim (cases_Bool _) [
    | inl e ↦
        filter-append (λ l. not (is_it n l)) (bytes_of k) (all_bytes ks)
        ∙ rw (
          e,
          filter_none (λ l. not (is_it n l)) (bytes_of k) (each_weaker (λ l. is_it n l ≡ true) (λ l. not (is_it n l) ≡ false) (λ l h.
              ap not h) (bytes_of k) (each_is k n true e)),
        ) (bytes_without ks n)
    | inr e ↦
        filter-append (λ l. not (is_it n l)) (bytes_of k) (all_bytes ks)
        ∙ rw (
          e,
          filter_all (λ l. not (is_it n l)) (bytes_of k) (each_weaker (λ l. is_it n l ≡ false) (λ l. not (is_it n l) ≡ true) (λ l h.
              ap not h) (bytes_of k) (each_is k n false e)),
          bytes_without ks n,
        ) refl
  ]

  pub bytes_more : (ks : List (Marked X)) (k : Marked X) → all_bytes (ks ++ k ∷ []) ≡ all_bytes ks ++ bytes_of k
  bytes_more [] k = append-nil _
  bytes_more (j ∷ ks) k = cc (bytes_more ks k, append_assoc (bytes_of j) (all_bytes ks) (bytes_of k))

  -- an answer that passes at each byte has no wrong place
  pub each_paid : (may : L → ℕ → Bool) (o : Operation) (x : X) (len a : ℕ) (bs : List ℕ) → ((i b : ℕ) → slice_get bs i ≡ Some b → i < len
      → may (make o (a + i) x) b ≡ true)
      → Each (λ p. may p.0 p.1 ≡ true) (zip (piece o x a len) bs)
  each_paid may o x zero a bs h = tt
  each_paid may o x (suc len) a [] h = tt
  each_paid may o x (suc len) a (b ∷ bs) h = (
    subst (λ y. may (make o y x) b ≡ true) (omega arith) (h 0 b refl (omega arith)),
    each_paid may o x len _ bs (λ i c e l. subst (λ y. may (make o y x) c ≡ true) (omega arith) (h (suc i) c e (omega arith))),
  )

-- Different numbers. ----

any_snoc : {X : Type 0} (n : ℕ) (ks : List (Marked X)) (k : Marked X) → list_any (is_number n) (ks
    ++ k ∷ []) ≡ (list_any (is_number n) ks || is_number n k)
any_snoc n [] k = or-false _
any_snoc n (j ∷ ks) k = cc (any_snoc n ks k, or_assoc (is_number n j) (list_any (is_number n) ks) (is_number n k))

pub different_more : {X : Type 0} (ks : List (Marked X)) (k : Marked X) → AreDifferent ks
    → list_any (is_number k.operation.number) ks ≡ false → AreDifferent (ks ++ k ∷ [])
different_more [] k d h = (refl, tt)
different_more (j ∷ ks) k d h = elim (cases_Bool (is_number k.operation.number j)) [
  | inl e ↦ absurd (both_ways (is_number k.operation.number j || list_any (is_number k.operation.number) ks) h (rw e refl))
  | inr e ↦
      let r = (rw e at h) in
      (any_snoc j.operation.number ks k ∙ rw (d.0, eq_false_sym j.operation.number k.operation.number e) refl, different_more ks k d.1 r)
]

any_fewer : {X : Type 0} (p q : Marked X → Bool) (ks : List (Marked X)) → list_any p ks ≡ false → list_any p (filter q ks) ≡ false
any_fewer p q [] h = refl
any_fewer p q (k ∷ ks) h = elim (cases_Bool (p k)) [
  | inl e ↦ absurd (both_ways (p k || list_any p ks) h (rw e refl))
  | inr e ↦
      let r = (rw e at h) in
      elim (cases_Bool (q k)) [ inl f ↦ rw (f, e) (any_fewer p q ks r) | inr f ↦ rw f (any_fewer p q ks r) ]
]

pub different_fewer : {X : Type 0} (q : Marked X → Bool) (ks : List (Marked X)) → AreDifferent ks → AreDifferent (filter q ks)
different_fewer q [] d = tt
different_fewer q (k ∷ ks) d = elim (cases_Bool (q k)) [
  | inl e ↦ rw e (any_fewer _ q ks d.0, different_fewer q ks d.1)
  | inr e ↦ rw e (different_fewer q ks d.1)
]

-- Answers. ----

all_long : {L : Type 0} (may : L → ℕ → Bool) (ps : List (L × ℕ)) → Each (λ p. may p.0 p.1 ≡ true) ps → prefix_len (λ p.
    not (not (may p.0 p.1))) ps ≡ length ps
all_long may [] h = refl
all_long may (p ∷ ps) h = rw (h.0, all_long may ps h.1) (omega arith)

pub no_wrong_place : {L : Type 0} (may : L → ℕ → Bool) (ps : List (L × ℕ)) → Each (λ p. may p.0 p.1 ≡ true) ps → position (λ p.
    not (may p.0 p.1)) ps ≡ None
no_wrong_place may ps h = grind (arith, all_long, le-ltb)

pub no_other : {X : Type 0} (ks : List (Marked X)) (n : ℕ) (Q : Marked X → Type 0) → One (λ x. (x.operation.number ≡ n) × Q x) ks
    → list_any (is_number n) ks ≡ false → ⊥
no_other ks n Q o h = grind (arith, both_ways, one_any, one_weaker, is_number, eq-eqb)

-- the load that is open under a number is the only one
pub same_load : {X : Type 0} (ks : List (Marked X)) (n : ℕ) (k : Marked X) (Q : Marked X → Type 0) → AreDifferent ks
    → find (is_number n) ks ≡ Some k → One (λ x. (x.operation.number ≡ n) × Q x) ks → Q k
same_load [] n k Q d h o = absurd o
same_load (x ∷ ks) n k Q d h o = elim (cases_Bool _) [
  | inl e ↦
      let s : Some x ≡ Some k = (rw e at h) in
      let same : x ≡ k = cc in
      elim o [
        | inl q ↦ subst Q same q.1
        | inr r ↦ absurd (no_other ks n Q r (rw (eqb-true x.operation.number n e) at d.0))
      ]
  | inr e ↦ elim o [
    | inl q ↦ absurd (both_ways (is_number n x) e (eq-eqb x.operation.number n q.0))
    | inr r ↦ same_load ks n k Q d.1 (rw e at h) r
  ]
]

-- and each byte of an answer that passes may be returned
pub paid_at : {X L : Type 0} (make : Operation → ℕ → X → L) (number : L → ℕ) (named : (o : Operation) (a : ℕ) (x : X)
    → number (make o a x) ≡ o.number) (may : L → ℕ
    → Bool) (o : Operation) (x : X) (len a : ℕ) (bs : List ℕ)
    → Each (λ p. may p.0 p.1 ≡ true) (zip (piece make number named o x a len) bs) → (i b : ℕ) → slice_get bs i ≡ Some b → i < len
    → may (make o (a + i) x) b ≡ true
paid_at make number named may o x zero a bs h i b e l = absurd (omega arith)
paid_at make number named may o x (suc len) a [] h i b e l = cc
paid_at make number named may o x (suc len) a (c ∷ bs) h zero b e l = let same : c ≡ b = cc in subst (λ y.
    may (make o y x) b ≡ true) (omega arith) (rw same at h.0)
paid_at make number named may o x (suc len) a (c ∷ bs) h (suc i) b e l =
    subst (λ y. may (make o y x) b ≡ true) (omega arith) (paid_at make number named may o x len (a + 1) bs h.1 i b e (omega arith))
