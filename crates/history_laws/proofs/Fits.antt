-- What a unit of the atomic law may be, beside the windows of the regular law: at one of its bytes.
use Rattle.std.proofs.Common.{◌≡◌, ℕ, zero, suc, ◌+◌, ◌<◌, ◌≤◌, ◌⊎◌, Bool, true, false, ◌&&◌, ◌||◌, not, ◌==◌, if◌then◌else◌, nat_lt, List}
use Rattle.std.proofs.Common.{[], ◌∷◌, ◌++◌, map, length, Option, Some, None, inl, inr, refl, sym, ap, ◌∙◌, subst, arith}
use Rattle.std.proofs.Common.{eqb-true}
use Rattle.std.specs.Prelude.{is_some}
use Rattle.std.specs.List.{All, filter, list_any}
use Rattle.std.proofs.lemmas.Bool.{cases_Bool, and_parts, and_from, lt-ltb, eq-eqb, false_from_ne_true, both_ways}
use Rattle.std.proofs.Math.Bool.{or-true}
use Rattle.atomic_histories.proofs.Links.{none_is, reads}
use Rattle.memory_histories.specs.declared.events.Rest.{Rest}
use Rattle.memory_histories.specs.declared.events.Rest.TheVariants.{Zeros, Unknown}
use Rattle.memory_histories.specs.declared.windows.StoreByte.{StoreByte}
use Rattle.memory_histories.specs.declared.windows.LoadByte.{LoadByte}
use Rattle.memory_histories.specs.Windows.{store_bytes, is_open, after_response}
use Rattle.memory_histories.specs.Regular.{is_before, overwrites, is_overwritten, is_covered, is_initial, may_return_byte}
use Rattle.memory_histories.specs.Kept.{IsTimely}
use Rattle.memory_histories.proofs.Live.{left_answered, covered_answered}
use Rattle.memory_histories.proofs.Requests.{IsNew, store_bytes-new, left_requested, covered_requested}
use Rattle.atomic_histories.specs.declared.unit.OpenStore.{OpenStore}
use Rattle.atomic_histories.specs.declared.unit.UnitPlace.{UnitPlace}
use Rattle.atomic_histories.specs.Words.{at_unit, first_byte, initial_byte, stored_byte, reads_from, is_at, written_byte, written}
use Rattle.atomic_histories.specs.Words.{is_as_it_stood}
use Rattle.atomic_histories.specs.Law.{OpenLoad, UnitMemory, done_store, done_load, is_store, may_answer_store, with_load}
use Rattle.atomic_histories.specs.Law.{with_store, without_load, without_store}
use Rattle.atomic_histories.specs.Stands.{Each, One}
use Rattle.atomic_histories.proofs.Lists.{each_weaker, each_append, each_map, each_both, one_weaker, one_left, one_last, one_map, one_each}
use Rattle.atomic_histories.proofs.Lists.{one_filter, each_replace, each_at, all_each, each_from_all, one_any}
use Rattle.history_laws.specs.Laws.{IsByte}
use Rattle.history_laws.proofs.Lists.{each_passing, one_unfilter, one_split, one_right, one_replace, one_replaced, one_at}
use Rattle.history_laws.proofs.Lists.{one_never, or_more, each_always, any_none}
use Rattle.history_laws.proofs.Pieces.{Marked, is_number}
use Rattle.history_laws.proofs.Words.{lane, lane_written, length_written, lane_unit, stored_new, each_new, new_byte}

before_some : (o : Option ℕ) (t : ℕ) → is_before o t ≡ true → is_some o ≡ true
before_some None t h = cc
before_some (Some e) t h = refl

open_answered : (o : Option ℕ) → o ≡ None → is_some o ≡ true → ⊥
open_answered None e h = cc
open_answered (Some x) e h = cc

any_lane : (ws : List (Option ℕ)) (j b : ℕ) → lane ws j ≡ Some b → list_any is_some ws ≡ true
any_lane [] j b h = cc
any_lane (w ∷ ws) zero b h = rw h refl
any_lane (w ∷ ws) (suc j) b h = rw (any_lane ws j b h) (or-true (is_some w))

-- a byte after the response of the store under a number: it is of this store, or it stays
pub after_cases : (n t : ℕ) (s : StoreByte) → ((s.ended ≡ None) × ((s.number ≡ n)
    × (after_response n t s ≡ record { number = s.number; address = s.address; byte = s.byte; began = s.began; ended = Some t })))
    ⊎ ((is_open n s ≡ false) × (after_response n t s ≡ s))
after_cases n t s = elim (cases_Bool _) [
  | inl e ↦ let p = and_parts _ _ e in inl (none_is s.ended p.0, (eqb-true s.number n p.1, rw e refl))
  | inr e ↦ inr (e, rw e refl)
]

-- what the response leaves as it was
pub after_here : (n t : ℕ) (s : StoreByte) → ((after_response n t s).address ≡ s.address) × (((after_response n t s).byte ≡ s.byte)
    × (((after_response n t s).began ≡ s.began) × ((after_response n t s).number ≡ s.number)))
after_here n t s = elim (after_cases n t s) [
  | inl c ↦ (ap (λ y. y.address) c.1.1, (ap (λ y. y.byte) c.1.1, (ap (λ y. y.began) c.1.1, ap (λ y. y.number) c.1.1)))
  | inr c ↦ (ap (λ y. y.address) c.1, (ap (λ y. y.byte) c.1, (ap (λ y. y.began) c.1, ap (λ y. y.number) c.1)))
]

some_none : {t : ℕ} → Some t ≡ None → ⊥
some_none h = cc

pub not_both : (b : Bool) → not b ≡ true → b ≡ true → ⊥
not_both true h k = cc
not_both false h k = cc

open_before : (o : Option ℕ) (t : ℕ) → o ≡ None → is_before o t ≡ false
open_before None t h = refl
open_before (Some e) t h = cc

initial_allowed : (o : Option ℕ) (rest : Rest) (b : ℕ) → IsByte rest b → is_as_it_stood (first_byte o rest) (Some b) ≡ true
    → is_initial o rest b ≡ true
initial_allowed (Some i) rest b l h = h
initial_allowed None Zeros b l h = grind arith
initial_allowed None Unknown b l h = lt-ltb b 256 l

right_of : (x y z : Bool) → y ≡ true → z ≡ false → (x || (y && not z)) ≡ true
right_of x y z h k = rw (h, k) (or-true x)

module _ (image : List ℕ) (rest : Rest) (unit : UnitPlace) (j : ℕ) where
  abbrev pub here : ℕ
  here = unit.first + j

  -- an open store at the unit, of which this is the byte here
  abbrev pub IsOf : StoreByte → OpenStore → Type 0
  IsOf s o = (o.number ≡ s.number) × (lane o.bytes j ≡ Some s.byte)

  -- a byte has taken effect
  abbrev pub IsDone : List OpenStore → StoreByte → Type 0
  IsDone os s = (is_some s.ended ≡ true) ⊎ ((s.ended ≡ None) × One (λ o. IsOf s o × (o.is_done ≡ true)) os)

  -- what stands here: what was there before the first store, if none took effect
  abbrev IsFirst : List OpenStore → List StoreByte → Option ℕ → Type 0
  IsFirst os stores x = (x ≡ initial_byte image rest here) × Each (λ s. s.address ≡ here → IsDone os s → ⊥) stores

  -- or a byte that took effect, and behind whose response no other that took effect was requested
  abbrev pub IsLast : List OpenStore → List StoreByte → Option ℕ → StoreByte → Type 0
  IsLast os stores x s =
      (s.address ≡ here) × ((x ≡ Some s.byte) × (IsDone os s × Each (λ o. o.address ≡ here → IsDone os o
      → is_before s.ended o.began ≡ false) stores))

  abbrev Stands : List OpenStore → List StoreByte → Option ℕ → Type 0
  Stands os stores x = IsFirst os stores x ⊎ One (IsLast os stores x) stores

  -- each open byte here is one of the unit's open stores, and each of these has its byte
  abbrev pub HasStore : List OpenStore → StoreByte → Type 0
  HasStore os s = s.address ≡ here → s.ended ≡ None → One (IsOf s) os

  abbrev pub IsByteOf : ℕ → ℕ → StoreByte → Type 0
  IsByteOf n b s = (s.address ≡ here) × ((s.ended ≡ None) × ((s.number ≡ n) × (s.byte ≡ b)))

  abbrev pub HasByte : List StoreByte → OpenStore → Type 0
  HasByte stores o = (b : ℕ) → lane o.bytes j ≡ Some b → One (IsByteOf o.number b) stores

  -- an open load may return what it got here
  abbrev pub may : List StoreByte → ℕ → ℕ → ℕ → Bool
  may stores n t b = may_return_byte image rest stores (record { number = n; address = here; began = t; enabled = true }) b

  abbrev pub IsAllowed : List StoreByte → ℕ → ℕ → Option (List (Option ℕ)) → Type 0
  IsAllowed stores n t None = Unit {0}
  IsAllowed stores n t (Some word) = (b : ℕ) → IsByte rest b → is_as_it_stood (lane word j) (Some b) ≡ true → may stores n t b ≡ true

  abbrev pub IsLoad : List StoreByte → Marked ℕ → OpenLoad → Type 0
  IsLoad stores k o = (o.number ≡ k.operation.number) × ((o.address ≡ reads k.operation)
      × IsAllowed stores k.operation.number k.mark o.got)

  abbrev pub HasLoad : List StoreByte → ℕ → List OpenLoad → Marked ℕ → Type 0
  HasLoad stores moment loads k = (k.mark < moment) × (k.operation.address ≤ here → here < k.operation.address + k.operation.length
      → One (IsLoad stores k) loads)

  pub record Fits (stores : List StoreByte) (moment : ℕ) (ks : List (Marked ℕ)) (m : UnitMemory) : Type 0 where
    pub wide : j < length m.word
    pub word : Stands m.stores stores (lane m.word j)
    pub has_stores : Each (HasStore m.stores) stores
    pub has_bytes : Each (HasByte stores) m.stores
    pub has_loads : Each (HasLoad stores moment m.loads) ks

  -- What stands here may be returned. ----

  uncovered : (os : List OpenStore) (stores : List StoreByte) (n t : ℕ) → Each (λ s. s.address ≡ here → IsDone os s → ⊥) stores
      → is_covered stores (record { number = n; address = here; began = t; enabled = true }) ≡ false
  uncovered os stores n t h = grind (arith, any_none, each_weaker, false_from_ne_true, and_parts, eqb-true, before_some)

  pub not_overwritten : (os : List OpenStore) (stores : List StoreByte) (s : StoreByte) (t : ℕ) → s.address ≡ here
      → Each (λ o. o.address ≡ here → IsDone os o → is_before s.ended o.began ≡ false) stores → is_overwritten stores s t ≡ false
  not_overwritten os stores s t a h =
      any_none _ stores
      (each_weaker (λ o. o.address ≡ here → IsDone os o → is_before s.ended o.began ≡ false) (λ o. overwrites s t o ≡ false)
      (λ o f. false_from_ne_true _ (λ e.
      let p = and_parts _ _ e in
      let q = and_parts _ _ p.1 in
      both_ways _ (f (eqb-true o.address s.address p.0 ∙ a) (inl (before_some o.ended t q.1))) q.0)) stores h)

  pub may_now : (os : List OpenStore) (stores : List StoreByte) (x : Option ℕ) → Stands os stores x → (n t b : ℕ) → IsByte rest b
      → is_as_it_stood x (Some b) ≡ true → may stores n t b ≡ true
  may_now os stores x (inl f) n t b l h = grind (arith, right_of, initial_allowed, uncovered)
  may_now os stores x (inr o) n t b l h = grind (arith, one_any, one_weaker, and_from, eq-eqb, not_overwritten)

  -- A store takes effect. ----

  pub done_more : (before : List OpenStore) (o : OpenStore) (after : List OpenStore) (s : StoreByte) → IsDone (before ++ o ∷ after) s
      → IsDone (before ++ done_store o ∷ after) s
  done_more before o after s (inl e) = inl e
  done_more before o after s (inr p) =
      inr (
        p.0,
        one_replace (λ x. IsOf s x × (x.is_done ≡ true)) (λ x. IsOf s x × (x.is_done ≡ true)) before o _ after (λ x q.
            q) (λ q. (q.0, refl)) p.1,
      )

  done_fewer : (before : List OpenStore) (o : OpenStore) (after : List OpenStore) (s : StoreByte) → IsDone (before
      ++ done_store o ∷ after) s → IsDone (before ++ o ∷ after) s ⊎ ((s.ended ≡ None) × IsOf s o)
  done_fewer before o after s (inl e) = inl (inl e)
  done_fewer before o after s (inr p) = elim (one_replaced (λ x. IsOf s x × (x.is_done ≡ true)) before o _ after p.1) [
    | inl a ↦ inl (inr (p.0, a))
    | inr q ↦ inr (p.0, q.0)
  ]

  no_byte : {b : ℕ} → None ≡ Some b → ⊥
  no_byte h = cc

  -- if it writes nothing here, the same are done
  pub done_same : (before : List OpenStore) (o : OpenStore) (after : List OpenStore) → lane o.bytes j ≡ None → (s : StoreByte)
      → IsDone (before ++ done_store o ∷ after) s → IsDone (before ++ o ∷ after) s
  done_same before o after none s d = elim (done_fewer before o after s d) [
    | inl a ↦ a
    | inr p ↦ absurd (no_byte (sym none ∙ p.1.1))
  ]

  pub last_same : (os ds : List OpenStore) (stores : List StoreByte) (x : Option ℕ) → ((s : StoreByte) → IsDone os s → IsDone ds s)
      → ((s : StoreByte) → IsDone ds s → IsDone os s) → (s : StoreByte) → IsLast os stores x s → IsLast ds stores x s
  last_same os ds stores x f g s p = (
    p.0,
    (
      p.1.0,
      (
        f s p.1.1.0,
        each_weaker (λ o. o.address ≡ here → IsDone os o → is_before s.ended o.began ≡ false) _ (λ o h a d. h a (g o d))
            stores p.1.1.1,
      ),
    ),
  )

  stands_fewer : (os ds : List OpenStore) (stores : List StoreByte) (x : Option ℕ) → ((s : StoreByte) → IsDone os s → IsDone ds s)
      → ((s : StoreByte) → IsDone ds s → IsDone os s) → Stands os stores x → Stands ds stores x
  stands_fewer os ds stores x f g (inl p) = grind (arith, each_weaker)
  stands_fewer os ds stores x f g (inr o) = inr (one_weaker _ _ (last_same os ds stores x f g) stores o)

  -- a byte that takes effect is the last one
  pub last_done : (before : List OpenStore) (o : OpenStore) (after : List OpenStore) (stores : List StoreByte) (b : ℕ)
      → lane o.bytes j ≡ Some b → (s : StoreByte) → IsByteOf o.number b s → IsLast (before ++ done_store o ∷ after) stores (Some b) s
  last_done before o after stores b e s p =
      let os = before ++ done_store o ∷ after in (
        p.0,
        (
          ap Some (sym p.1.1.1),
          (
            inr (
              p.1.0,
              one_at (λ y. IsOf s y × (y.is_done ≡ true)) before _ after ((sym p.1.1.0, e ∙ ap Some (sym p.1.1.1)), refl),
            ),
            each_always (λ y. y.address ≡ here → IsDone os y → is_before s.ended y.began ≡ false) (λ y a d.
                open_before s.ended y.began p.1.0) stores,
          ),
        ),
      )

  stands_effect : (before : List OpenStore) (o : OpenStore) (after : List OpenStore) (stores : List StoreByte) (x : Option ℕ)
      → HasByte stores o → Stands (before ++ o ∷ after) stores x
      → (v : Option ℕ) → lane o.bytes j ≡ v → Stands (before ++ done_store o ∷ after) stores (written_byte v x)
  stands_effect before o after stores x has st None e =
      stands_fewer _ _ stores x (λ s d. done_more before o after s d) (λ s d.
      done_same before o after e s d) st
  stands_effect before o after stores x has st (Some b) e =
      inr (one_weaker _ _ (last_done before o after stores b e) stores (has b e))

  pub fits_store : (stores : List StoreByte) (moment : ℕ) (ks : List (Marked ℕ)) (word : List (Option ℕ)) (loads : List OpenLoad) (before :
      List OpenStore) (o : OpenStore) (after : List OpenStore)
      → Fits stores moment ks (record { word = word; stores = before ++ o ∷ after; loads = loads })
      → Fits stores moment ks (record { word = written o.bytes word; stores = before ++ done_store o ∷ after; loads = loads })
  fits_store stores moment ks word loads before o after f = record {
    wide = subst (λ n. j < n) (sym (length_written o.bytes word)) f.wide;
    word = subst (Stands (before ++ done_store o ∷ after) stores) (sym (lane_written o.bytes word j f.wide))
        (stands_effect before o after stores (lane word j) (each_at (HasByte stores) before o after f.has_bytes) f.word (lane o.bytes j)
        refl);
    has_stores = each_weaker _ _
        (λ s h a n. one_replace _ _ before o _ after (λ x p. p) (λ p. p) (h a n)) stores f.has_stores;
    has_bytes = each_replace _ before o _ after (λ h. h) f.has_bytes;
    has_loads = f.has_loads;
  }

  -- A load takes effect. ----

  pub fits_load : (stores : List StoreByte) (moment : ℕ) (ks : List (Marked ℕ)) (word : List (Option ℕ)) (os : List OpenStore) (before :
      List OpenLoad) (l : OpenLoad) (after : List OpenLoad)
      → Fits stores moment ks (record { word = word; stores = os; loads = before ++ l ∷ after })
      → Fits stores moment ks (record { word = word; stores = os; loads = before ++ done_load word l ∷ after })
  fits_load stores moment ks word os before l after f = record {
    wide = f.wide;
    word = f.word;
    has_stores = f.has_stores;
    has_bytes = f.has_bytes;
    has_loads = each_weaker _ _
        (λ k h. (
          h.0,
          λ a b. one_replace _ _ before l _ after (λ x p. p)
              (λ p. (p.0, (p.1.0, λ c q e. may_now os stores _ f.word k.operation.number k.mark c q e))) (h.1 a b),
        )) ks f.has_loads;
  }

  -- Events of loads. ----

  later : (stores : List StoreByte) (moment : ℕ) (loads more : List OpenLoad) (ks : List (Marked ℕ)) → Each (HasLoad stores moment loads) ks
      → Each (HasLoad stores (moment + 1) (loads ++ more)) ks
  later stores moment loads more ks h = grind (arith, each_weaker, one_left)

  pub fits_requested : (stores : List StoreByte) (moment : ℕ) (ks : List (Marked ℕ)) (m : UnitMemory) (n a len en : ℕ) → j < unit.size
      → Fits stores moment ks m → (t : Bool) → is_at unit a len ≡ t
      → Fits stores (moment + 1) (ks
      ++ record { operation = record { number = n; address = a; length = len; enables = en }; mark = moment } ∷ [])
      (if t then with_load n (reads_from a en) m else m)
  fits_requested stores moment ks m n a len en jl f true e =
      let k : Marked ℕ = record { operation = grind arith; mark = moment } in
      let o : OpenLoad = record { number = n; address = reads_from a en; got = None } in
      record {
        wide = f.wide;
        word = f.word;
        has_stores = f.has_stores;
        has_bytes = f.has_bytes;
        has_loads = each_append _ ks _ (later stores moment m.loads (o ∷ []) ks f.has_loads)
            ((omega arith, λ p q. one_last _ _ o (refl, (refl, tt))), tt);
      }
  fits_requested stores moment ks m n a len en jl f false e =
      let k : Marked ℕ = record { operation = grind arith; mark = moment } in
      record {
        wide = f.wide;
        word = f.word;
        has_stores = f.has_stores;
        has_bytes = f.has_bytes;
        has_loads = each_append _ ks _
            (each_weaker _ _ (λ k p. let l = p.0 in (
              omega arith,
              p.1,
            )) ks f.has_loads) (
              (
                omega arith,
                λ p q.
                    absurd (both_ways (is_at unit a len) e
                    (and_from (nat_lt a (unit.first + unit.size)) (nat_lt unit.first (a + len)) (lt-ltb
                    a (unit.first + unit.size) (omega arith)) (lt-ltb unit.first (a + len) (omega arith)))),
              ),
              tt,
            );
      }

  pub fits_answered : (stores : List StoreByte) (moment : ℕ) (ks : List (Marked ℕ)) (m : UnitMemory) (n : ℕ) → Fits stores moment ks m
      → Fits stores (moment + 1) (filter (λ k. not (is_number n k)) ks) (without_load n m)
  fits_answered stores moment ks m n f = record {
    wide = f.wide;
    word = f.word;
    has_stores = f.has_stores;
    has_bytes = f.has_bytes;
    has_loads = each_passing _ (λ k. not _) ks
        (each_weaker _ (λ k. not _ ≡ true
        → HasLoad stores (moment + 1) (without_load n m).loads k)
        (λ k p e. let l = p.0 in (
          omega arith,
          λ a b. one_filter _ (λ o. not _) _
              (one_weaker _ (λ o. IsLoad stores k o × (not _ ≡ true)) (λ o q. (
                q,
                ap (λ x.
                    not (x == n)) q.0 ∙ e,
              )) _ (p.1 a b)),
        )) ks f.has_loads);
  }

  -- A store is requested. ----

  -- what may be returned stays so
  grows : (stores added : List StoreByte) (t : ℕ) → All (IsNew t) added → (n u b : ℕ) → may stores n u b ≡ true → may (stores
      ++ added) n u b ≡ true
  grows stores added t new n u b h =
      let l : LoadByte = record { number = n; address = here; began = u; enabled = true } in
      rw (left_requested t stores added new l b, covered_requested t stores added new l)
      (or_more _ (list_any (λ s.
      (s.address == here) && (s.byte == b)) added) _ h)

  allowed_at : (stores more : List StoreByte) (n u : ℕ) (got : Option (List (Option ℕ))) → ((b : ℕ) → may stores n u b ≡ true
      → may more n u b ≡ true) → IsAllowed stores n u got → IsAllowed more n u got
  allowed_at stores more n u None g h = tt
  allowed_at stores more n u (Some word) g h = λ b l e. g b (h b l e)

  loads_more : (stores more : List StoreByte) (moment : ℕ) (loads : List OpenLoad) (ks : List (Marked ℕ)) → ((k : Marked ℕ)
      → k.mark < moment → (b : ℕ) → may stores k.operation.number k.mark b ≡ true → may more k.operation.number k.mark b ≡ true)
      → Each (HasLoad stores moment loads) ks → Each (HasLoad more (moment + 1) loads) ks
  loads_more stores more moment loads ks g h =
      each_weaker _ _
      (λ k p. let l = p.0 in (
        omega arith,
        λ a b. one_weaker _ _ (λ o q. (
          q.0,
          (
            q.1.0,
            allowed_at stores more k.operation.number k.mark o.got (λ c m. g k p.0 c m) q.1.1,
          ),
        )) loads (p.1 a b),
      )) ks h

  pub done_old : (os : List OpenStore) (o : OpenStore) (s : StoreByte) → o.is_done ≡ false → IsDone (os ++ o ∷ []) s → IsDone os s
  done_old os o s e (inl d) = inl d
  done_old os o s e (inr p) = elim (one_split (λ x. IsOf s x × (x.is_done ≡ true)) os _ p.1) [
    | inl a ↦ inr (p.0, a)
    | inr (inl q) ↦ absurd (both_ways o.is_done e q.1)
    | inr (inr q) ↦ absurd q
  ]

  -- no open store has the number that is requested, so no new byte is done
  pub none_under : (os : List OpenStore) (stores : List StoreByte) (n : ℕ) → list_any (is_open n) stores ≡ false → Each (HasByte stores) os
      → (s : StoreByte) → s.number ≡ n → s.ended ≡ None → IsDone os s → ⊥
  none_under os stores n free has s e o (inl d) = absurd (open_answered s.ended o d)
  none_under os stores n free has s e o (inr p) =
      one_never (λ x. IsOf s x × (x.is_done ≡ true)) _ os p.1 has
      (λ x q h. both_ways _ free
      (one_any _ stores (one_weaker _ (λ y. is_open n y ≡ true)
      (λ y r. rw r.1.0 (eq-eqb y.number n (r.1.1.0 ∙ (q.0.0 ∙ e)))) stores (h s.byte q.0.1))))

  pub done_with : (os more : List OpenStore) (s : StoreByte) → IsDone os s → IsDone (os ++ more) s
  done_with os more s (inl d) = inl d
  done_with os more s (inr p) = grind (arith, one_left)

  pub last_requested : (os ds : List OpenStore) (stores added : List StoreByte) (x : Option ℕ) → ((s : StoreByte) → IsDone os s
      → IsDone ds s) → ((s : StoreByte) → IsDone ds s → IsDone os s) → Each (λ s. IsDone os s → ⊥) added
      → (s : StoreByte) → IsLast os stores x s → IsLast ds (stores ++ added) x s
  last_requested os ds stores added x f g new s p = grind (arith, each_append, each_weaker)

  stands_requested : (os ds : List OpenStore) (stores added : List StoreByte) (x : Option ℕ) → ((s : StoreByte) → IsDone os s → IsDone ds s)
      → ((s : StoreByte) → IsDone ds s → IsDone os s)
      → Each (λ s. IsDone os s → ⊥) added → Stands os stores x → Stands ds (stores ++ added) x
  stands_requested os ds stores added x f g new (inl p) = grind (arith, each_append, each_weaker)
  stands_requested os ds stores added x f g new (inr o) =
      inr (one_left _ stores added (one_weaker _ _ (last_requested os ds stores added x f g new) stores o))

  pub fits_store_requested : (stores : List StoreByte) (moment : ℕ) (ks : List (Marked ℕ)) (m : UnitMemory) (n a : ℕ) (bs : List ℕ) (e : ℕ)
      → j < unit.size → j < 8 → list_any (is_open n) stores ≡ false → Fits stores moment ks m
      → (t : Bool) → list_any is_some (at_unit unit (stored_byte a bs e)) ≡ t
      → Fits (stores ++ store_bytes n a bs e moment) (moment + 1) ks (if t then with_store n (at_unit unit (stored_byte a bs e)) m else m)
  fits_store_requested stores moment ks m n a bs e jl jw free f true c =
      let added = store_bytes n a bs e moment in
      let word : List _ = at_unit unit (stored_byte a bs e) in
      let o : OpenStore = record { number = n; bytes = word; is_done = false } in
      let lane_here : lane word j ≡ stored_byte a bs e here = lane_unit unit (stored_byte a bs e) j jl jw in
      record {
        wide = f.wide;
        word = stands_requested _ _ stores added _ (λ s d. done_with _ _ s d) (λ s d.
            done_old _ o s refl d)
            (each_weaker _ (λ s. IsDone _ s → ⊥) (λ s h d.
            none_under _ stores n free f.has_bytes s h.0 h.1.0 d) added (each_new n a bs e moment)) f.word;
        has_stores = each_append _ stores added
            (each_weaker _ _ (λ s h p q.
            one_left _ _ _ (h p q)) stores f.has_stores)
            (each_weaker _ _ (λ s h p q. one_last _ _ o (
              sym h.0,
              lane_here ∙ (ap (stored_byte a bs e) (sym p) ∙ h.1.1.1),
            )) added (each_new n a bs e moment));
        has_bytes = each_append _ _ _
            (each_weaker _ _ (λ y h b p.
            one_left _ stores added (h b p)) _ f.has_bytes) (
              λ b p. one_right _ stores added (one_weaker (λ s. s ≡ new_byte n here b moment) _ (λ s q. (
                ap (λ z.
                    z.address) q,
                (ap (λ z. z.ended) q, (ap (λ z. z.number) q, ap (λ z. z.byte) q)),
              )) added
                  (stored_new n a bs e moment here b (sym lane_here ∙ p))),
              tt,
            );
        has_loads = loads_more stores _ moment _ ks (λ k l b h.
            grows stores added moment (store_bytes-new n a bs e moment) k.operation.number k.mark b h) f.has_loads;
      }
  fits_store_requested stores moment ks m n a bs e jl jw free f false c =
      let added : List StoreByte = store_bytes n a bs e moment in
      let word : List _ = at_unit unit (stored_byte a bs e) in
      let lane_here : lane word j ≡ stored_byte a bs e here = lane_unit unit (stored_byte a bs e) j jl jw in
      record {
        wide = f.wide;
        word = stands_requested _ _ stores added _ (λ s d. d) (λ s d. d)
            (each_weaker _ (λ s. IsDone _ s → ⊥) (λ s h d.
            none_under _ stores n free f.has_bytes s h.0 h.1.0 d) added (each_new n a bs e moment)) f.word;
        has_stores = each_append _ stores added f.has_stores
            (each_weaker _ _ (λ s h p q.
            absurd (both_ways _ c (any_lane word j s.byte (lane_here ∙ (ap (stored_byte a bs e) (sym p) ∙
            h.1.1.1))))) added (each_new n a bs e moment));
        has_bytes = each_weaker _ _ (λ y h b p.
            one_left _ stores added (h b p)) _ f.has_bytes;
        has_loads = loads_more stores _ moment _ ks (λ k l b h.
            grows stores added moment (store_bytes-new n a bs e moment) k.operation.number k.mark b h) f.has_loads;
      }

  -- A store is answered. ----

  not_its : (n : ℕ) (s : StoreByte) (o : OpenStore) → is_open n s ≡ false → s.ended ≡ None → o.number ≡ s.number → not (is_store n o) ≡ true
  not_its n s o h e q = grind arith

  -- what is left of the open stores has every open byte of another number
  left_open : (os : List OpenStore) (n : ℕ) (P : OpenStore → Type 0) (s : StoreByte) → is_open n s ≡ false → s.ended ≡ None
      → ((o : OpenStore) → P o → o.number ≡ s.number) → One P os → One P (filter (λ o. not (is_store n o)) os)
  left_open os n P s h e f one = grind (arith, one_filter, one_weaker, not_its)

  done_by_answer : (n : ℕ) (o : OpenStore) → o.number ≡ n → (not (is_store n o) || o.is_done) ≡ true → o.is_done ≡ true
  done_by_answer n o e h = grind arith

  done_filtered : (os : List OpenStore) (n : ℕ) (s : StoreByte) → is_open n s ≡ false → IsDone os s → IsDone (filter (λ o.
      not (is_store n o)) os) s
  done_filtered os n s h (inl d) = inl d
  done_filtered os n s h (inr p) = grind (arith, left_open)

  done_unfiltered : (os : List OpenStore) (n : ℕ) (s : StoreByte) → IsDone (filter (λ o. not (is_store n o)) os) s → IsDone os s
  done_unfiltered os n s (inl d) = inl d
  done_unfiltered os n s (inr p) = grind (arith, one_unfilter)

  done_before : (os : List OpenStore) (n t : ℕ) (s : StoreByte) → may_answer_store n os ≡ true → HasStore os s → s.address ≡ here
      → IsDone (filter (λ o. not (is_store n o)) os) (after_response n t s) → IsDone os s
  done_before os n t s m has a d = elim (after_cases n t s) [
    | inl c ↦ inr (
      c.0,
      one_weaker (λ o. IsOf s o × ((not _ || o.is_done) ≡ true)) (λ o. IsOf s o × (o.is_done ≡ true)) (λ o q. (
        q.0,
        done_by_answer n o (q.0.0 ∙ c.1.0) q.1,
      )) os
          (one_each _ (λ o. (not _ || o.is_done) ≡ true) os (has a c.0) (all_each (λ o.
          not _ || o.is_done) os m)),
    )
    | inr c ↦ done_unfiltered os n s (rw c.1 at d)
  ]

  done_after : (os : List OpenStore) (n t : ℕ) (s : StoreByte) → IsDone os s → IsDone (filter (λ o.
      not (is_store n o)) os) (after_response n t s)
  done_after os n t s d = elim (after_cases n t s) [
    | inl c ↦ inl (ap (λ y. is_some y.ended) c.1.1)
    | inr c ↦ subst (IsDone (filter (λ o. not _) os)) (sym c.1) (done_filtered os n s c.0 d)
  ]

  -- a byte that took effect is not overwritten by the answer
  before_same : (n t : ℕ) (s o : StoreByte) → o.began < t → is_before s.ended o.began ≡ false
      → is_before (after_response n t s).ended (after_response n t o).began ≡ false
  before_same n t s o l h = grind arith

  pub last_answered : (os : List OpenStore) (stores : List StoreByte) (n t : ℕ) (x : Option ℕ) → may_answer_store n os ≡ true
      → Each (HasStore os) stores → Each (IsTimely t) stores → (s : StoreByte) → IsLast os stores x s
      → IsLast (filter (λ o. not (is_store n o)) os) (map (after_response n t) stores) x (after_response n t s)
  last_answered os stores n t x m has timely s p =
      let ds = filter (λ o. not (is_store n o)) os in
      let f = after_response n t in (
        (after_here n t s).0 ∙ p.0,
        (
          p.1.0 ∙ ap Some (sym (after_here n t s).1.0),
          (
            done_after os n t s p.1.1.0,
            each_map f (λ y. y.address ≡ here → IsDone ds y → is_before (f s).ended y.began ≡ false) stores
                (each_weaker (λ y. (y.address ≡ here → IsDone os y → is_before s.ended y.began ≡ false) × (HasStore os y
                × IsTimely t y)) (λ y. (f y).address ≡ here → IsDone ds (f y) → is_before (f s).ended (f y).began ≡ false)
                (λ y h a d. let b = sym (after_here n t y).0 ∙ a in
                before_same n t s y h.1.1.0 (h.0 b (done_before os n t y m h.1.0 b d))) stores
                (each_both (λ y. y.address ≡ here → IsDone os y → is_before s.ended y.began ≡ false) (λ y. HasStore os y
                × IsTimely t y) stores p.1.1.1 (each_both (HasStore os) (IsTimely t) stores has timely))),
          ),
        ),
      )

  stands_answered : (os : List OpenStore) (stores : List StoreByte) (n t : ℕ) (x : Option ℕ) → may_answer_store n os ≡ true
      → Each (HasStore os) stores → Each (IsTimely t) stores → Stands os stores x
      → Stands (filter (λ o. not (is_store n o)) os) (map (after_response n t) stores) x
  stands_answered os stores n t x m has timely (inl p) =
      let ds = filter (λ o. not _) os in
      inl (
        p.0,
        each_map _ (λ s. s.address ≡ here → IsDone ds s → ⊥) stores
            (each_weaker (λ s. (s.address ≡ here → IsDone os s → ⊥) × HasStore os s) (λ s. (after_response n t s).address ≡ here
            → IsDone ds (after_response n t s) → ⊥)
            (λ s h a d. let b = sym (after_here n t s).0 ∙ a in h.0 b (done_before os n t s m h.1 b d)) stores
            (each_both (λ s. s.address ≡ here → IsDone os s → ⊥) _ stores p.1 has)),
      )
  stands_answered os stores n t x m has timely (inr o) =
      inr (one_map (after_response n t) _ stores (one_weaker _ _ (last_answered os stores n t x m has timely) stores o))

  keeps : (stores : List StoreByte) (n t : ℕ) → All (IsTimely t) stores → (k u b : ℕ) → u ≤ t → may stores k u b ≡ true
      → may (map (after_response n t) stores) k u b ≡ true
  keeps stores n t timely k u b l h = grind (arith, left_answered, covered_answered)

  pub fits_store_answered : (stores : List StoreByte) (moment : ℕ) (ks : List (Marked ℕ)) (m : UnitMemory) (n : ℕ)
      → All (IsTimely moment) stores → may_answer_store n m.stores ≡ true → Fits stores moment ks m
      → Fits (map (after_response n moment) stores) (moment + 1) ks (without_store n m)
  fits_store_answered stores moment ks m n timely may_end f =
      let after = after_response n moment in
      let ds = filter (λ o. not _) m.stores in
      record {
        wide = f.wide;
        word = stands_answered m.stores stores n moment (lane m.word j) may_end f.has_stores (each_from_all (IsTimely moment) stores timely)
            f.word;
        has_stores = each_map after (HasStore ds) stores (each_weaker (HasStore m.stores) (λ s. HasStore ds (after s))
            (λ s h a e. elim (after_cases n moment s) [
              | inl c ↦ absurd (some_none (sym (ap (λ y. y.ended) c.1.1) ∙ e))
              | inr c ↦ let e2 = sym (ap (λ y. y.ended) c.1) ∙ e in
                  subst (λ y. One (IsOf y) ds) (sym c.1) (left_open m.stores n (IsOf s) s c.0 e2 (λ o p.
                  p.0) (h (sym (after_here n moment s).0 ∙ a) e2))
            ]) stores f.has_stores);
        has_bytes = each_passing (HasByte (map after stores)) (λ o. not (is_store n o)) m.stores (each_weaker (HasByte stores) (λ o.
            not (is_store n o) ≡ true → HasByte (map after stores) o)
            (λ o h other b e. one_map after (IsByteOf o.number b) stores (one_weaker (IsByteOf o.number b) (λ s.
            IsByteOf o.number b (after s))
            (λ s q. elim (after_cases n moment s) [
              | inl c ↦ absurd (not_both (o.number == n) other (eq-eqb o.number n (sym q.1.1.0 ∙ c.1.0)))
              | inr c ↦ subst (IsByteOf o.number b) (sym c.1) q
            ]) stores (h b e))) m.stores f.has_bytes);
        has_loads = loads_more stores (map after stores) moment m.loads ks (λ k l b h.
            keeps stores n moment timely k.operation.number k.mark b (omega arith) h) f.has_loads;
      }
