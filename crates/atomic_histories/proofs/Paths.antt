-- What stood there on the ways of a past.
use Rattle.std.proofs.Common.{◌≡◌, ℕ, ◌+◌, ◌≤◌, ◌⊎◌, Bool, true, false, not, nat_lt, List, [], ◌∷◌, map, filter, fold, Option, Some, None}
use Rattle.std.proofs.Common.{inl, inr, refl, sym, ap, ◌∙◌, subst, arith}
use Rattle.std.specs.List.{list_any}
use Rattle.std.proofs.lemmas.Bool.{cases_Bool, lt-ltb, le-ltb, lt-leb}
use Rattle.atomic_histories.specs.declared.unit.WatchedLoad.{WatchedLoad}
use Rattle.atomic_histories.specs.Pasts.{Past, begins, after, either, Stood, stood, Has, IsBy, merged, merged_any, after_any, got, missed}
use Rattle.atomic_histories.specs.Pasts.{cut, earlier, oldest, overwritten, seen_since}
use Rattle.atomic_histories.specs.Branches.{with_word}
use Rattle.atomic_histories.specs.Followed.{watched}
use Rattle.atomic_histories.specs.Stands.{Each, IsAsked}
use Rattle.atomic_histories.proofs.Lists.{each_weaker, each_filter}

abbrev Word : Type 0
Word = List (Option ℕ)

-- there is a way
pub some_path : (p : Past) → (path : List Stood) × Has p path
some_path begins = ([], refl)
some_path (after w t p) = let r = some_path p in (stood w t ∷ r.0, (r.0, refl, r.1))
some_path (either p q) = let r = some_path p in (r.0, inl r.1)

-- The ways of two. ----

pub merged_has : (p q : Past) (path : List Stood) → Has p path ⊎ Has q path → Has (merged p q) path
merged_has x0 x1 path h = grind arith

pub has_merged : (p q : Past) (path : List Stood) → Has (merged p q) path → Has p path ⊎ Has q path
has_merged x0 x1 path h = grind arith

-- The ways that may be none. ----

abbrev pub HasAny : Option Past → List Stood → Type 0
HasAny None path = ⊥
HasAny (Some p) path = Has p path

any_merged : (p q : Option Past) (path : List Stood) → HasAny p path ⊎ HasAny q path → HasAny (merged_any p q) path
any_merged x0 q path x3 = grind arith

merged_of_any : (p q : Option Past) (path : List Stood) → HasAny (merged_any p q) path → HasAny p path ⊎ HasAny q path
merged_of_any x0 q path h = grind arith

any_after : (w : Word) (t : ℕ) (p : Option Past) (path rest : List Stood) → path ≡ stood w t ∷ rest → HasAny p rest
    → HasAny (after_any w t p) path
any_after w t x2 path rest e h = grind arith

after_of_any : (w : Word) (t : ℕ) (p : Option Past) (path : List Stood) → HasAny (after_any w t p) path
    → (rest : List Stood) × (path ≡ stood w t ∷ rest) × HasAny p rest
after_of_any w t x2 path h = grind arith

-- Those on which something stood there, and those on which it never did. ----

abbrev pub part : Bool → (Stood → Bool) → Past → Option Past
part true is p = got is p
part false is p = missed is p

part_after : (t : Bool) (is : Stood → Bool) (w : Word) (n : ℕ) (p : Past) → is (stood w n) ≡ false
    → part t is (after w n p) ≡ after_any w n (part t is p)
part_after x0 is w n p f = grind arith

part_either : (t : Bool) (is : Stood → Bool) (p q : Past) → part t is (either p q) ≡ merged_any (part t is p) (part t is q)
part_either x0 is p q = grind arith

pub part_has : (t : Bool) (is : Stood → Bool) (p : Past) (path : List Stood) → Has p path → list_any is path ≡ t
    → HasAny (part t is p) path
part_has true is begins path h e = let x = ap (list_any is) (sym h) ∙ e in cc
part_has false is begins path h e = h
part_has t is (after w n p) path h e =
    let r = ap (list_any is) (sym h.1) ∙ e in
    elim (cases_Bool _) [
      | inl y ↦ whole t (rw y at r) y
      | inr f ↦ rw (part_after t is w n p f) (any_after w n _ path h.0 h.1 (part_has t is p h.0 h.2 (rw f at r)))
    ]
  where
    whole : (t : Bool) → true ≡ t → is (stood w n) ≡ true → HasAny (part t is (after w n p)) path
    whole true x y = rw y h
    whole false x y = cc
part_has t is (either p q) path h e =
    rw (part_either t is p q)
    (any_merged _ _ path (elim h [ inl a ↦ inl (part_has t is p path a e) | inr a ↦ inr (part_has t is q path a e) ]))

pub has_part : (t : Bool) (is : Stood → Bool) (p : Past) (path : List Stood) → HasAny (part t is p) path
    → Has p path × (list_any is path ≡ t)
has_part true is begins path h = absurd h
has_part false is begins path h = (h, ap (list_any is) h)
has_part t is (after w n p) path h = elim (cases_Bool _) [
  | inl y ↦ whole t y h
  | inr f ↦
      let r = after_of_any w n _ path (rw (part_after t is w n p f) at h) in
      let b = has_part t is p r.0 r.2 in
      ((r.0, r.1, b.0), ap (list_any is) r.1 ∙ rw f b.1)
]
  where
    whole : (t : Bool) → is (stood w n) ≡ true → HasAny (part t is (after w n p)) path → Has (after w n p) path × (list_any is path ≡ t)
    whole true y h = let r = rw y at h in (r, ap (list_any is) r.1 ∙ rw y refl)
    whole false y h = absurd (rw y at h)
has_part t is (either p q) path h = elim (merged_of_any _ _ path (rw (part_either t is p q) at h)) [
  | inl a ↦ let r = has_part t is p path a in (inl r.0, r.1)
  | inr a ↦ let r = has_part t is q path a in (inr r.0, r.1)
]

-- What is left since a moment. ----

abbrev pub cut_path : ℕ → List Stood → List Stood
cut_path since path = filter (λ s. not (nat_lt s.moment since)) path

pub cut_has : (since : ℕ) (p : Past) (path : List Stood) → Has p path → Has (cut since p) (cut_path since path)
cut_has since begins path h = ap (cut_path since) h
cut_has since (after w t p) path h =
    let whole = ap (cut_path since) h.1 in
    elim (cases_Bool (nat_lt t since)) [
      | inl y ↦ rw y (subst (Has (cut since p)) (sym (whole ∙ rw y refl)) (cut_has since p h.0 h.2))
      | inr n ↦ rw n (cut_path since h.0, whole ∙ rw n refl, cut_has since p h.0 h.2)
    ]
cut_has since (either p q) path (inl h) = merged_has _ _ _ (inl (cut_has since p path h))
cut_has since (either p q) path (inr h) = merged_has _ _ _ (inr (cut_has since q path h))

pub has_cut : (since : ℕ) (p : Past) (path : List Stood) → Has (cut since p) path
    → (whole : List Stood) × Has p whole × (path ≡ cut_path since whole)
has_cut since begins path h = ([], refl, h)
has_cut since (after w t p) path h = elim (cases_Bool _) [
  | inl y ↦
      let r = has_cut since p path (rw y at h) in
      (stood w t ∷ r.0, (r.0, refl, r.1), r.2 ∙ sym (short r.0 y))
  | inr n ↦
      let a = rw n at h in
      let r = has_cut since p a.0 a.2 in
      (stood w t ∷ r.0, (r.0, refl, r.1), a.1 ∙ (cc (r.2, long r.0 n)))
]
  where
    short : (rest : List Stood) → nat_lt t since ≡ true → cut_path since (stood w t ∷ rest) ≡ cut_path since rest
    short rest y = rw y refl

    long : (rest : List Stood) → nat_lt t since ≡ false → cut_path since (stood w t ∷ rest) ≡ stood w t ∷ cut_path since rest
    long rest n = rw n refl
has_cut since (either p q) path h = elim (has_merged _ _ path h) [
  | inl a ↦ let r = has_cut since p path a in (r.0, inl r.1, r.2)
  | inr a ↦ let r = has_cut since q path a in (r.0, inr r.1, r.2)
]

-- Moments. ----

pub path_by : (n : ℕ) (p : Past) (path : List Stood) → IsBy n p → Has p path → Each (λ s. s.moment ≤ n) path
path_by n begins path b h = subst (Each (λ s. s.moment ≤ n)) (sym h) tt
path_by n (after w t p) path b h = grind (arith, path_by n p h.0 b.1 h.2)
path_by n (either p q) path b (inl h) = path_by n p path b.0 h
path_by n (either p q) path b (inr h) = path_by n q path b.1 h

pub by_paths : (n : ℕ) (p : Past) → ((path : List Stood) → Has p path → Each (λ s. s.moment ≤ n) path) → IsBy n p
by_paths n begins f = tt
by_paths n (after w t p) f =
    let r = some_path p in
    ((f _ (r.0, refl, r.1)).0, by_paths n p (λ path h. (f _ (path, refl, h)).1))
by_paths n (either p q) f = (by_paths n p (λ path h. f path (inl h)), by_paths n q (λ path h. f path (inr h)))

pub by_weaker : (n m : ℕ) → n ≤ m → (p : Past) → IsBy n p → IsBy m p
by_weaker n m l p h = grind (arith, by_paths, each_weaker, path_by)

pub by_cut : (n since : ℕ) (p : Past) → IsBy n p → IsBy n (cut since p)
by_cut n since p h = grind (arith, by_paths, has_cut, each_filter, path_by)

pub by_overwritten : (loads : List WatchedLoad) (n : ℕ) (w : Word) (p : Past) → IsBy n p → IsBy n (overwritten loads n w p)
by_overwritten x0 n w p h = grind arith

-- What a load may have got. ----

-- nothing was overwritten before it was requested
pub seen_none : (n : ℕ) (path : List Stood) → Each (λ s. s.moment ≤ n) path → seen_since (n + 1) path ≡ []
seen_none n [] a = refl
seen_none n (s ∷ path) a = grind (arith, seen_none n path a.1, lt-leb)

-- the word of now is overwritten
watched_one : (t : ℕ) (w : Word) (path : List Stood) (l : WatchedLoad) → l.since ≤ t
    → watched (stood w t ∷ path) l ≡ with_word w (watched path l)
watched_one t w path l h = grind arith

pub watched_more : (t : ℕ) (w : Word) (path : List Stood) (ls : List WatchedLoad) → Each (IsAsked t) ls
    → map (watched (stood w t ∷ path)) ls ≡ map (with_word w) (map (watched path) ls)
watched_more t w path [] a = refl
watched_more t w path (l ∷ ls) a = λ i. watched_one t w path l a.0 i ∷ watched_more t w path ls a.1 i

-- what is older than all loads may go
seen_cut : (since from : ℕ) → from ≤ since → (path : List Stood) → seen_since since (cut_path from path) ≡ seen_since since path
seen_cut since from l [] = refl
seen_cut since from l (s ∷ path) = grind (arith, seen_cut since from l path, lt-ltb, lt-leb, le-ltb)

pub watched_cut : (from : ℕ) (path : List Stood) (ls : List WatchedLoad) → Each (λ l. from ≤ l.since) ls
    → map (watched (cut_path from path)) ls ≡ map (watched path) ls
watched_cut from path [] a = refl
watched_cut from path (l ∷ ls) a =
    let one = seen_cut l.since from a.0 path in
    λ i. record { number = l.number; address = l.address; words = one i } ∷ watched_cut from path ls a.1 i

-- The oldest load. ----

-- the moment since which one of them may have got what was overwritten, or another's
earlier_stays : (ls : List WatchedLoad) (since : ℕ) → (from : ℕ) × (fold earlier (Some since) ls ≡ Some from) × (from ≤ since)
    × Each (λ l. from ≤ l.since) ls
earlier_stays [] since = let same : since ≤ since = omega arith in (since, refl, same, tt)
earlier_stays (l ∷ ls) since =
    let r = earlier_stays ls _ in
    let low = r.2 in
    let first : r.0 ≤ since = omega arith in
    let here : r.0 ≤ l.since = omega arith in
    (r.0, r.1, first, (here, r.3))

pub oldest_none : (ls : List WatchedLoad) → oldest ls ≡ None → ls ≡ []
oldest_none [] h = refl
oldest_none (l ∷ ls) h = let r = earlier_stays ls l.since in cc (r.1)

pub oldest_first : (ls : List WatchedLoad) (from : ℕ) → oldest ls ≡ Some from → Each (λ l. from ≤ l.since) ls
oldest_first [] from h = cc
oldest_first (l ∷ ls) from h =
    let r = earlier_stays ls l.since in
    let same = sym r.1 ∙ h in
    let is : r.0 ≡ from = cc in
    subst (λ n. Each (λ l. n ≤ l.since) (l ∷ ls)) is (r.2, r.3)
