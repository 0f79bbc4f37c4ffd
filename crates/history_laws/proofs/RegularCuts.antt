-- What stays of a regular history is regular, if the cut is closed at each unit.
use Rattle.std.proofs.Common.{◌≡◌, ℕ, zero, suc, ◌+◌, ◌/◌, ◌%◌, ◌<◌, ◌≤◌, Bool, true, false, ◌&&◌, ◌||◌, not, ◌==◌, if◌then◌else◌, nat_lt}
use Rattle.std.proofs.Common.{nat_le, List, [], ◌∷◌, ◌++◌, map, length, Option, Some, None, slice_get, inl, inr, refl, sym, ap, ◌∙◌, subst}
use Rattle.std.proofs.Common.{arith}
use Rattle.std.proofs.Common.{eq-eqb, append-nil}
use Rattle.std.specs.Prelude.{is_some, IsTrue, is_none}
use Rattle.std.specs.List.{filter, list_all, list_any, range_with_len, zip}
use Rattle.std.specs.Option.{option_map, option_and_then}
use Rattle.std.proofs.lemmas.Bool.{cases_Bool, and_parts, and_from, or_parts, le-leb, lt-ltb, ltb-true, ltb-false, leb-true, leb-false}
use Rattle.std.proofs.lemmas.Bool.{both_ways}
use Rattle.std.proofs.lemmas.Bool.{false_from_ne_true}
use Rattle.std.proofs.Math.Bool.{or-true}
use Rattle.std.proofs.lemmas.List.{map-append, length-map}
use Rattle.std.proofs.lemmas.List.Elements.{filter-append}
use Rattle.memory_histories.specs.declared.events.HistoryEvent.{HistoryEvent}
use Rattle.memory_histories.specs.declared.events.HistoryEvent.TheVariants.{LoadRequest, LoadResponse, StoreRequest, StoreResponse}
use Rattle.memory_histories.specs.declared.events.Rest.{Rest}
use Rattle.memory_histories.specs.declared.events.Rest.TheVariants.{Zeros}
use Rattle.memory_histories.specs.declared.events.HistoryFault.{HistoryFault}
use Rattle.memory_histories.specs.declared.windows.StoreByte.{StoreByte}
use Rattle.memory_histories.specs.declared.windows.LoadByte.{LoadByte}
use Rattle.memory_histories.specs.Windows.{Windows, opening, cons_if, store_bytes, load_byte, is_open, is_of, after_response}
use Rattle.memory_histories.specs.Windows.{windows_after}
use Rattle.memory_histories.specs.Regular.{is_before, overwrites, is_overwritten, is_left, is_covered, is_initial, may_return_byte}
use Rattle.memory_histories.specs.Regular.{may_return}
use Rattle.memory_histories.specs.Regular.{load_response_fault}
use Rattle.memory_histories.specs.Regular.{store_response_fault, wrong_place, fault, regular_run}
use Rattle.memory_histories.proofs.Lists.{filter-map}
use Rattle.atomic_histories.specs.declared.unit.UnitPlace.{UnitPlace}
use Rattle.atomic_histories.specs.Stands.{Each}
use Rattle.atomic_histories.proofs.Lists.{filter_swap}
use Rattle.atomic_histories.proofs.Links.{is_allowed}
use Rattle.history_reasons.specs.Sources.{gives}
use Rattle.history_laws.specs.Cuts.{Cut, stays_from, is_alike, has_mark_of_request, lacks_giver, is_within, has_givers}
use Rattle.history_laws.specs.Cuts.{is_closed_from, CutIsRegular}
use Rattle.history_laws.proofs.Lists.{kept_same}
use Rattle.history_laws.proofs.Pieces.{no_wrong_place}
use Rattle.history_laws.proofs.Flat.{response_parts, no_place, place_none}
use Rattle.history_laws.proofs.Sources.{closed_over}

-- Lists. ----

-- of what is left of a list, and told otherwise, none passes if none did, and one passes if one did that is left
none_kept : {X Y : Type 0} (f : X → Y) (keep p : X → Bool) (q : Y → Bool) → ((x : X) → q (f x) ≡ true → p x ≡ true) → (xs : List X)
    → list_any p xs ≡ false → list_any q (map f (filter keep xs)) ≡ false
none_kept f keep p q g [] h = refl
none_kept f keep p q g (x ∷ xs) h =
    let r = or_parts (p x) _ h in
    elim (cases_Bool (keep x)) [
      | inl e ↦ rw (e, false_from_ne_true (q (f x)) (λ t. both_ways (p x) r.0 (g x t))) (none_kept f keep p q g xs r.1)
      | inr e ↦ rw e (none_kept f keep p q g xs r.1)
    ]

one_kept : {X Y : Type 0} (f : X → Y) (keep p : X → Bool) (q : Y → Bool) → ((x : X) → p x ≡ true → q (f x) ≡ true) → (xs : List X)
    → list_any p xs ≡ true → list_any (λ x. not (keep x) && p x) xs ≡ false → list_any q (map f (filter keep xs)) ≡ true
one_kept f keep p q g [] h n = cc
one_kept f keep p q g (x ∷ xs) h n =
    let r = or_parts (not (keep x) && p x) _ n in
    elim (cases_Bool (keep x)) [
      | inl e ↦ elim (cases_Bool (p x)) [
        | inl t ↦ rw (e, g x t) refl
        | inr t ↦ rw (e, one_kept f keep p q g xs (rw t at h) r.1) (or-true (q (f x)))
      ]
      | inr e ↦ let z : p x ≡ false = (rw e at r.0) in rw e (one_kept f keep p q g xs (rw z at h) r.1)
    ]

untrue : (b : Bool) → not b ≡ true → b ≡ false
untrue true h = cc
untrue false h = refl

-- an answer's mark, of each operation that it may answer
none_lost : {X : Type 0} (keep p : X → Bool) (xs : List X) → list_all (λ x. not (p x) || is_alike (keep x) true) xs ≡ true
    → list_any (λ x. not (keep x) && p x) xs ≡ false
none_lost keep p [] h = refl
none_lost keep p (x ∷ xs) h = let r = and_parts _ _ h in rw (small (keep x) (p x) r.0) (none_lost keep p xs r.1)
  where
    small : (k p : Bool) → (not p || is_alike k true) ≡ true → (not k && p) ≡ false
    small true p h = refl
    small false true h = cc
    small false false h = refl

none_on : {X : Type 0} (keep p : X → Bool) (c : Bool) → c ≡ false → (xs : List X)
    → list_all (λ x. not (p x) || is_alike (keep x) c) xs ≡ true → list_any (λ x. keep x && p x) xs ≡ false
none_on keep p c e [] h = refl
none_on keep p c e (x ∷ xs) h = let r = and_parts _ _ h in rw (small (keep x) (p x) c e r.0) (none_on keep p c e xs r.1)
  where
    small : (k p c : Bool) → c ≡ false → (not p || is_alike k c) ≡ true → (k && p) ≡ false
    small true true true e h = cc
    small true true false e h = cc
    small true false c e h = refl
    small false p c e h = refl

marks_off : {X : Type 0} (keep p : X → Bool) (c : Bool) → c ≡ false → (xs : List X)
    → list_all (λ x. not (p x) || is_alike (keep x) c) xs ≡ true → Each (λ x. not (p x) ≡ false → keep x ≡ false) xs
marks_off keep p c e [] h = tt
marks_off keep p c e (x ∷ xs) h = let r = and_parts _ _ h in (small (keep x) (p x) c e r.0, marks_off keep p c e xs r.1)
  where
    small : (k p c : Bool) → c ≡ false → (not p || is_alike k c) ≡ true → not p ≡ false → k ≡ false
    small true true true e h n = cc
    small true true false e h n = cc
    small true false c e h n = cc
    small false p c e h n = refl

all_kept : {X : Type 0} (keep p : X → Bool) (xs : List X) → list_any (λ x. not (keep x) && p x) xs ≡ false
    → filter keep (filter p xs) ≡ filter p xs
all_kept keep p [] h = refl
all_kept keep p (x ∷ xs) h =
    let r = or_parts (not (keep x) && p x) _ h in
    elim (cases_Bool (p x)) [
      | inl t ↦ elim (cases_Bool (keep x)) [
        | inl e ↦ rw (t, e) (ap (λ y. x ∷ y) (all_kept keep p xs r.1))
        | inr e ↦ let z = r.0 in let no_way : true ≡ false = (rw (e, t) at z) in cc
      ]
      | inr t ↦ rw t (all_kept keep p xs r.1)
    ]

answers_one : (b : Bool) → store_response_fault b ≡ None → b ≡ true
answers_one true h = refl
answers_one false h = cc

run_fault : (w : Windows) (event : HistoryEvent) (events : List HistoryEvent) → IsTrue (is_some (regular_run w (event ∷ events)))
    → (fault w event ≡ None) × IsTrue (is_some (regular_run (windows_after w event) events))
run_fault w event events h = go (fault w event) refl h
  where
    go : (o : Option HistoryFault) → fault w event ≡ o → IsTrue (is_some (option_and_then (λ v. regular_run v events) (if is_none o then
        Some (windows_after w event) else None))) → (fault w event ≡ None) × IsTrue (is_some (regular_run (windows_after w event) events))
    go None e h = (e, h)
    go (Some x) e h = cc

-- Moments. ----

module _ (stays : Cut) where
  -- how many events before a moment stay
  abbrev count : ℕ → ℕ
  count zero = 0
  count (suc t) = count t + (if stays t then 1 else 0)

  count_next : (t : ℕ) (c : Bool) → stays t ≡ c → count (t + 1) ≡ count t + (if c then 1 else 0)
  count_next t c h =
      let next : t + 1 ≡ suc t = omega arith in
      ap count next ∙ ap (λ x. count t + (if x then 1 else 0)) h

  count_up : (a b : ℕ) → a ≤ b → count a ≤ count b
  count_up a zero h = let z : a ≡ zero = omega arith in subst (λ x. count x ≤ count zero) (sym z) (omega arith)
  count_up a (suc b) h = elim (cases_Bool (nat_le a b)) [
    | inl e ↦ let r = count_up a b (leb-true a b e) in omega arith
    | inr e ↦ let l = leb-false a b e in let z : a ≡ suc b = omega arith in subst (λ x. count x ≤ count (suc b)) (sym z) (omega arith)
  ]

  before_count : (a b : ℕ) → nat_lt (count a) (count b) ≡ true → nat_lt a b ≡ true
  before_count a b h = elim (cases_Bool (nat_lt a b)) [
    | inl e ↦ e
    | inr e ↦ let r = count_up b a (ltb-false a b e) in let l = ltb-true (count a) (count b) h in absurd (omega arith)
  ]

  -- a byte by the moments of what stays
  abbrev told : StoreByte → StoreByte
  told s = record { number = s.number; address = s.address; byte = s.byte; began = count s.began; ended = option_map count s.ended }

  abbrev told_load : LoadByte → LoadByte
  told_load l = record { number = l.number; address = l.address; began = count l.began; enabled = l.enabled }

  abbrev store_stays : StoreByte → Bool
  store_stays s = stays s.began

  abbrev load_stays : LoadByte → Bool
  load_stays l = stays l.began

  abbrev kept_stores : List StoreByte → List StoreByte
  kept_stores ss = map told (filter store_stays ss)

  abbrev kept_loads : List LoadByte → List LoadByte
  kept_loads ls = map told_load (filter load_stays ls)

  -- the windows of what stays
  abbrev kept : Windows → Windows
  kept w = record {
    image = w.image;
    rest = w.rest;
    moment = count w.moment;
    stores = kept_stores w.stores;
    loads = kept_loads w.loads;
  }

  -- What a load may return. ----

  before_told : (e : Option ℕ) (b : ℕ) → is_before (option_map count e) (count b) ≡ true → is_before e b ≡ true
  before_told None b h = h
  before_told (Some e) b h = before_count e b h

  overwritten_told : (ss : List StoreByte) (s : StoreByte) (t : ℕ) → is_overwritten ss s t ≡ false
      → is_overwritten (kept_stores ss) (told s) (count t) ≡ false
  overwritten_told ss s t h =
      none_kept told store_stays (overwrites s t) (overwrites (told s) (count t)) (λ o h.
      let p = and_parts _ _ h in
      let q = and_parts _ _ p.1 in
      and_from _ _ p.0 (and_from _ _ (before_told s.ended o.began q.0) (before_told o.ended t q.1))) ss h

  gives_told : (ss : List StoreByte) (l : LoadByte) (b : ℕ) (s : StoreByte) → gives ss l b s ≡ true
      → gives (kept_stores ss) (told_load l) b (told s) ≡ true
  gives_told ss l b s h =
      let p = and_parts _ _ h in
      let q = and_parts _ _ p.1 in
      and_from _ _ p.0 (and_from _ _ q.0 (ap not (overwritten_told ss s l.began (untrue _ q.1))))

  may_told : (image : List ℕ) (rest : Rest) (ss : List StoreByte) (l : LoadByte) (b : ℕ) → may_return_byte image rest ss l b ≡ true
      → lacks_giver stays ss l b ≡ false → may_return_byte image rest (kept_stores ss) (told_load l) b ≡ true
  may_told image rest ss l b h lost = elim (cases_Bool (is_left ss l b)) [
    | inl e ↦
        let left : is_left (kept_stores ss) (told_load l) b ≡ true =
        one_kept told store_stays (gives ss l b) (gives (kept_stores ss) (told_load l) b) (gives_told ss l b) ss e lost in
        rw left refl
    | inr e ↦
        let p = and_parts (is_initial (slice_get image l.address) rest b) _ (rw e at h) in
        let bare : is_covered (kept_stores ss) (told_load l) ≡ false =
        none_kept told store_stays (λ s. (s.address == l.address) && is_before s.ended l.began) (λ s. (s.address == l.address)
        && is_before s.ended (count l.began)) (λ s x. let q = and_parts _ _ x in
        and_from _ _ q.0 (before_told s.ended l.began q.1)) ss (untrue _ p.1) in
        rw (p.0, bare) (or-true (is_left (kept_stores ss) (told_load l) b))
  ]

  -- Faults. ----

  open_told : (e : Option ℕ) → is_none (option_map count e) ≡ is_none e
  open_told None = refl
  open_told (Some e) = refl

  any_told : (w : Windows) (l : LoadByte) (b : ℕ) → may_return w l b ≡ true → lacks_giver stays w.stores l b ≡ false
      → may_return (kept w) (told_load l) b ≡ true
  any_told w l b h lost = elim (cases_Bool l.enabled) [
    | inl t ↦ rw t (may_told w.image w.rest w.stores l b (rw t at h) lost)
    | inr f ↦ rw f refl
  ]

  -- each answered byte may be returned, if it has its giver
  zip_told : (w : Windows) (ls : List LoadByte) (bs : List ℕ) → Each (λ p. may_return w p.0 p.1 ≡ true) (zip ls bs)
      → ((unit : UnitPlace) → list_all (λ p. not (is_within unit p.0.address && lacks_giver stays w.stores p.0 p.1)) (zip ls bs) ≡ true)
      → Each (λ p. may_return (kept w) p.0 p.1 ≡ true) (zip (map told_load ls) bs)
  zip_told w [] bs h g = tt
  zip_told w (l ∷ ls) [] h g = tt
  zip_told w (l ∷ ls) (b ∷ bs) h g =
      let at : UnitPlace = record { first = l.address; size = 1 } in
      let lost = lacks_giver stays w.stores l b in
      let here = and_parts (not (is_within at l.address && lost)) _ (g at) in
      let within : is_within at l.address ≡ true = and_from _ _ (le-leb l.address l.address (omega arith)) (lt-ltb l.address (l.address
      + 1) (omega arith)) in
      let has = false_from_ne_true lost (λ t. both_ways (is_within at l.address && lost) (untrue _ here.0) (and_from _ _ within t)) in
      (any_told w l b h.0 has, zip_told w ls bs h.1 (λ unit. (and_parts _ _ (g unit)).1))

  -- the bytes under a number, if they all stay
  loads_under_kept : (n : ℕ) (ls : List LoadByte) → list_any (λ l. not (load_stays l) && is_of n l) ls ≡ false
      → filter (is_of n) (kept_loads ls) ≡ map told_load (filter (is_of n) ls)
  loads_under_kept n ls h =
      filter-map told_load (is_of n) (filter load_stays ls) ∙ ap (map told_load) (filter_swap load_stays (is_of n) ls ∙
      all_kept load_stays (is_of n) ls h)

  marks_on : {X : Type 0} (keep p : X → Bool) (c : Bool) → c ≡ true → (xs : List X)
      → list_all (λ x. not (p x) || is_alike (keep x) c) xs ≡ true → list_any (λ x. not (keep x) && p x) xs ≡ false
  marks_on keep p c e xs h = none_lost keep p xs (subst (λ d. list_all (λ x. not (p x) || is_alike (keep x) d) xs ≡ true) e h)

  fault_kept : (w : Windows) (event : HistoryEvent) → stays w.moment ≡ true → has_mark_of_request stays w event ≡ true
      → ((unit : UnitPlace) → has_givers unit stays w event ≡ true) → fault w event ≡ None → fault (kept w) event ≡ None
  fault_kept w (LoadRequest n a len en) t marks g f =
      let p = is_allowed _ _ _ f in
      let fresh : list_any (is_of n) (kept_loads w.loads) ≡ false =
      none_kept told_load load_stays (is_of n) (is_of n) (λ l h. h) w.loads p.1.1 in
      rw (p.0, p.1.0, fresh) refl
  fault_kept w (StoreRequest n a bytes es) t marks g f =
      let p = is_allowed _ _ _ f in
      let fresh : list_any (is_open n) (kept_stores w.stores) ≡ false =
      none_kept told store_stays (is_open n) (is_open n) (λ s h. (rw (open_told s.ended) at h)) w.stores p.1.1 in
      rw (p.0, p.1.0, fresh) refl
  fault_kept w (StoreResponse n) t marks g f =
      let there : list_any (is_open n) (kept_stores w.stores) ≡ true =
      one_kept told store_stays (is_open n) (is_open n) (λ s h. rw (open_told s.ended) h) w.stores (answers_one _ f)
      (marks_on store_stays (is_open n) (stays w.moment) t w.stores marks) in
      rw there refl
  fault_kept w (LoadResponse n bytes) t marks g f =
      let ls = filter (is_of n) w.loads in
      let p = response_parts (may_return w) ls bytes.now f in
      let same = loads_under_kept n w.loads (marks_on load_stays (is_of n) (stays w.moment) t w.loads marks) in
      let paid = no_place (may_return w) (zip ls bytes.now) (place_none (may_return w) (zip ls bytes.now) p.1.1) in
      let kept_paid = zip_told w ls bytes.now paid (λ unit. let u = g unit in (rw t at u)) in
      let long : length (map told_load ls) ≡ length ls = length-map ls told_load in
      let some : (length (map told_load ls) == 0) ≡ false = ap (λ x. x == 0) long ∙ p.0 in
      let all : (length (map told_load ls) == length bytes.now) ≡ true = eq-eqb (length (map told_load ls)) (length bytes.now) (long
      ∙ p.1.0) in
      let right : wrong_place (may_return (kept w)) (map told_load ls) bytes.now ≡ None = no_wrong_place (may_return (kept w)) (zip (map
      told_load ls) bytes.now) kept_paid in
      ap (λ x. load_response_fault (may_return (kept w)) x bytes.now) same ∙ rw (some, all, right) refl

  -- Windows. ----

  parted : {X Y : Type 0} (f : X → Y) (p : X → Bool) (xs ys : List X) → map f (filter p (xs ++ ys)) ≡ map f (filter p xs)
      ++ map f (filter p ys)
  parted f p xs ys = ap (map f) (filter-append p xs ys) ∙ map-append f (filter p xs) (filter p ys)

  loads_told : (n x en t : ℕ) (c : Bool) → stays t ≡ c → (len a : ℕ)
      → kept_loads (map (load_byte n x en t) (range_with_len a len)) ≡ (if c then map (load_byte n x en (count t)) (range_with_len a len)
      else [])
  loads_told n x en t true e zero a = refl
  loads_told n x en t false e zero a = refl
  loads_told n x en t true e (suc len) a = rw e (ap (λ y. told_load (load_byte n x en t a) ∷ y) (loads_told n x en t true e len (a + 1)))
  loads_told n x en t false e (suc len) a = rw e (loads_told n x en t false e len (a + 1))

  bytes_told : (n t : ℕ) (c : Bool) → stays t ≡ c → (bs : List ℕ) (a es : ℕ) → kept_stores (store_bytes n a bs es t) ≡ (if c then
      store_bytes n a bs es (count t) else [])
  bytes_told n t true e [] a es = refl
  bytes_told n t false e [] a es = refl
  bytes_told n t c e (b ∷ bs) a es = told_if (es % 2 == 1) (record { number = n; address = a; byte = b; began = t; ended = None }) c e
      (store_bytes n (a + 1) bs (es / 2) t) (store_bytes n (a + 1) bs (es / 2) (count t)) (bytes_told n t c e bs (a + 1) (es / 2))
    where
      told_if : (d : Bool) (s : StoreByte) (c : Bool) → stays s.began ≡ c → (ss more : List StoreByte)
          → kept_stores ss ≡ (if c then more else []) → kept_stores (cons_if d s ss) ≡ (if c then cons_if d (told s) more else [])
      told_if true s true e ss more h = rw e (ap (λ x. told s ∷ x) h)
      told_if true s false e ss more h = rw e h
      told_if false s true e ss more h = h
      told_if false s false e ss more h = h

  answered_told : (n t : ℕ) (s : StoreByte) → after_response n (count t) (told s) ≡ told (after_response n t s)
  answered_told n t s = elim (cases_Bool (is_open n s)) [
    | inl e ↦
        let same : is_open n (told s) ≡ true = rw (open_told s.ended) e in
        rw (e, same) refl
    | inr e ↦
        let same : is_open n (told s) ≡ false = rw (open_told s.ended) e in
        rw (e, same) refl
  ]

  answered_began : (n t : ℕ) (s : StoreByte) → (after_response n t s).began ≡ s.began
  answered_began n t s = elim (cases_Bool (is_open n s)) [ inl e ↦ rw e refl | inr e ↦ rw e refl ]

  stores_answered : (n t : ℕ) (ss : List StoreByte) → map (after_response n (count t)) (kept_stores ss) ≡ kept_stores (map (after_response n
      t) ss)
  stores_answered n t [] = refl
  stores_answered n t (s ∷ ss) = elim (cases_Bool (stays s.began)) [
    | inl e ↦ rw (answered_began n t s, e) (cc (answered_told n t s, stores_answered n t ss))
    | inr e ↦ rw (answered_began n t s, e) (stores_answered n t ss)
  ]

  -- the answer of a store that is left out
  stores_unanswered : (n t : ℕ) (ss : List StoreByte) → list_any (λ s. store_stays s && is_open n s) ss ≡ false
      → kept_stores ss ≡ kept_stores (map (after_response n t) ss)
  stores_unanswered n t [] h = refl
  stores_unanswered n t (s ∷ ss) h =
      let r = or_parts (store_stays s && is_open n s) _ h in
      elim (cases_Bool (stays s.began)) [
        | inl e ↦
            let shut : is_open n s ≡ false = (rw e at r.0) in
            let same : after_response n t s ≡ s = rw shut refl in
            rw (same, e) (ap (λ x. told s ∷ x) (stores_unanswered n t ss r.1))
        | inr e ↦ rw (answered_began n t s, e) (stores_unanswered n t ss r.1)
      ]

  made : (w : Windows) (moment : ℕ) (stores : List StoreByte) (loads : List LoadByte) (v : Windows) → v.image ≡ w.image → v.rest ≡ w.rest
      → v.moment ≡ moment → v.stores ≡ stores → v.loads ≡ loads
      → v ≡ record { image = w.image; rest = w.rest; moment = moment; stores = stores; loads = loads }
  made w moment stores loads v i r m s l = λ k. record { image = i k; rest = r k; moment = m k; stores = s k; loads = l k }

  after_kept : (w : Windows) (event : HistoryEvent) → stays w.moment ≡ true → has_mark_of_request stays w event ≡ true
      → windows_after (kept w) event ≡ kept (windows_after w event)
  after_kept w (LoadRequest n a len en) t marks =
      made w _ _ _ (windows_after (kept w) (LoadRequest n a len en)) refl refl (sym (count_next w.moment true t)) refl
      (sym (parted told_load load_stays w.loads _ ∙ ap (λ x. kept_loads w.loads ++ x) (loads_told n a en w.moment true t len a)))
  after_kept w (LoadResponse n bytes) t marks =
      made w _ _ _ (windows_after (kept w) (LoadResponse n bytes)) refl refl (sym (count_next w.moment true t)) refl
      (filter-map told_load (λ l. not (is_of n l)) (filter load_stays w.loads) ∙ ap (map told_load) (filter_swap load_stays (λ l.
      not (is_of n l)) w.loads))
  after_kept w (StoreRequest n a bytes es) t marks =
      made w _ _ _ (windows_after (kept w) (StoreRequest n a bytes es)) refl refl (sym (count_next w.moment true t))
      (sym (parted told store_stays w.stores _ ∙ ap (λ x. kept_stores w.stores ++ x) (bytes_told n w.moment true t bytes.now a es))) refl
  after_kept w (StoreResponse n) t marks =
      made w _ _ _ (windows_after (kept w) (StoreResponse n)) refl refl (sym (count_next w.moment true t)) (stores_answered n w.moment
      w.stores) refl

  count_same : (t : ℕ) → stays t ≡ false → count t ≡ count (t + 1)
  count_same t e = let r = count_next t false e in omega arith

  after_left : (w : Windows) (event : HistoryEvent) → stays w.moment ≡ false → has_mark_of_request stays w event ≡ true
      → kept w ≡ kept (windows_after w event)
  after_left w (LoadRequest n a len en) t marks =
      made w _ _ _ (kept w) refl refl (count_same w.moment t) refl (sym (parted told_load load_stays w.loads _ ∙ (ap (λ x.
      kept_loads w.loads ++ x) (loads_told n a en w.moment false t len a) ∙ append-nil _)))
  after_left w (LoadResponse n bytes) t marks =
      made w _ _ _ (kept w) refl refl (count_same w.moment t) refl (ap (map told_load) (kept_same load_stays (λ l.
      not (is_of n l)) w.loads (marks_off load_stays (is_of n) (stays w.moment) t w.loads marks)))
  after_left w (StoreRequest n a bytes es) t marks =
      made w _ _ _ (kept w) refl refl (count_same w.moment t) (sym (parted told store_stays w.stores _ ∙ (ap (λ x.
      kept_stores w.stores ++ x) (bytes_told n w.moment false t bytes.now a es) ∙ append-nil _))) refl
  after_left w (StoreResponse n) t marks =
      made w _ _ _ (kept w) refl refl (count_same w.moment t) (stores_unanswered n w.moment w.stores (none_on store_stays (is_open n) (stays
      w.moment) t w.stores marks)) refl

  -- The law. ----

  run_kept : (w v : Windows) (history : List HistoryEvent) → ((unit : UnitPlace) → is_closed_from unit stays w history ≡ true)
      → IsTrue (is_some (regular_run w history)) → v ≡ kept w → IsTrue (is_some (regular_run v (stays_from stays w.moment history)))
  run_kept w v [] z h e = refl
  run_kept w v (event ∷ events) z h e =
      let f = run_fault w event events h in
      let marks = (and_parts _ _ (and_parts _ _ (z (record { first = 0; size = 1 }))).0).0 in
      let given : (unit : UnitPlace) → has_givers unit stays w event ≡ true = λ u. (and_parts _ _ (and_parts _ _ (z u)).0).1 in
      let more : (unit : UnitPlace) → is_closed_from unit stays (windows_after w event) events ≡ true = λ u. (and_parts _ _ (z u)).1 in
      elim (cases_Bool (stays w.moment)) [
        | inl t ↦
            let none : fault v event ≡ None = subst (λ x. fault x event ≡ None) (sym e) (fault_kept w event t marks given f.0) in
            let next = run_kept (windows_after w event) (windows_after v event) events more f.1 (ap (λ x. windows_after x event) e ∙
            after_kept w event t marks) in
            rw (t, none) next
        | inr t ↦ rw t (run_kept (windows_after w event) v events more f.1 (e ∙ after_left w event t marks))
      ]

pub cut_is_regular : (image : List ℕ) (rest : Rest) (stays : Cut) (history : List HistoryEvent) → CutIsRegular image rest stays history
cut_is_regular image rest stays history = λ closed h.
    run_kept stays (opening image rest) (opening image rest) history (λ unit. closed_over image rest unit stays (opening [] Zeros) history ∙
    closed unit) h refl
