-- An event on a way: it leads to what the law makes of its states with the event, and to nothing else.
use Rattle.std.proofs.Common.{◌≡◌, ℕ, ◌⊎◌, false, List, [], ◌∷◌, ◌++◌, map, Option, Some, None, inl, inr, refl, sym, ap, ◌∙◌, subst, Bool}
use Rattle.std.proofs.Common.{arith, true, ◌&&◌, ◌||◌, not, filter, append_assoc}
use Rattle.atomic_histories.specs.declared.unit.OpenStore.{OpenStore}
use Rattle.atomic_histories.specs.declared.unit.LoadAddress.{LoadAddress}
use Rattle.atomic_histories.specs.Words.{written}
use Rattle.atomic_histories.specs.Law.{OpenLoad, UnitMemory, HiddenStep, done_store, done_load, is_store, may_answer_store, with_load}
use Rattle.atomic_histories.specs.Law.{with_store, without_store}
use Rattle.atomic_histories.specs.Branches.{Watched, Branch, with_word, effect_of, has_effect, branch_without_store, branch_with_load}
use Rattle.atomic_histories.specs.Branches.{branch_with_store}
use Rattle.atomic_histories.specs.Stands.{MayHaveGot, IsWatched, AreWatched, IsOn, Leads, now, later}
use Rattle.std.specs.List.{list_all}
use Rattle.std.proofs.lemmas.Bool.{and_parts, and_from}
use Rattle.std.proofs.lemmas.List.{map-append}
use Rattle.std.proofs.lemmas.List.Elements.{filter-append}
use Rattle.std.proofs.lemmas.List.Folds.{list_all-append}
use Rattle.std.proofs.Math.Bool.{or-true}

abbrev Word : Type 0
Word = List (Option ℕ)

-- The word is overwritten. ----

got_more : (w v : Word) (past : List Word) (g : Option Word) → MayHaveGot w past g → MayHaveGot v (w ∷ past) g
got_more w v past x3 h = grind arith

watched_on : (w v : Word) (ls : List Watched) (ms : List OpenLoad) → AreWatched w ls ms → AreWatched v (map (with_word w) ls) ms
watched_on w v [] [] h = tt
watched_on w v (l ∷ ls) (m ∷ ms) h = grind (arith, watched_on w v ls ms h.1, got_more)
watched_on w v _ _ h = absurd h

-- A way still leads to what hidden steps make. ----

load_took : (w : Word) (ls : List Watched) (before : List OpenLoad) (m : OpenLoad) (after : List OpenLoad)
    → AreWatched w ls (before ++ m ∷ after) → AreWatched w ls (before ++ done_load w m ∷ after)
load_took w [] [] m after h = absurd h
load_took w [] (b ∷ bs) m after h = absurd h
load_took w (l ∷ ls) [] m after h = ((h.0.0, h.0.1, inl refl), h.1)
load_took w (l ∷ ls) (b ∷ bs) m after h = (h.0, load_took w ls bs m after h.1)

pub leads_on : {e : Branch} {m : UnitMemory} (n : UnitMemory) → Leads e m → HiddenStep m n → Leads e n
leads_on {e} {m} n (now o) (inl (before, s, after, split, open_, made)) =
    let on : IsOn _
    (record { word = written s.bytes _; stores = before ++ done_store s ∷ after; loads = m.loads }) = record {
      word = ap (written s.bytes) o.word;
      stores = refl;
      loads = watched_on e.word _ e.loads _ o.loads;
    } in
    subst (λ x. Leads e x) (sym made) (later before s after (o.stores ∙ split) open_ (now on))
leads_on {e} {m} n (now o) (inr (before, l, after, split, open_, made)) =
    let h = subst (λ x. AreWatched e.word e.loads x) split o.loads in
    let t =
    subst (λ x. AreWatched e.word e.loads (before ++ done_load x l ∷ after)) o.word (load_took e.word e.loads before l after h) in
    let on : IsOn e (record { word = m.word; stores = m.stores; loads = before ++ done_load _ l ∷ after }) =
    record { word = o.word; stores = o.stores; loads = t } in
    subst (λ x. Leads e x) (sym made) (now on)
leads_on {e} {m} n (later before s after split open_ r) step = later before s after split open_ (leads_on n r step)

-- A way leads to nothing else. ----

-- loads that are the same, or took effect now
abbrev HaveTaken : Word → List OpenLoad → List OpenLoad → Type 0
HaveTaken w [] [] = Unit {0}
HaveTaken w (m ∷ ms) (n ∷ ns) = ((m ≡ n) ⊎ ((m.got ≡ None) × (n ≡ done_load w m))) × HaveTaken w ms ns
HaveTaken w _ _ = ⊥

-- what holds whatever load takes effect, one at a time, holds once several have
pub take_all : (Q : List OpenLoad → Type 0) (w : Word)
    → ((before : List OpenLoad) (l : OpenLoad) (after : List OpenLoad) → l.got ≡ None → Q (before ++ l ∷ after)
    → Q (before ++ done_load w l ∷ after))
    → (ms ns : List OpenLoad) → HaveTaken w ms ns → Q ms → Q ns
take_all Q w c [] [] t q = q
take_all Q w c (m ∷ ms) (n ∷ ns) t q =
    let first : Q _ = elim t.0 [
      | inl e ↦ subst (λ x. Q (x ∷ ms)) e q
      | inr p ↦ subst (λ x. Q (x ∷ ms)) (sym p.1) (c [] m ms p.0 q)
    ] in
    take_all (λ xs. Q (n ∷ xs)) w (λ before l after e x. c (n ∷ before) l after e x) ms ns t.1 first
take_all Q w c _ _ t q = absurd t

-- a load, before the word was overwritten
before_effect : (w v : Word) (l : Watched) (m : OpenLoad) (g : Option Word) → m.got ≡ g → IsWatched v (with_word w l) m
    → MayHaveGot v (w ∷ l.words) g
    → (m0 : OpenLoad) × (IsWatched w l m0 × ((m0 ≡ m) ⊎ ((m0.got ≡ None) × (m ≡ done_load v m0))))
before_effect w v l m None e h g = grind arith
before_effect w v l m (Some x) e h (inl x_v) =
    let made : m ≡ record { number = m.number; address = m.address; got = Some v } =
    ap (λ y. record { number = m.number; address = m.address; got = y }) (e ∙ ap Some x_v) in
    (record { number = m.number; address = m.address; got = None }, ((h.0, h.1, tt), inr (refl, made)))
before_effect w v l m (Some x) e h (inr o) = grind arith

before_effects : (w v : Word) (ls : List Watched) (ms : List OpenLoad) → AreWatched v (map (with_word w) ls) ms
    → (ms0 : List OpenLoad) × (AreWatched w ls ms0 × HaveTaken v ms0 ms)
before_effects w v [] [] h = ([], (tt, tt))
before_effects w v (l ∷ ls) (m ∷ ms) h =
    let one = before_effect w v l m m.got refl h.0 h.0.2 in
    let rest = before_effects w v ls ms h.1 in
    (one.0 ∷ rest.0, ((one.1.0, rest.1.0), (one.1.1, rest.1.1)))
before_effects w v _ _ h = absurd h

pub sound_effect : (P : UnitMemory → Type 0) → ((m n : UnitMemory) → P m → HiddenStep m n → P n)
    → (e : Branch) (before : List OpenStore) (s : OpenStore) (after : List OpenStore)
    → ((m : UnitMemory) → IsOn e m → P m) → e.stores ≡ before ++ s ∷ after → s.is_done ≡ false → (n : UnitMemory)
    → IsOn (effect_of e before s after) n → P n
sound_effect P closed e before s after sound split open_ n o =
    let v : Word = written s.bytes e.word in
    let stores : List OpenStore = before ++ done_store s ∷ after in
    let b = before_effects e.word v e.loads n.loads o.loads in
    let m0 : UnitMemory = record { word = e.word; stores = e.stores; loads = b.0 } in
    let m1 : UnitMemory = record { word = v; stores = stores; loads = b.0 } in
    let p0 : P m0 = grind arith in
    let p1 : P m1 = grind arith in
    let Q : List OpenLoad → Type 0 = λ ls. P (record { word = v; stores = stores; loads = ls }) in
    let q : Q n.loads = take_all Q v (λ bs l as_ g x. closed _ _ x (inr (bs, l, as_, refl, g, refl))) b.0 n.loads b.1.1 p1 in
    subst (λ w. P (record { word = w; stores = n.stores; loads = n.loads })) o.word
    (rw o.stores at q)

-- Events. ----

-- A load is requested. ----

watched_push : (w : Word) (ls : List Watched) (ms : List OpenLoad) (l : Watched) (m : OpenLoad)
    → AreWatched w ls ms → IsWatched w l m → AreWatched w (ls ++ l ∷ []) (ms ++ m ∷ [])
watched_push w [] [] l m h i = (i, tt)
watched_push w (k ∷ ks) (n ∷ ns) l m h i = (h.0, watched_push w ks ns l m h.1 i)
watched_push w _ _ l m h i = absurd h

-- a way with one more load
abbrev with_watched : Watched → Branch → Branch
with_watched l e = record { word = e.word; stores = e.stores; loads = e.loads ++ l ∷ [] }

leads_watched : (l : Watched) {e : Branch} {m : UnitMemory} → Leads e m → Leads (with_watched l e) (with_load l.number l.address m)
leads_watched l {e} {m} (now o) =
    now (record {
      word = o.word;
      stores = o.stores;
      loads = grind (arith, watched_push);
    })
leads_watched l {e} {m} (later before s after split open_ r) =
    let n = with_load l.number l.address m in
    later before s after split open_
    (rw (sym (map-append (with_word e.word) e.loads (l ∷ []))) at (leads_watched (with_word e.word l) r))

pub leads_with_load : (number : ℕ) (address : LoadAddress) (e : Branch) (m : UnitMemory) → Leads e m
    → Leads (branch_with_load number address e) (with_load number address m)
leads_with_load number address e m r = leads_watched (record { number = number; address = address; words = [] }) r

watched_pop : (w : Word) (ls : List Watched) (l : Watched) (ns : List OpenLoad) → AreWatched w (ls ++ l ∷ []) ns
    → (ms : List OpenLoad) × (m : OpenLoad) × (ns ≡ ms ++ m ∷ []) × AreWatched w ls ms × IsWatched w l m
watched_pop w [] l [] h = absurd h
watched_pop w (x ∷ xs) l [] h = absurd h
watched_pop w [] l (n ∷ []) h = ([], n, refl, tt, h.0)
watched_pop w [] l (n ∷ k ∷ ns) h = absurd h.1
watched_pop w (x ∷ xs) l (n ∷ ns) h = let r = watched_pop w xs l ns h.1 in (n ∷ r.0, r.1, ap (λ t. n ∷ t) r.2, (h.0, r.3), r.4)

-- a load that was requested now got nothing, or the word of now
got_now : (w : Word) (g : Option Word) → MayHaveGot w [] g → (g ≡ None) ⊎ (g ≡ Some w)
got_now w x1 h = grind arith

pub sound_with_load : (number : ℕ) (address : LoadAddress) (P Q : UnitMemory → Type 0) → ((m n : UnitMemory) → Q m → HiddenStep m n → Q n)
    → ((m : UnitMemory) → P m → Q (with_load number address m)) → (e : Branch)
    → ((m : UnitMemory) → IsOn e m → P m) → (n : UnitMemory) → IsOn (branch_with_load number address e) n → Q n
sound_with_load number address P Q closed seen e sound n o =
    let l : Watched = record { number = number; address = address; words = [] } in
    let r = watched_pop e.word e.loads l n.loads o.loads in
    let ms : List OpenLoad = r.0 in
    let x : OpenLoad = r.1 in
    let new : OpenLoad = record { number = number; address = address; got = None } in
    let m0 : UnitMemory = record { word = n.word; stores = n.stores; loads = ms } in
    let q : Q (record { word = n.word; stores = n.stores; loads = ms ++ new ∷ [] }) =
    seen m0 (sound m0 (record { word = o.word; stores = o.stores; loads = r.3 })) in
    let is_new : (g : Option Word) → x.got ≡ g → x ≡ record { number = number; address = address; got = g } =
    λ g h. (λ i. record { number = sym r.4.0 i; address = sym r.4.1 i; got = h i }) in
    let whole : (y : OpenLoad) → x ≡ y → Q (record { word = n.word; stores = n.stores; loads = ms ++ y ∷ [] }) → Q n =
    λ y h k. subst (λ ls. Q (record { word = n.word; stores = n.stores; loads = ls })) (sym r.2)
    (rw (sym h) at k) in
    elim (got_now e.word x.got r.4.2) [
      | inl none ↦ whole new (is_new None none) q
      | inr some ↦ grind arith
    ]

-- A store is requested. ----

pub leads_with_store : (number : ℕ) (bytes : Word) {e : Branch} {m : UnitMemory} → Leads e m
    → Leads (branch_with_store number bytes e) (with_store number bytes m)
leads_with_store number bytes {e} {m} (now o) =
    now (record {
      word = o.word;
      stores = grind arith;
      loads =
          o.loads;
    })
leads_with_store number bytes {e} {m} (later before s after split open_ r) =
    let new = record { number = number; bytes = bytes; is_done = false } ∷ [] in
    let rest =
    leads_with_store number bytes r in
    let d = effect_of e before s after in
    later before s _ (ap (λ ss. ss ++ new) split ∙ append_assoc before _ new) open_
    (rw (append_assoc before (done_store s ∷ after) new) at rest)

pub sound_with_store : (number : ℕ) (bytes : Word) (P Q : UnitMemory → Type 0) → ((m : UnitMemory) → P m → Q (with_store number bytes m))
    → (e : Branch) → ((m : UnitMemory) → IsOn e m → P m)
    → (n : UnitMemory) → IsOn (branch_with_store number bytes e) n → Q n
sound_with_store number bytes P Q seen e sound n o =
    let m0 : UnitMemory = record { word = n.word; stores = e.stores; loads = n.loads } in
    let q : Q _ = seen m0 (sound m0 (record { word = o.word; stores = refl; loads = o.loads })) in
    subst (λ ss. Q (record { word = n.word; stores = ss; loads = n.loads })) o.stores q

-- A store is answered. ----

or_false_left : (a b : Bool) → b ≡ false → (not a || b) ≡ true → a ≡ false
or_false_left x0 b e h = grind arith

leads_without_store_at : (number : ℕ) {e : Branch} {m : UnitMemory} → may_answer_store number e.stores ≡ true → Leads e m
    → Leads (branch_without_store number e) (without_store number m)
leads_without_store_at number {e} {m} g (now o) =
    now (record { word = o.word; stores = ap (filter (λ s. not _)) o.stores; loads = o.loads })
leads_without_store_at number {e} {m} g (later before s after split open_ r) =
    let keep : OpenStore → Bool = λ x. not _ in
    let may : OpenStore → Bool = λ x. not _ || x.is_done in
    let d : Branch = effect_of e before s after in
    let all : (list_all may before && (may s && list_all may after)) ≡ true =
    sym (list_all-append may before (s ∷ after)) ∙ (ap (list_all may) (sym split) ∙ g) in
    let p = and_parts _ _ all in
    let q = and_parts _ _ p.1 in
    let other : is_store number s ≡ false = or_false_left _ s.is_done open_ q.0 in
    let kept : filter keep e.stores ≡ filter keep before ++ s ∷ filter keep after =
    ap (filter keep) split ∙ (filter-append keep before _ ∙ rw other refl) in
    let kept_done : filter keep (before ++ done_store s ∷ after) ≡ filter keep before ++ done_store s ∷ filter keep after =
    filter-append keep before _ ∙ rw other refl in
    let again : may_answer_store number _ ≡ true =
    list_all-append may before _
    ∙ and_from _ _ p.0
    (and_from (may (done_store s)) (list_all may after) (or-true (not (is_store number s))) q.1) in
    let rest : Leads _ _ = leads_without_store_at number again r in
    later _ s _ kept open_
    (rw kept_done at rest)

pub leads_without_store : (number : ℕ) (e : Branch) (m : UnitMemory) → has_effect number e ≡ true → Leads e m
    → Leads (branch_without_store number e) (without_store number m)
leads_without_store number e m g r = leads_without_store_at number g r

pub sound_without_store : (number : ℕ) (P Q : UnitMemory → Type 0)
    → ((m : UnitMemory) → P m → may_answer_store number m.stores ≡ true → Q (without_store number m)) → (e : Branch)
    → has_effect number e ≡ true
    → ((m : UnitMemory) → IsOn e m → P m) → (n : UnitMemory) → IsOn (branch_without_store number e) n → Q n
sound_without_store number P Q seen e g sound n o =
    let m0 : UnitMemory = record { word = n.word; stores = e.stores; loads = n.loads } in
    let q : Q _ = seen m0 (sound m0 (record { word = o.word; stores = refl; loads = o.loads })) g in
    subst (λ ss. Q (record { word = n.word; stores = ss; loads = n.loads })) o.stores q
