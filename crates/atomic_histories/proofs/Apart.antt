-- Each pair is followed once, and the open stores of all pairs are the same, but for whether they have taken effect.
use Rattle.atomic_histories.proofs.Found.{pair_decides, IsJoint, IsKept, each_with, met_sound}
use Rattle.std.proofs.lemmas.Bool.Decides.{not_from_Decides}
use Rattle.memory_histories.proofs.Lists.{filter-map}
use Rattle.std.proofs.Common.{◌≡◌, ℕ, zero, suc, Bool, true, false, ◌||◌, not, ◌==◌, if◌then◌else◌, List, [], ◌∷◌, ◌++◌, map, filter, arith}
use Rattle.std.proofs.Common.{fold, Option, Some, None, inl, inr, refl, sym, ap, ap₂, ◌∙◌}
use Rattle.std.proofs.lemmas.Bool.{cases_Bool, cond_both, and_parts}
use Rattle.std.proofs.lemmas.List.Folds.{fold_along}
use Rattle.std.proofs.lemmas.List.{map-append, same_from_push}
use Rattle.memory_histories.specs.declared.events.HistoryEvent.{HistoryEvent}
use Rattle.memory_histories.specs.declared.events.HistoryEvent.TheVariants.{LoadRequest, LoadResponse, StoreRequest, StoreResponse}
use Rattle.atomic_histories.specs.declared.unit.OpenStore.{OpenStore}
use Rattle.atomic_histories.specs.declared.unit.UnitPlace.{UnitPlace}
use Rattle.atomic_histories.specs.declared.unit.LoadAddress.{LoadAddress}
use Rattle.atomic_histories.specs.Words.{reads_from}
use Rattle.atomic_histories.specs.declared.unit.WatchedLoad.{WatchedLoad}
use Rattle.atomic_histories.specs.Law.{is_store, may_answer_store}
use Rattle.atomic_histories.specs.Followed.{Pair, Ways, Aim, with_pair, with_pairs, word_aim, next_of, out_after, met, rounds, pair_got}
use Rattle.atomic_histories.specs.Followed.{pair_missed, cons_any, gathered, with_hope, answered_load, answered_store, pair_without_store}
use Rattle.atomic_histories.specs.Followed.{pair_with_store, pair_cut, ways_with_load, ways_with_store, ways_after}
use Rattle.atomic_histories.specs.Stands.{Each, One, IsAsked, IsOther, AreApart, store_key, IsOfStores}
use Rattle.atomic_histories.proofs.Lists.{each_weaker, each_map, each_filter, each_both}

-- Lists in which each pair stands once. ----

apart_with : (es : List Pair) (e : Pair) → AreApart es → AreApart (with_pair es e)
apart_with [] e a = (tt, tt)
apart_with (f ∷ fs) e a = grind (arith, apart_with fs e a.1, each_with, not_from_Decides, pair_decides)

apart_withs : (es more : List Pair) → AreApart es → AreApart (with_pairs es more)
apart_withs es more a = fold_along with_pair {C = ℕ} (λ c e. c) (λ xs c. AreApart xs) (λ xs c e b. apart_with xs e b) es 0 more a

pub apart_out : (goal : Pair → Bool) (out es : List Pair) → AreApart out → AreApart (out_after goal out es)
apart_out goal out es a =
    fold_along _ {C = ℕ} (λ c e. c) (λ xs c. AreApart xs)
    (λ xs c e b. cond_both _ _ _ AreApart (λ t. apart_with xs e b) (λ f. b)) out 0 es a

pub apart_next : (loads : List WatchedLoad) (moment : ℕ) (aim : Aim) (next es : List Pair) → AreApart next
    → AreApart (fold (next_of loads moment aim) next es)
apart_next loads moment aim next es a =
    fold_along _ {C = ℕ} (λ c e. c) (λ xs c. AreApart xs)
    (λ xs c e b. cond_both (aim.goal e) _ _ AreApart (λ t. b) (λ f. apart_withs xs (filter aim.hope _) b)) next 0 es a

apart_met : (loads : List WatchedLoad) (moment n : ℕ) (aim : Aim) (out es : List Pair) → AreApart out
    → AreApart (met loads moment n aim out es)
apart_met loads moment zero aim out es a = a
apart_met loads moment (suc n) aim out es a =
    apart_met loads moment n aim _ _ (apart_out aim.goal out es a)

-- pairs that are changed one by one, and stay apart
apart_map : (R : Pair → Type 0) (f : Pair → Pair) → ((e g : Pair) → R e → R g → IsOther e g → IsOther (f e) (f g))
    → (es : List Pair) → Each R es → AreApart es → AreApart (map f es)
apart_map R f keeps [] r a = tt
apart_map R f keeps (e ∷ es) r a = (
  each_map f _ es (each_weaker (λ g. R g × IsOther e g) (λ g. IsOther (f e) (f g)) (λ g p. keeps e g r.0 p.0 p.1) es
      (each_both R (IsOther e) es r.1 a.0)),
  apart_map R f keeps es r.1 a.1,
)

-- pairs of which some go, and the pasts of the others change
abbrev KeepsPair : (Pair → Option Pair) → Type 0
KeepsPair f = (e g : Pair) → f e ≡ Some g → (e.word ≡ g.word) × (e.stores ≡ g.stores)

pub gathered_each : (Q R : Pair → Type 0) (f : Pair → Option Pair) → ((e g : Pair) → f e ≡ Some g → Q e → R g) → (es : List Pair)
    → Each Q es → Each R (gathered f es)
gathered_each Q R f k [] a = tt
gathered_each Q R f k (e ∷ es) a = grind (arith, gathered_each Q R f k es a.1)

pub gathered_one : (R : Pair → Type 0) (f : Pair → Option Pair) (es : List Pair) → One (λ e. (g : Pair) × (f e ≡ Some g) × R g) es
    → One R (gathered f es)
gathered_one R f [] h = absurd h
gathered_one R f (e ∷ es) (inl (g, s, r)) = rw s (inl r)
gathered_one R f (e ∷ es) (inr h) = grind (arith, gathered_one R f es h)

pub gathered_apart : (f : Pair → Option Pair) → KeepsPair f → (es : List Pair) → AreApart es → AreApart (gathered f es)
gathered_apart f keeps [] a = tt
gathered_apart f keeps (e ∷ es) a = put (f e) refl (gathered_apart f keeps es a.1)
  where
    put : (o : Option Pair) → f e ≡ o → AreApart (gathered f es) → AreApart (cons_any o (gathered f es))
    put None h r = r
    put (Some g) h r =
        let k = keeps e g h in (
          gathered_each _ _ f (λ d c i n w s. let j = keeps d c i in n (k.0 ∙ (w ∙ sym j.0)) (k.1 ∙ (s ∙ sym j.1))) es a.0,
          r,
        )

-- the ways to a pair on which a load may have got its answer, and the others
abbrev pub pair_part : Bool → UnitPlace → List ℕ → WatchedLoad → Pair → Option Pair
pair_part true unit bytes l = pair_got unit bytes l
pair_part false unit bytes l = pair_missed unit bytes l

pub part_keeps : (t : Bool) (unit : UnitPlace) (bytes : List ℕ) (l : WatchedLoad) → KeepsPair (pair_part t unit bytes l)
part_keeps t unit bytes l e g h = grind arith

-- The open stores of a pair. ----

abbrev Keys : Type 0
Keys = List (ℕ × List (Option ℕ))

keys_joint : (keys : Keys) → IsJoint (IsOfStores keys)
keys_joint keys f e h a b = a

keys_kept : (loads : List WatchedLoad) (moment : ℕ) (asked : Each (IsAsked moment) loads) (keys : Keys)
    → IsKept loads moment asked (IsOfStores keys)
keys_kept loads moment asked keys e before s after h split open_ = grind (arith, map-append)

gathered_keys : (keys : Keys) (f : Pair → Option Pair) → KeepsPair f → (es : List Pair) → Each (IsOfStores keys) es
    → Each (IsOfStores keys) (gathered f es)
gathered_keys keys f keeps es a = grind (arith, gathered_each)

-- stores that are the same, but for one that has taken effect in both lists

done_or : (b d : Bool) → (not b || d) ≡ true → b ≡ true → d ≡ true
done_or x0 d h t = grind arith

same_filtered : (number : ℕ) (xs ys : List OpenStore) → map store_key xs ≡ map store_key ys → may_answer_store number xs ≡ true
    → may_answer_store number ys ≡ true
    → filter (λ s. not (is_store number s)) xs ≡ filter (λ s. not (is_store number s)) ys
    → xs ≡ ys
same_filtered number [] [] k a b f = refl
same_filtered number (x ∷ xs) (y ∷ ys) k a b f =
    let key : store_key x ≡ store_key y = cc in
    let n = ap (λ k. k.0) key in
    let rest : map store_key xs ≡ map store_key ys = cc in
    let p = and_parts _ _ a in
    let q = and_parts _ _ b in
    elim (cases_Bool _) [
      | inl t ↦
          let u = ap (λ i. i == number) (sym n) ∙ t in
          let d =
          done_or _ x.is_done p.0 t ∙ sym (done_or _ y.is_done q.0 u) in
          let one : x ≡ y = grind arith in
          ap₂ (λ c cs. c ∷ cs) one (same_filtered number xs ys rest p.1 q.1 (rw (t, u) at f))
      | inr t ↦
          let one : x ≡ y = cc in
          ap₂ (λ c cs. c ∷ cs) one (same_filtered number xs ys rest p.1 q.1 cc)
    ]
same_filtered number _ _ k a b f = cc

-- Events. ----

pub record IsShaped (u : Ways) : Type 0 where
  pub apart : AreApart u.pairs
  pub alike : (keys : Keys) × Each (IsOfStores keys) u.pairs

load_shaped : (b : Bool) (number : ℕ) (address : LoadAddress) (u : Ways) → IsShaped u
    → IsShaped (if b then ways_with_load number address u else u)
load_shaped x0 number address u s = grind arith

store_shaped : (b : Bool) (number : ℕ) (bytes : List (Option ℕ)) (u : Ways) → IsShaped u
    → IsShaped (if b then ways_with_store number bytes u else u)
store_shaped true number bytes u s =
    let new : OpenStore = record { number = number; bytes = bytes; is_done = false } in
    let keys : Keys = s.alike.0 in
    record {
      apart = grind (arith, apart_map, same_from_push);
      alike = (
        keys ++ store_key new ∷ [],
        each_map _ _ u.pairs
            (each_weaker _ (λ e. IsOfStores _ (pair_with_store number bytes e))
            (λ e h. map-append store_key e.stores _ ∙ ap (λ ks. ks ++ store_key new ∷ []) h) u.pairs s.alike.1),
      );
    }
store_shaped false number bytes u s = s

-- the pairs of an answer
answered_shape : (unit : UnitPlace) (bytes : List ℕ) (load : Option WatchedLoad) (u : Ways) → Each (IsAsked u.moment) u.loads
    → (s : IsShaped u)
    → AreApart (answered_load unit bytes load u) × Each (IsOfStores s.alike.0) (answered_load unit bytes load u)
answered_shape unit bytes None u asked s = (s.apart, s.alike.1)
answered_shape unit bytes (Some l) u asked s =
    let keys = s.alike.0 in
    let aim = word_aim unit l.address bytes in
    let out = gathered _ u.pairs in
    let missed = gathered _ u.pairs in
    let es = with_hope aim missed in (
      apart_met u.loads u.moment (suc (rounds es)) aim out es
          (gathered_apart _ (part_keeps true unit bytes l) u.pairs s.apart),
      met_sound u.loads u.moment asked _ _ (keys_joint keys) (keys_joint keys)
          (keys_kept u.loads u.moment asked keys) (suc (rounds es)) aim (λ e a t. a) out es
          (gathered_keys keys _ (part_keeps true unit bytes l) u.pairs s.alike.1)
          (each_filter _ aim.hope missed
          (gathered_keys keys _ (part_keeps false unit bytes l) u.pairs s.alike.1)),
    )

cut_shaped : (b : Bool) (since : Option ℕ) (keys : Keys) (es : List Pair) → AreApart es → Each (IsOfStores keys) es
    → AreApart (if b then map (pair_cut since) es else es) × Each (IsOfStores keys) (if b then map (pair_cut since) es else es)
cut_shaped x0 since keys es a k = grind (arith, apart_map, each_map)

store_answered : (number : ℕ) (u : Ways) → Each (IsAsked u.moment) u.loads → (s : IsShaped u)
    → AreApart (map (pair_without_store number) (answered_store number u))
    × ((keys : Keys) × Each (IsOfStores keys) (map (pair_without_store number) (answered_store number u)))
store_answered number u asked s =
    let keys = s.alike.0 in
    let R : Pair → Type 0 = λ e. IsOfStores keys e × (may_answer_store number e.stores ≡ true) in
    let there =
    met_sound u.loads u.moment asked _ R (keys_joint keys) (λ f e h a b. a) (keys_kept u.loads u.moment asked keys)
    (suc (rounds u.pairs))
    _ (λ e a t. (a, t)) [] u.pairs tt s.alike.1 in (
      apart_map R _
          (λ e g p q n w t. n w (same_filtered number e.stores g.stores (p.0 ∙ sym q.0) p.1 q.1 t)) _ there
          (apart_met u.loads u.moment (suc (rounds u.pairs)) _ [] u.pairs tt),
      (
        without_keys number keys,
        each_map _ _ _
            (each_weaker R (λ e. IsOfStores _ (pair_without_store number e))
            (λ e r. filtered_keys number e.stores ∙ ap (without_keys number) r.0) _ there),
      ),
    )
  where
    without_keys : ℕ → Keys → Keys
    without_keys n ks = filter (λ k. not (k.0 == n)) ks

    filtered_keys : (n : ℕ) (ss : List OpenStore) → map store_key (filter (λ x. not (is_store n x)) ss) ≡ without_keys n (map store_key ss)
    filtered_keys n ss = sym (filter-map store_key (λ k. not _) ss)

pub event_shaped : (unit : UnitPlace) (event : HistoryEvent) (u : Ways) → Each (IsAsked u.moment) u.loads → IsShaped u
    → IsShaped (ways_after unit u event)
event_shaped unit (LoadRequest number address n enables) u asked s = load_shaped _ number (reads_from address enables) u s
event_shaped unit (LoadResponse number bytes) u asked s =
    let r = answered_shape unit bytes.now _ u asked s in
    let c = cut_shaped _ _ s.alike.0
    (answered_load unit bytes.now _ u) r.0 r.1 in
    record { apart = c.0; alike = (s.alike.0, c.1) }
event_shaped unit (StoreRequest number address bytes enables) u asked s = grind (arith, store_shaped)
event_shaped unit (StoreResponse number) u asked s = let r = store_answered number u asked s in record { apart = r.0; alike = r.1 }
