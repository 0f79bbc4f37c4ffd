-- Steps of the loops over pairs.
use Rattle.memory_histories.proofs.Lists.{map-map}
use Rattle.std.proofs.Common.{◌≡◌, ℕ, zero, suc, ◌+◌, ◌<◌, ◌⊎◌, true, min, fold, List, [], ◌∷◌, ◌++◌, map, length, take, drop, get_or, set}
use Rattle.std.proofs.Common.{Some, None, refl, sym, ap, ap₂, ◌∙◌, subst, inl, inr, add-one, drop-cons, append_assoc, arith, ◌-◌, Bool}
use Rattle.std.proofs.Common.{false, ◌||◌, filter, take-suc}
use Rattle.std.specs.List.{All, list_all}
use Rattle.std.proofs.lemmas.Bool.{and_parts}
use Rattle.std.proofs.lemmas.List.{map-append, take_more_set, drop-set-lt, set_split, drop_all, length-map, append-nil, take_rest}
use Rattle.std.proofs.lemmas.List.Elements.{All-same, All-push, All-rest}
use Rattle.atomic_histories.specs.declared.unit.WatchedLoad.{WatchedLoad}
use Rattle.atomic_histories.specs.declared.stretches.Before.{Before}
use Rattle.atomic_histories.specs.declared.stretches.Before.TheVariants.{Nothing, Behind}
use Rattle.atomic_histories.specs.declared.stretches.Stretch.{Stretch}
use Rattle.atomic_histories.specs.declared.stretches.Stretch.TheVariants.{Overwritten}
use Rattle.atomic_histories.specs.declared.pairs.FollowedPair.{FollowedPair}
use Rattle.atomic_histories.specs.declared.moves.Moved.{Moved}
use Rattle.atomic_histories.specs.Pasts.{Past, begins, cut, earlier, oldest}
use Rattle.atomic_histories.specs.Followed.{Pair, Ways, pair_cut, moment_with, Aim, with_pairs, cons_effect, pair_after, effects_from}
use Rattle.atomic_histories.specs.Followed.{out_of, next_of, out_after, next_after, are_too_many, is_over, never}
use Rattle.atomic_histories.specs.Stands.{Each}
use Rattle.atomic_histories.specs.Shares.{moved_to}
use Rattle.atomic_histories.specs.Shown.{shown, shown_all, past_at, past_of, pasts, IsIn, AreIn, Grows}
use Rattle.atomic_histories.specs.Taken.{is_late}
use Rattle.atomic_histories.proofs.Lists.{each_append, each_replace}
use Rattle.atomic_histories.specs.declared.unit.OpenStore.{OpenStore}
use Rattle.atomic_histories.specs.Law.{done_store}
use Rattle.atomic_histories.specs.May.{reached_in, is_reach_over}
use Rattle.atomic_histories.proofs.Frames.{shown_grown}

-- one more of them is changed
pub changed_more : {X Y : Type 0} (s : X → Y) (f : Y → Y) (xs : List X) (i : ℕ) (v d : X) → i < length xs → s v ≡ f (s (get_or xs i d))
    → map s (take (i + 1) (set xs i v)) ++ map f (map s (drop (i + 1) (set xs i v)))
    ≡ map s (take i xs) ++ map f (map s (drop i xs))
changed_more {X} {Y} s f xs i v d h e = rw add-one (more xs i h e)
  where
    more : (xs : List X) (i : ℕ) → i < length xs → s v ≡ f (s (get_or xs i d))
        → map s (take (suc i) (set xs i v)) ++ map f (map s (drop (suc i) (set xs i v)))
        ≡ map s (take i xs) ++ map f (map s (drop i xs))
    more [] i h e = absurd (omega arith)
    more _ zero h e = grind arith
    more (x ∷ xs) (suc i) h e = ap (λ ys. s x ∷ ys) (more xs i (omega arith) e)

-- one that shows what it did
pub set_shown : {X Y : Type 0} (s : X → Y) (xs : List X) (i : ℕ) (v d : X) → i < length xs → s v ≡ s (get_or xs i d)
    → map s (set xs i v) ≡ map s xs
set_shown s [] i v d h e = absurd (omega arith)
set_shown s (x ∷ xs) zero v d h e = ap (λ y. y ∷ map s xs) e
set_shown s (x ∷ xs) (suc i) v d h e = ap (λ ys. s x ∷ ys) (set_shown s xs i v d (omega arith) e)

-- what holds of those so far, and of those that are left
pub all_before : {X : Type 0} (P : X → Type 0) (xs : List X) (i : ℕ) (v : X) → i < length xs → All P (take i xs) → P v
    → All P (take (i + 1) (set xs i v))
all_before P xs i v h a p =
    All-same P _ _ (take_more_set xs i v h) (All-push P (take i xs) v a p)

pub all_behind : {X : Type 0} (P : X → Type 0) (xs : List X) (i : ℕ) (v d : X) → i < length xs → All P (drop i xs)
    → All P (drop (i + 1) (set xs i v))
all_behind P xs i v d h a =
    All-same P _ _ (rw add-one (drop-set-lt (suc i) xs i v (omega arith)))
    (All-rest P (get_or xs i d) (drop (suc i) xs) (drop i xs) (drop-cons xs i d h) a)

-- one more of those that are made one by one
pub made_more : {X Y Z : Type 0} (s : X → Z) (g : Y → Z) (ys : List Y) (i : ℕ) (d : Y) (x : X) (xs more : List X) (whole : List Z)
    → i < length ys → more ≡ xs ++ x ∷ [] → s x ≡ g (get_or ys i d) → map s xs ++ map g (drop i ys) ≡ whole
    → map s more ++ map g (drop (i + 1) ys) ≡ whole
made_more s g ys i d x xs more whole h e same inv = grind (arith, add-one, drop-cons, map-append, append_assoc)

pub are_in_more : (ss : List Stretch) (ps more : List FollowedPair) (p : FollowedPair) (b : Before) → more ≡ ps ++ p ∷ [] → p.past ≡ b
    → AreIn ss ps → IsIn ss b → AreIn ss more
are_in_more ss ps more p b e same a in_ = grind (arith, each_append)

-- What is shown of pairs whose references changed. ----

abbrev pub moved_pair : Moved → FollowedPair → FollowedPair
moved_pair m p = record { word = p.word; stores = p.stores; past = moved_to m p.past }

abbrev pub dropped_pair : FollowedPair → FollowedPair
dropped_pair p = record { word = p.word; stores = p.stores; past = Nothing }

pub dropped : (ss ts : List Stretch) (ps qs rs : List FollowedPair) → rs ≡ ps → qs ≡ map dropped_pair rs
    → shown_all ts qs ≡ map (pair_cut None) (shown_all ss ps)
dropped ss ts ps qs rs e f = grind (arith, map-map)

pub cut_shown : (m : Moved) (since : ℕ) (ss rr ts : List Stretch) (ps qs rs : List FollowedPair) → rr ≡ ss → rs ≡ ps
    → qs ≡ map (moved_pair m) rs
    → ((b : Before) → past_at (pasts ts) (moved_to m b) ≡ cut since (past_at (pasts rr) b))
    → shown_all ts qs ≡ map (pair_cut (Some since)) (shown_all ss ps)
cut_shown m since ss rr ts ps qs rs d e f same = grind (arith, map-map)

-- where nothing is older nothing is cut
abbrev IsKept : ℕ → List Past → Type 0
IsKept since ps = (b : Before) → past_at ps b ≡ cut since (past_at ps b)

last_or : (ps : List Past) (p : Past) (place : ℕ)
    → (get_or (ps ++ p ∷ []) place begins ≡ get_or ps place begins) ⊎ (get_or (ps ++ p ∷ []) place begins ≡ p)
last_or [] p zero = inr refl
last_or (q ∷ ps) p (suc place) = last_or ps p place
last_or _ p _ = inl refl

kept_push : (since : ℕ) (ps : List Past) (s : Stretch) → is_late since s ≡ true → IsKept since ps → IsKept since (ps ++ past_of ps s ∷ [])
kept_push since ps s t h Nothing = refl
kept_push since ps s t h (Behind place) =
    let P : Past → Type 0 = λ p. p ≡ cut since p in
    elim (last_or ps _ place) [
      | inl e ↦ subst P (sym e) (h (Behind place))
      | inr e ↦ subst P (sym e) (last s t)
    ]
  where
    last : (s : Stretch) → is_late since s ≡ true → past_of ps s ≡ cut since (past_of ps s)
    last (Overwritten word moment before) t = grind arith
    last _ t = cc

late_kept : (since : ℕ) (ps : List Past) (ss : List Stretch) → list_all (is_late since) ss ≡ true → IsKept since ps
    → IsKept since (fold (λ qs s. qs ++ past_of qs s ∷ []) ps ss)
late_kept since ps [] t h = h
late_kept since ps (s ∷ ss) t h =
    let both = and_parts _ _ t in
    late_kept since _ ss both.1 (kept_push since ps s both.0 h)

pub cut_late : (since : ℕ) (ss rr : List Stretch) (ps : List FollowedPair) → rr ≡ ss → list_all (is_late since) rr ≡ true
    → shown_all ss ps ≡ map (pair_cut (Some since)) (shown_all ss ps)
cut_late since ss rr ps e t = grind (arith, map-map, late_kept)

-- what a copy shows
pub copy_shown : (m : Moved) (ss rr ts : List Stretch) (ps qs rs ks : List FollowedPair) → rr ≡ ss → rs ≡ ps → ks ≡ ps
    → shown_all ts qs ≡ map (λ (p : FollowedPair). shown ts (moved_pair m p)) ks
    → Each (λ (p : FollowedPair). past_at (pasts ts) (moved_to m p.past) ≡ past_at (pasts rr) p.past) rs
    → shown_all ts qs ≡ shown_all ss ps
copy_shown m ss rr ts ps qs rs ks d e g f same =
    f ∙ (cc (
      g,
      (each ps (rw e at same)
          ∙ ap (λ ss. shown_all ss ps) d),
    ))
  where
    pair : FollowedPair → Past → Pair
    pair p past = record { word = p.word; stores = p.stores.items; past = past }

    each : (ps : List FollowedPair)
        → Each (λ (p : FollowedPair). past_at (pasts ts) (moved_to m p.past) ≡ past_at (pasts rr) p.past) ps
        → map (λ (p : FollowedPair). shown ts (moved_pair m p)) ps ≡ shown_all rr ps
    each [] h = refl
    each (p ∷ ps) h = ap₂ (λ past es. pair p past ∷ es) h.0 (each ps h.1)

-- The moment, once a load is answered. ----

pub some_oldest : (since : ℕ) (ls : List WatchedLoad) → fold earlier (Some since) ls ≡ None → ⊥
some_oldest since [] h = cc
some_oldest since (l ∷ ls) h = some_oldest (min since l.since) ls h

pub moment_none : (moment : ℕ) (ls : List WatchedLoad) → oldest ls ≡ None → moment_with moment ls ≡ 0
moment_none moment x1 h = grind (arith, some_oldest)

pub copied_pair : (ss : List Stretch) (p q : FollowedPair) → p.word ≡ q.word → p.stores.items ≡ q.stores.items → p.past ≡ q.past
    → shown ss p ≡ shown ss q
copied_pair ss p q word stores past = grind arith

pub same_pair : (e f : Pair) → e.word ≡ f.word → e.stores ≡ f.stores → e.past ≡ f.past → e ≡ f
same_pair e f word stores past = grind arith

pub same_ways : (u v : Ways) → u.loads ≡ v.loads → u.moment ≡ v.moment → u.pairs ≡ v.pairs → u ≡ v
same_ways u v loads moment pairs = grind arith

-- Loops over stores and rounds. ----

module _ (ss : List Stretch) (ps : List FollowedPair) where
  pub shown_push : (p : FollowedPair)
      → shown_all ss (ps ++ p ∷ []) ≡ shown_all ss ps ++ shown ss p ∷ []
  shown_push p = map-append _ ps _

  pub shown_drop : (i : ℕ) (d : FollowedPair) → i < length ps
      → shown_all ss (drop i ps) ≡ shown ss (get_or ps i d) ∷ shown_all ss (drop (i + 1) ps)
  shown_drop i d h = rw (add-one, drop-cons ps i d h) refl

  pub length_shown : length (shown_all ss ps) ≡ length ps
  length_shown = length-map ps _

-- the pair at a place
pair_here : (ps : List FollowedPair) (p : FollowedPair) (i : ℕ) → i < length ps → p ≡ get_or ps i p → drop i ps ≡ p ∷ drop (i + 1) ps
pair_here ps p i h is = rw (add-one, drop-cons ps i p h, ← is) refl

pub in_at : (ss : List Stretch) (ps : List FollowedPair) (p : FollowedPair) (i : ℕ) → i < length ps → p ≡ get_or ps i p → AreIn ss ps
    → IsIn ss p.past
in_at ss [] p i h is a = absurd (omega (arith, h))
in_at ss (q ∷ ps) p zero h is a = subst (λ x. IsIn ss x.past) (sym is) a.0
in_at ss (q ∷ ps) p (suc i) h is a = in_at ss ps p i (omega (arith, h)) is a.1

module _ (ss : List Stretch) (same ps : List FollowedPair) (p copy : FollowedPair) (next : List FollowedPair) (i : ℕ) where
  -- one more pair is copied
  pub copied_shown : i < length ps → p ≡ get_or ps i p → next ≡ same ++ copy ∷ []
      → copy.word ≡ p.word → copy.stores.items ≡ p.stores.items → copy.past ≡ p.past
      → shown_all ss next ++ shown_all ss (drop (i + 1) ps) ≡ shown_all ss same ++ shown_all ss (drop i ps)
  copied_shown h is n w s b = grind (arith, shown_push, shown_drop, append_assoc)

  pub copied_more : i < length ps → p ≡ get_or ps i p → next ≡ same ++ copy ∷ [] → copy.past ≡ p.past
      → AreIn ss (same ++ drop i ps) → AreIn ss (next ++ drop (i + 1) ps)
  copied_more h is n e a =
      rw (n, append_assoc) (each_replace (λ q. IsIn ss q.past) same p copy _ (λ b. subst (IsIn ss) (sym e) b)
      (rw (pair_here ps p i h is) at a))

pub copied_all : (ss : List Stretch) (same ps : List FollowedPair) (i : ℕ) → length ps < i + 1 → AreIn ss (same ++ drop i ps)
    → AreIn ss same
copied_all ss same ps i h a = grind (arith, drop_all, append-nil)

-- Stores take effect. ----

effects_step : (past : Past) (e : Pair) (ss : List OpenStore) (i : ℕ) (d : OpenStore) → i < length ss
    → effects_from past e (take i ss) (drop i ss)
    ≡ cons_effect (get_or ss i d).is_done (pair_after past e (take i ss) (get_or ss i d) (drop (i + 1) ss))
    (effects_from past e (take (i + 1) ss) (drop (i + 1) ss))
effects_step past e ss i d h = grind (arith, add-one, drop-cons, take-suc)

followed_more : (hope : Pair → Bool) (t : Bool) (x : Pair) (es next rest all : List Pair)
    → next ≡ with_pairs es (filter hope (cons_effect t x []))
    → with_pairs es (filter hope (cons_effect t x rest)) ≡ all → with_pairs next (filter hope rest) ≡ all
followed_more hope x1 x es next rest all n whole = grind arith

-- no store is left
pub effects_done : (past : Past) (e : Pair) (before ss : List OpenStore) → list_all (λ s. s.is_done) ss ≡ true
    → effects_from past e before ss ≡ []
effects_done past e before [] h = refl
effects_done past e before (s ∷ ss) h =
    let r = and_parts s.is_done (list_all (λ s. s.is_done) ss) h in
    ap (λ b. cons_effect b (pair_after past e before s ss) (effects_from past e (before ++ s ∷ []) ss)) r.0
    ∙ effects_done past e _ ss r.1

-- one more store is looked at
pub effects_more : (hope : Pair → Bool) (past now : Past) (e : Pair) (ss : List OpenStore) (i : ℕ) (d : OpenStore) (es next all : List Pair)
    → i < length ss → now ≡ past
    → next ≡ with_pairs es (filter hope
    (cons_effect (get_or ss i d).is_done (pair_after now e (take i ss) (get_or ss i d) (drop (i + 1) ss)) []))
    → with_pairs es (filter hope (effects_from past e (take i ss) (drop i ss))) ≡ all
    → with_pairs next (filter hope (effects_from past e (take (i + 1) ss) (drop (i + 1) ss))) ≡ all
effects_more hope past now e ss i d es next all h same n whole = grind (arith, followed_more, effects_step)

set_store : (ss : List OpenStore) (i : ℕ) (s : OpenStore) → i < length ss → set ss i s ≡ take i ss ++ s ∷ drop (i + 1) ss
set_store ss i s h = rw add-one (set_split ss i s h)

pub same_default : {X : Type 0} (xs : List X) (i : ℕ) (d e : X) → i < length xs → get_or xs i d ≡ get_or xs i e
same_default [] i d e h = absurd (omega arith)
same_default (x ∷ xs) zero d e h = refl
same_default (x ∷ xs) (suc i) d e h = same_default xs i d e (omega arith)

pub finished : (ss : List OpenStore) (i : ℕ) (d e : OpenStore) → i < length ss
    → set ss i (done_store (get_or ss i e)) ≡ take i ss ++ done_store (get_or ss i d) ∷ drop (i + 1) ss
finished ss i d e h = grind (arith, set_store, same_default)

-- Rounds. ----

-- one more pair is looked at
pub fold_more : {X : Type 0} (f : X → Pair → X) (ss : List Stretch) (ps : List FollowedPair) (p : FollowedPair) (i : ℕ) (x y all : X)
    → i < length ps → p ≡ get_or ps i p → y ≡ f x (shown ss p) → fold f x (shown_all ss (drop i ps)) ≡ all
    → fold f y (shown_all ss (drop (i + 1) ps)) ≡ all
fold_more f ss ps p i x y all h e n whole = grind (arith, shown_drop)

-- a pair that is wanted has no more pairs behind it, and from another nothing is put out
pub next_met : (ls : List WatchedLoad) (moment : ℕ) (aim : Aim) (next : List Pair) (e : Pair) → aim.goal e ≡ true
    → next ≡ next_of ls moment aim next e
next_met ls moment aim next e h = rw h refl

pub out_unmet : (goal : Pair → Bool) (out : List Pair) (e : Pair) → goal e ≡ false → out ≡ out_of goal out e
out_unmet goal out e h = rw h refl

module _ (limit : ℕ) (ls : List WatchedLoad) (moment : ℕ) where
  -- the rounds of a search
  pub over_go : (n : ℕ) (aim : Aim) (out es : List Pair)
      → (are_too_many limit es || are_too_many limit out) ≡ false → 0 < n
      → is_over limit ls moment n aim out es ≡ is_over limit ls moment (n - 1) aim (out_after aim.goal out es) (next_after ls moment aim es)
  over_go x3 aim out es h p = grind arith

  -- the pairs that are followed to see what a load may get
  pub reach_stop : (n : ℕ) (es next : List Pair) → next ≡ next_after ls moment never es
      → are_too_many limit next ≡ true → 0 < n → is_reach_over limit ls moment n es ≡ true
  reach_stop x3 es next e h p = grind arith

  pub reach_go : (n : ℕ) (es next : List Pair) → next ≡ next_after ls moment never es
      → are_too_many limit next ≡ false → 0 < n
      → is_reach_over limit ls moment n es ≡ is_reach_over limit ls moment (n - 1) next
  reach_go x3 es next e h p = grind arith

reached_go : (ls : List WatchedLoad) (moment n : ℕ) (es next : List Pair) → next ≡ next_after ls moment never es → 0 < n
    → reached_in ls moment n es ≡ next ++ reached_in ls moment (n - 1) next
reached_go ls moment x2 es next e p = grind arith

pub behind_all : (ps more : List FollowedPair) → drop (length ps) (ps ++ more) ≡ more
behind_all [] more = refl
behind_all (p ∷ ps) more = behind_all ps more

-- those that were reached so far, and those in the rounds that are left
pub reached_more : (ls : List WatchedLoad) (moment n : ℕ) (ss ts : List Stretch) → Grows ss ts → (all from next both : List FollowedPair)
    (whole : List Pair) → AreIn ss all → both ≡ all ++ next → 0 < n → shown_all ts next ≡ next_after ls moment never (shown_all ss from)
    → shown_all ss all ++ reached_in ls moment n (shown_all ss from) ≡ whole
    → shown_all ts both ++ reached_in ls moment (n - 1) (shown_all ts (drop (length all) both)) ≡ whole
reached_more ls moment n ss ts grown all from next both whole a b p e w =
    grind (arith, behind_all, map-append, shown_grown, append_assoc, reached_go)

-- the pairs from a place on
pub slice_from : (xs ys : List FollowedPair) (i : ℕ) → xs ≡ ys → take (length xs - i) (drop i xs) ≡ drop i ys
slice_from xs ys i e = take_rest xs i ∙ ap (drop i) e
