-- The search for the pairs on which a goal is met: what it finds was reached by stores that took effect, and it finds each way there.
use Rattle.std.proofs.Common.{◌≡◌, ℕ, ◌==◌, List, Option, refl, ap, zero, suc, ◌<◌, ◌≤◌, ◌⊎◌, Bool, true, false, not, [], ◌∷◌, ◌++◌}
use Rattle.std.proofs.Common.{length, max, filter, fold, length-append, inl, inr, sym, ◌∙◌, subst, append_assoc, append-nil, arith}
use Rattle.std.specs.Bool.{Decides}
use Rattle.std.specs.Option.{option_eq}
use Rattle.std.proofs.lemmas.Bool.Decides.{Decides-eqb, Decides-like, Decides-and}
use Rattle.std.proofs.lemmas.Slice.Eq.{slice_eq-Decides}
use Rattle.atomic_histories.specs.declared.unit.OpenStore.{OpenStore}
use Rattle.atomic_histories.specs.Followed.{Pair, is_same_word, is_same_store, is_same_pair, Aim, way_on, pair_after, cons_effect}
use Rattle.atomic_histories.specs.Followed.{effects_from, effects, merged_pair, with_pair, with_pairs, out_of, next_of, out_after, met}
use Rattle.atomic_histories.specs.Followed.{rounds, found}
use Rattle.std.proofs.lemmas.Bool.{cases_Bool, cond_both}
use Rattle.std.proofs.lemmas.List.Sums.{length-filter, count_by-le-length}
use Rattle.std.proofs.lemmas.List.Elements.{filter-append}
use Rattle.atomic_histories.specs.declared.unit.WatchedLoad.{WatchedLoad}
use Rattle.atomic_histories.specs.Law.{UnitMemory, HiddenStep, done_store}
use Rattle.atomic_histories.specs.Pasts.{Past, Stood, stood, Has, overwritten}
use Rattle.atomic_histories.specs.Branches.{Branch, effect_of}
use Rattle.atomic_histories.specs.Stands.{Each, One, EachWay, OneWay, IsAsked, IsPairBy, IsOn, Leads, now, later}
use Rattle.atomic_histories.proofs.Lists.{one_weaker, one_none, one_or, one_filter, each_filter, fold_each, fold_one}
use Rattle.atomic_histories.proofs.Events.{sound_effect}
use Rattle.atomic_histories.proofs.Paths.{some_path, merged_has, has_merged, by_overwritten, watched_more}

byte_decides : (a b : Option ℕ) → Decides (option_eq ◌==◌ a b) (a ≡ b)
byte_decides x0 x1 = grind arith

word_decides : (a b : List (Option ℕ)) → Decides (is_same_word a b) (a ≡ b)
word_decides a b = slice_eq-Decides byte_decides a b _ refl

store_decides : (a b : OpenStore) → Decides (is_same_store a b) (a ≡ b)
store_decides a b = grind (arith, Decides-like, Decides-and, Decides-eqb, word_decides)

pub pair_decides : (f e : Pair) → Decides (is_same_pair f e) ((f.word ≡ e.word) × (f.stores ≡ e.stores))
unfolding is_same_pair
pair_decides f e = grind (arith, Decides-and, word_decides, slice_eq-Decides, store_decides)

-- Pairs that are one. ----

-- what holds of one of two holds of the two merged
abbrev pub IsTaken : (Pair → Type 0) → Type 0
IsTaken Q = (f e : Pair) → is_same_pair f e ≡ true → Q f ⊎ Q e → Q (merged_pair f e)

-- what holds of both does
abbrev pub IsJoint : (Pair → Type 0) → Type 0
IsJoint Q = (f e : Pair) → is_same_pair f e ≡ true → Q f → Q e → Q (merged_pair f e)

-- a way to one is a way to the other
same_way : (loads : List WatchedLoad) (f e : Pair) (path : List Stood) → is_same_pair f e ≡ true
    → way_on loads e path ≡ way_on loads (merged_pair f e) path
same_way loads f e path h = grind (arith, pair_decides)

pub one_taken : (loads : List WatchedLoad) (P : Branch → Type 0) → IsTaken (OneWay loads P)
one_taken loads x1 f e h x5 = grind (arith, merged_has, same_way)

pub each_joint : (loads : List WatchedLoad) (P : Branch → Type 0) → IsJoint (EachWay loads P)
each_joint loads P f e h a b = grind (arith, has_merged, same_way)

pub by_joint : (moment : ℕ) → IsJoint (IsPairBy moment)
by_joint moment f e h a b = grind arith

-- One more pair. ----

one_with : (Q : Pair → Type 0) → IsTaken Q → (es : List Pair) (e : Pair) → One Q es ⊎ Q e → One Q (with_pair es e)
one_with Q t [] e h = elim h [ inl o ↦ absurd o | inr q ↦ inl q ]
one_with Q t (f ∷ fs) e (inl (inl q)) = grind arith
one_with Q t (f ∷ fs) e (inl (inr h)) = grind (arith, one_with Q t fs e (inl h))
one_with Q t (f ∷ fs) e (inr q) = grind (arith, one_with Q t fs e (inr q))

pub each_with : (Q : Pair → Type 0) → IsJoint Q → (es : List Pair) (e : Pair) → Each Q es → Q e → Each Q (with_pair es e)
each_with Q j [] e a q = (q, tt)
each_with Q j (f ∷ fs) e a q = grind (arith, each_with Q j fs e a.1 q)

one_withs : (Q : Pair → Type 0) → IsTaken Q → (es more : List Pair) → One Q es ⊎ One Q more → One Q (with_pairs es more)
one_withs Q t es more h = fold_one _ Q with_pair (one_with Q t) es more h

each_withs : (Q : Pair → Type 0) → IsJoint Q → (es more : List Pair) → Each Q es → Each Q more → Each Q (with_pairs es more)
each_withs Q j es more a b = fold_each _ Q with_pair (each_with Q j) es more a b

-- The pairs on. ----

one_cons : (Q : Pair → Type 0) (b : Bool) (x : Pair) (es : List Pair) → One Q es → One Q (cons_effect b x es)
one_cons x0 x1 x es h = grind arith

each_cons : (Q : Pair → Type 0) (b : Bool) (x : Pair) (es : List Pair) → (b ≡ false → Q x) → Each Q es → Each Q (cons_effect b x es)
each_cons x0 x1 x es f a = grind arith

one_effect : (Q : Pair → Type 0) (p : Past) (e : Pair) (past before : List OpenStore) (s : OpenStore) (after : List OpenStore)
    → s.is_done ≡ false → Q (pair_after p e (past ++ before) s after) → One Q (effects_from p e past (before ++ s ∷ after))
one_effect Q p e past [] s after o q = rw o (inl (rw append-nil at q))
one_effect Q p e past (b ∷ bs) s after o q =
    one_cons Q b.is_done _ _ (one_effect Q p e _ bs s after o (rw (sym (append_assoc past (b ∷ []) bs)) at q))

each_effect : (Q : Pair → Type 0) (p : Past) (e : Pair) (past ss : List OpenStore)
    → ((before : List OpenStore) (s : OpenStore) (after : List OpenStore) → ss ≡ before ++ s ∷ after → s.is_done ≡ false
    → Q (pair_after p e (past ++ before) s after)) → Each Q (effects_from p e past ss)
each_effect Q p e past [] f = tt
each_effect Q p e past (x ∷ xs) f =
    each_cons Q x.is_done _ _
    (λ o. subst (λ b. Q (pair_after p e b x xs)) (append-nil past) (f [] x xs refl o))
    (each_effect Q p e _ xs (λ before s after split o.
    subst (λ b. Q (pair_after p e b s after)) (sym (append_assoc past (x ∷ []) before)) (f _ s after (ap (λ t. x ∷ t) split) o)))

-- how many steps a pair is from the one at which all stores have taken effect
abbrev pub undone : List OpenStore → ℕ
undone ss = length (filter (λ s. not s.is_done) ss)

pub undone_less : (before : List OpenStore) (s : OpenStore) (after : List OpenStore) → s.is_done ≡ false
    → undone (before ++ s ∷ after) ≡ suc (undone (before ++ done_store s ∷ after))
undone_less before s after o = grind (arith, filter-append, length-append)

more_rounds : (n : ℕ) (es : List Pair) → n ≤ fold (λ k e. max k (length e.stores)) n es
more_rounds n [] = omega arith
more_rounds n (e ∷ es) = let h = more_rounds (max n (length e.stores)) es in omega arith

pub one_rounds : (Q : Pair → Type 0) (n : ℕ) (es : List Pair) → One Q es
    → One (λ e. Q e × (undone e.stores ≤ fold (λ k x. max k (length x.stores)) n es)) es
one_rounds Q n [] h = absurd h
one_rounds Q n (e ∷ es) (inl q) = grind (arith, more_rounds, e.stores, length-filter, count_by-le-length)
one_rounds Q n (e ∷ es) (inr h) = inr (one_rounds Q (max n _) es h)

-- The loads that are open, and the moment. ----

module _ (loads : List WatchedLoad) (moment : ℕ) (asked : Each (IsAsked moment) loads) where
  abbrev past_on : Pair → Past
  past_on e = overwritten loads moment e.word e.past

  on_path : (e : Pair) (before : List OpenStore) (s : OpenStore) (after : List OpenStore) (path : List Stood) → Has e.past path
      → (more : List Stood) × Has (past_on e) more
      × (way_on loads (pair_after (past_on e) e before s after) more ≡ effect_of (way_on loads e path) before s after)
  on_path e before s after path h = made loads asked
    where
      made : (ls : List WatchedLoad) → Each (IsAsked moment) ls → (more : List Stood) × Has (overwritten ls moment e.word e.past) more
          × (way_on ls (pair_after (overwritten ls moment e.word e.past) e before s after) more
          ≡ effect_of (way_on ls e path) before s after)
      made [] a = ([], refl, refl)
      made (l ∷ ls) a =
          let more =
          watched_more moment e.word path (l ∷ ls) a in
          let there = effect_of (way_on (l ∷ ls) e path) before s after in
          (stood e.word moment ∷ path, (path, refl, h), λ i. record { word = there.word; stores = there.stores; loads = more i })

  path_on : (e : Pair) (before : List OpenStore) (s : OpenStore) (after : List OpenStore) (more : List Stood) → Has (past_on e) more
      → (path : List Stood) × Has e.past path
      × (way_on loads (pair_after (past_on e) e before s after) more ≡ effect_of (way_on loads e path) before s after)
  path_on e before s after more h = made loads asked h
    where
      made : (ls : List WatchedLoad) → Each (IsAsked moment) ls → Has (overwritten ls moment e.word e.past) more
          → (path : List Stood) × Has e.past path
          × (way_on ls (pair_after (overwritten ls moment e.word e.past) e before s after) more
          ≡ effect_of (way_on ls e path) before s after)
      made [] a g = let r = some_path e.past in (r.0, r.1, refl)
      made _ a g = grind (arith, watched_more, e.word)

  -- what holds of the pairs on, if it is kept when a store takes effect
  abbrev pub IsKept : (Pair → Type 0) → Type 0
  IsKept S = (e : Pair) (before : List OpenStore) (s : OpenStore) (after : List OpenStore) → S e → e.stores ≡ before ++ s ∷ after
      → s.is_done ≡ false → S (pair_after (past_on e) e before s after)

  -- the states on each way have a property, and nothing was overwritten behind now
  abbrev pub IsSound : (UnitMemory → Type 0) → Pair → Type 0
  IsSound P e = EachWay loads (λ b. (m : UnitMemory) → IsOn b m → P m) e × IsPairBy moment e

  pub sound_joint : (P : UnitMemory → Type 0) → IsJoint (IsSound P)
  sound_joint P f e h a b =
      (each_joint loads (λ b. (m : UnitMemory) → IsOn b m → P m) f e h a.0 b.0, by_joint moment f e h a.1 b.1)

  pub sound_kept : (P : UnitMemory → Type 0) → ((m n : UnitMemory) → P m → HiddenStep m n → P n) → IsKept (IsSound P)
  sound_kept P closed e before s after h split open_ = (
    λ more has.
        let r = path_on e before s after more has in
        let on : (m : UnitMemory) → IsOn _ m → P m =
        λ m o. sound_effect P closed _ before s after (h.0 r.0 r.1) split open_ m o in
        subst (λ b. (m : UnitMemory) → IsOn b m → P m) (sym r.2) on,
    by_overwritten loads moment e.word e.past h.1,
  )

  each_effects : (S : Pair → Type 0) → IsKept S → (e : Pair) → S e → Each S (effects loads moment e)
  each_effects S kept e h = each_effect S _ e [] e.stores (λ before s after split o. kept e before s after h split o)

  -- One round. ----

  out_finds : (Q : Pair → Type 0) → IsTaken Q → (goal : Pair → Bool) (out es : List Pair)
      → One Q out ⊎ One (λ e. (goal e ≡ true) × Q e) es → One Q (out_after goal out es)
  out_finds Q t goal out es h = fold_one (One Q) _ _ step out es h
    where
      step : (x : List Pair) (e : Pair) → One Q x ⊎ ((goal e ≡ true) × Q e) → One Q (out_of goal x e)
      step x e (inl o) = cond_both _ _ _ (One Q) (λ u. one_with Q t x e (inl o)) (λ f. o)
      step x e (inr p) = rw p.0 (one_with Q t x e (inr p.1))

  pub next_finds : (Q : Pair → Type 0) → IsTaken Q → (aim : Aim) (next es : List Pair)
      → One Q next ⊎ One (λ e. (aim.goal e ≡ false) × One Q (filter aim.hope (effects loads moment e))) es
      → One Q (fold (next_of loads moment aim) next es)
  next_finds Q t aim next es h = fold_one (One Q) _ _ step next es h
    where
      step : (x : List Pair) (e : Pair) → One Q x ⊎ ((aim.goal e ≡ false) × One Q (filter aim.hope (effects loads moment e)))
          → One Q (next_of loads moment aim x e)
      step x e (inl o) = cond_both _ _ _ (One Q) (λ u. o) (λ f. one_withs Q t x (filter aim.hope (effects loads moment e)) (inl o))
      step x e (inr p) = rw p.0 (one_withs Q t x _ (inr p.1))

  -- what is found has a property that those which meet the goal have
  pub out_sound : (S R : Pair → Type 0) → IsJoint R → (goal : Pair → Bool) → ((e : Pair) → S e → goal e ≡ true → R e) → (out es : List Pair)
      → Each R out → Each S es → Each R (out_after goal out es)
  out_sound S R j goal g out es a b =
      fold_each (Each R) S _
      (λ x e r s. cond_both _ _ _ (Each R) (λ t. each_with R j x e r (g e s t)) (λ f. r)) out es a b

  pub next_sound : (S : Pair → Type 0) → IsJoint S → IsKept S → (aim : Aim) (next es : List Pair) → Each S next → Each S es
      → Each S (fold (next_of loads moment aim) next es)
  next_sound S j kept aim next es a b =
      fold_each (Each S) S _
      (λ x e r s. cond_both _ _ _ (Each S) (λ t. r)
      (λ f. each_withs S j x _ r (each_filter S aim.hope _ (each_effects S kept e s)))) next es a b

  -- All rounds. ----

  pub met_sound : (S R : Pair → Type 0) → IsJoint S → IsJoint R → IsKept S → (n : ℕ) (aim : Aim)
      → ((e : Pair) → S e → aim.goal e ≡ true → R e) → (out es : List Pair)
      → Each R out → Each S es → Each R (met loads moment n aim out es)
  met_sound S R j k kept zero aim g out es a b = a
  met_sound S R j k kept (suc n) aim g out es a b =
      met_sound S R j k kept n aim g _ _
      (out_sound S R k aim.goal g out es a b)
      (next_sound S j kept aim [] es tt b)

  -- a way that leads to a state, within fewer than so many steps
  abbrev pub LeadsWithin : UnitMemory → ℕ → Branch → Type 0
  LeadsWithin m n b = Leads b m × (undone b.stores < n)

  -- it leads there now, or once a store has taken effect
  pub leads_split : (m : UnitMemory) (Q : Pair → Type 0) (n : ℕ) (e : Pair) (path : List Stood) → Has e.past path
      → LeadsWithin m (suc n) (way_on loads e path)
      → ((before : List OpenStore) (s : OpenStore) (after : List OpenStore) (more : List Stood) → Has (past_on e) more
      → way_on loads (pair_after (past_on e) e before s after) more ≡ effect_of (way_on loads e path) before s after
      → LeadsWithin m n (effect_of (way_on loads e path) before s after) → Q (pair_after (past_on e) e before s after))
      → IsOn (way_on loads e path) m ⊎ One Q (effects loads moment e)
  leads_split m Q n e path has w f = split w.0 w.1
    where
      split : Leads (way_on loads e path) m → undone e.stores < suc n → IsOn (way_on loads e path) m ⊎ One Q (effects loads moment e)
      split (now o) l = inl o
      split (later before s after is open_ r) l =
          let less = ap undone is ∙ undone_less before s after open_ in
          let p = on_path e before s after path has in
          inr (rw is (one_effect Q _ e [] before s after open_ (f before s after p.0 p.1 p.2 (r, omega arith))))

  -- The goal is met late: of the ways that haven't met it each state that it is about has it now or behind more effects. ----

  module _ (m : UnitMemory) (Late : Branch → Type 0) where
    abbrev pub Way : ℕ → Pair → Type 0
    Way n e = OneWay loads (λ b. LeadsWithin m n b × Late b) e

    abbrev pub LeadsThere : Pair → Type 0
    LeadsThere e = OneWay loads (λ b. Leads b m) e

    -- what an aim says of the ways that are late
    pub record IsFor (aim : Aim) : Type 0 where
      pub here : (e : Pair) (path : List Stood) → Late (way_on loads e path) → IsOn (way_on loads e path) m → aim.goal e ≡ true
      pub stays : (e : Pair) (path : List Stood) (before : List OpenStore) (s : OpenStore) (after : List OpenStore) → aim.goal e ≡ false
          → Late (way_on loads e path)
          → Late (effect_of (way_on loads e path) before s after)
      pub hopes : (e : Pair) (path : List Stood) → Late (way_on loads e path) → Leads (way_on loads e path) m → aim.hope e ≡ true

    -- it leads there once a store has taken effect
    pub way_split : (n : ℕ) (aim : Aim) → IsFor aim → (e : Pair) → aim.goal e ≡ false → Way (suc n) e
        → One (Way n) (filter aim.hope (effects loads moment e))
    way_split n aim f e away w =
        elim (leads_split m (λ x. Way n x × (aim.hope x ≡ true)) n e w.0 w.1 w.2.0 on) [
          | inl o ↦ cc (f.here e w.0 w.2.1 o)
          | inr o ↦ one_filter _ aim.hope _ o
        ]
      where
        on : (before : List OpenStore) (s : OpenStore) (after : List OpenStore) (more : List Stood) → Has (past_on e) more
            → way_on loads (pair_after (past_on e) e before s after) more ≡ effect_of (way_on loads e w.0) before s after
            → LeadsWithin m n (effect_of (way_on loads e w.0) before s after)
            → Way n (pair_after (past_on e) e before s after) × (aim.hope (pair_after (past_on e) e before s after) ≡ true)
        on before s after more has same r =
            let lead = subst (LeadsWithin m n) (sym same) r in
            let late = subst Late (sym same) (f.stays e w.0 before s after away w.2.1) in
            ((more, has, (lead, late)), f.hopes _ more late lead.0)

    none_within : (e : Pair) → Way zero e → ⊥
    none_within e w = grind arith

    -- a way that leads to a state is found at the first place where the goal is met
    met_finds : (aim : Aim) → IsFor aim → (n : ℕ) (out es : List Pair) → One LeadsThere out ⊎ One (Way n) es
        → One LeadsThere (met loads moment n aim out es)
    met_finds aim f zero out es (inl h) = h
    met_finds aim f zero out es (inr h) = absurd (one_none es (one_weaker _ (λ e. ⊥) none_within es h))
    met_finds aim f (suc n) out es h =
        let t = one_taken loads (λ b. Leads b m) in
        let u = one_taken loads (λ b. LeadsWithin m n b × Late b) in
        let Here : Pair → Type 0 = λ e. (aim.goal e ≡ true) × LeadsThere e in
        let There : Pair → Type 0 = λ e. (aim.goal e ≡ false) × One _ _ in
        let either : (e : Pair) → Way _ e → Here e ⊎ There e = λ e w. elim (cases_Bool _) [
          | inl y ↦ inl (y, (w.0, w.1, w.2.0.0))
          | inr u ↦ inr (u, way_split n aim f e u w)
        ] in
        elim h [
          | inl o ↦ met_finds aim f n _ _
              (inl (out_finds LeadsThere t aim.goal out es (inl o)))
          | inr o ↦ elim (one_or Here There es (one_weaker _ (λ e. Here e ⊎ There e) either es o)) [
            | inl a ↦ met_finds aim f n _ _
                (inl (out_finds LeadsThere t aim.goal out es (inr a)))
            | inr a ↦ met_finds aim f n _ _
                (inr (next_finds _ u aim [] es (inr a)))
          ]
        ]

    pub found_complete : (aim : Aim) → IsFor aim → (out es : List Pair)
        → One LeadsThere out ⊎ One (OneWay loads (λ b. Leads b m × Late b)) es → One LeadsThere (found loads moment aim out es)
    found_complete aim f out es (inl h) = met_finds aim f (suc (rounds es)) out es (inl h)
    found_complete aim f out es (inr h) =
        let n = rounds es in
        let Q = OneWay loads (λ b. Leads b m × Late b) in
        met_finds aim f _ out es
        (inr (one_weaker (λ e. Q e × (undone e.stores ≤ n)) _
        (λ e p. (p.0.0, p.0.1, ((p.0.2.0, within e p.1), p.0.2.1))) es (one_rounds Q 0 es h)))
      where
        within : (e : Pair) → undone e.stores ≤ rounds es → undone e.stores < suc (rounds es)
        within e l = omega arith
