-- A load that takes effect late, at one unit: what the unit may be is what it may be if the load took effect at its request, but for
-- what the load got.
use Rattle.std.proofs.Common.{◌≡◌, ◌⊎◌, ℕ, ◌==◌, Bool, true, false, ◌||◌, not, if◌then◌else◌, List, [], ◌∷◌, ◌++◌, map, Option, Some, None}
use Rattle.std.proofs.Common.{inl, inr, refl, sym, ap, ◌∙◌, subst, eq-eqb, eqb-true, append-nil, append_assoc}
use Rattle.std.specs.Prelude.{is_some}
use Rattle.std.specs.List.{list_any}
use Rattle.std.proofs.lemmas.Bool.{cases_Bool, false_from_ne_true, both_ways}
use Rattle.std.proofs.lemmas.List.{map-append}
use Rattle.std.proofs.lemmas.Option.{same_Some, cond_some}
use Rattle.memory_histories.specs.declared.events.HistoryEvent.{HistoryEvent}
use Rattle.memory_histories.specs.declared.events.HistoryEvent.TheVariants.{LoadRequest, LoadResponse, StoreRequest, StoreResponse}
use Rattle.memory_histories.proofs.Lists.{filter-map}
use Rattle.atomic_histories.specs.declared.unit.OpenStore.{OpenStore}
use Rattle.atomic_histories.specs.declared.unit.UnitPlace.{UnitPlace}
use Rattle.atomic_histories.specs.declared.unit.LoadAddress.{LoadAddress}
use Rattle.atomic_histories.specs.Words.{at_unit, stored_byte, reads_from, is_at, is_word_of}
use Rattle.atomic_histories.specs.Law.{OpenLoad, UnitMemory, HiddenStep, MayBe, starts, steps, sees, done_load, is_load, is_got}
use Rattle.atomic_histories.specs.Law.{may_answer_load, may_answer_store, with_load, with_store, without_store, seen}
use Rattle.atomic_histories.specs.Stands.{Each}
use Rattle.atomic_histories.proofs.Lists.{each_weaker, each_map, each_split, all_each, each_all}
use Rattle.history_laws.proofs.Lists.{each_always}

module _ (unit : UnitPlace) where
  -- what the unit may be after some events, if it was this before them
  pub and_then : (start m k : UnitMemory) (past events : List HistoryEvent) → MayBe unit start past m → MayBe unit m events k
      → MayBe unit start (past ++ events) k
  and_then start m k past events r starts = subst (λ x. MayBe unit start x m) (sym (append-nil past)) r
  and_then start m k past events r (steps es h n q step) = steps _ h n (and_then start m h past es r q) step
  and_then start m k past events r (sees es event h n q e) =
      subst (λ x. MayBe unit start x n) (append_assoc past es (event ∷ [])) (sees (past ++ es) event h n (and_then start m h past es r q) e)

  module _ (tag : ℕ) (address : LoadAddress) where
    -- a load, where the one of the tag got this, whatever it got
    abbrev pub late_load : Option (List (Option ℕ)) → OpenLoad → OpenLoad
    late_load got l = record {
      number = l.number;
      address = if is_load tag l then address else l.address;
      got = if is_load tag l then got else l.got;
    }

    abbrev pub late : Option (List (Option ℕ)) → UnitMemory → UnitMemory
    late got m = record { word = m.word; stores = m.stores; loads = map (late_load got) m.loads }

    other_load : (got : Option (List (Option ℕ))) (l : OpenLoad) → is_load tag l ≡ false → late_load got l ≡ l
    other_load got l h = rw h refl

    other_loads : (got : Option (List (Option ℕ))) (ls : List OpenLoad) → Each (λ l. is_load tag l ≡ false) ls
        → map (late_load got) ls ≡ ls
    other_loads got [] h = refl
    other_loads got (l ∷ ls) h = λ i. other_load got l h.0 i ∷ other_loads got ls h.1 i

    -- where no load of the tag is open there is none that is late
    pub none_late : (got : Option (List (Option ℕ))) (m : UnitMemory) → Each (λ l. is_load tag l ≡ false) m.loads → late got m ≡ m
    none_late got m h = ap (λ ls. record { word = m.word; stores = m.stores; loads = ls }) (other_loads got m.loads h)

    -- events of other loads, of stores, and the request of this load if it got nothing yet
    abbrev pub Suits : Option (List (Option ℕ)) → HistoryEvent → Type 0
    Suits got (LoadRequest n a len e) = ((n == tag) ≡ false) ⊎ ((reads_from a e ≡ address) × (got ≡ None))
    Suits got (LoadResponse n bytes) = (n == tag) ≡ false
    Suits got event = Unit {0}

    -- Hidden steps. ----

    late_done : (got : Option (List (Option ℕ))) (word : List (Option ℕ)) (l : OpenLoad) → is_load tag l ≡ true
        → late_load got (done_load word l) ≡ late_load got l
    late_done got word l h = rw h refl

    other_done : (got : Option (List (Option ℕ))) (word : List (Option ℕ)) (l : OpenLoad) → is_load tag l ≡ false
        → late_load got (done_load word l) ≡ done_load word (late_load got l)
    other_done got word l h = rw h refl

    other_got : (got : Option (List (Option ℕ))) (l : OpenLoad) → is_load tag l ≡ false → l.got ≡ None → (late_load got l).got ≡ None
    other_got got l h e = rw h e

    hides : (got : Option (List (Option ℕ))) (start m n : UnitMemory) (events : List HistoryEvent) → MayBe unit start events (late got m)
        → HiddenStep m n → MayBe unit start events (late got n)
    hides got start m n events r (inl s) =
        steps events _ _ r (inl (s.0, s.1, s.2, s.3, s.4, ap (late got) s.5))
    hides got start m n events r (inr s) =
        let after : UnitMemory = record { word = m.word; stores = m.stores; loads = s.0 ++ done_load _ s.1 ∷ s.2 } in
        let apart : (x : OpenLoad) → map _ _ ≡ map _ s.0 ++ late_load got x ∷ map (late_load
        got) s.2 = λ x. map-append (late_load got) s.0 (x ∷ s.2) in
        subst (λ x. MayBe unit start events (late got x)) (sym s.5) (elim (cases_Bool (is_load tag s.1)) [
          | inl e ↦
              let same : map (late_load got) m.loads ≡ map (late_load got) after.loads =
              ap (map (late_load got)) s.3 ∙ (apart s.1 ∙ (cc (late_done got m.word s.1 e, apart (done_load m.word s.1)))) in
              subst (λ ls. MayBe unit start events (record { word = m.word; stores = m.stores; loads = ls })) same r
          | inr e ↦
              let here : map (late_load got) m.loads ≡ map (late_load got) s.0 ++ late_load got s.1 ∷ map (late_load got) s.2 = ap (map
              (late_load got)) s.3 ∙ apart s.1 in
              let there : map (late_load got) after.loads ≡ map (late_load got) s.0 ++ done_load m.word (late_load got s.1) ∷ map (late_load
              got) s.2 = apart (done_load m.word s.1) ∙ ap (λ x. map (late_load got) s.0 ++ x ∷ map (late_load got) s.2) (other_done got
              m.word s.1 e) in
              steps events (late got m) (late got after) r (inr (
                map (late_load got) s.0,
                late_load got s.1,
                map (late_load got) s.2,
                here,
                other_got got s.1 e s.4,
                ap (λ ls. record { word = m.word; stores = m.stores; loads = ls }) there,
              ))
        ])

    -- Events. ----

    late_new : (got : Option (List (Option ℕ))) (n : ℕ) (a : LoadAddress) → ((n == tag) ≡ false) ⊎ ((a ≡ address) × (got ≡ None))
        → late_load got (record { number = n; address = a; got = None }) ≡ record { number = n; address = a; got = None }
    late_new got n a (inl h) = rw h refl
    late_new got n a (inr h) = elim (cases_Bool (n == tag)) [ inl e ↦ rw (e, h.0, h.1) refl | inr e ↦ rw e refl ]

    sees_load : (got : Option (List (Option ℕ))) (m : UnitMemory) (n : ℕ) (a : LoadAddress) (t : Bool)
        → ((n == tag) ≡ false) ⊎ ((a ≡ address) × (got ≡ None))
        → (if t then with_load n a (late got m) else late got m) ≡ late got (if t then with_load n a m else m)
    sees_load got m n a true h =
        let l : OpenLoad = record { number = n; address = a; got = None } in
        ap (λ ls. record { word = m.word; stores = m.stores; loads = ls }) (sym (cc (map-append _ _ _, late_new got n a h)))
    sees_load got m n a false h = refl

    other_answer : (got : Option (List (Option ℕ))) (n : ℕ) (bytes : List ℕ) → (n == tag) ≡ false → (l : OpenLoad)
        → (not (is_load n l) || is_got unit l.address bytes l.got) ≡ true
        → (not (is_load n l) || is_got unit (late_load got l).address bytes (late_load got l).got) ≡ true
    other_answer got n bytes ne l h = elim (cases_Bool _) [
      | inl e ↦
          let no = false_from_ne_true _ (λ q. both_ways _ ne (eq-eqb n tag (sym (eqb-true l.number n q) ∙
          eqb-true l.number tag e))) in
          rw no refl
      | inr e ↦ rw e h
    ]

    answers_other : (got : Option (List (Option ℕ))) (m : UnitMemory) (n : ℕ) (bytes : List ℕ) → (n == tag) ≡ false
        → may_answer_load unit n bytes m.loads ≡ true → may_answer_load unit n bytes (late got m).loads ≡ true
    answers_other got m n bytes ne h =
        each_all (λ l. not _ || is_got unit l.address bytes l.got) _
        (each_map _ (λ l. (not _ || is_got unit l.address bytes l.got) ≡ true) _
        (each_weaker (λ l. (not (is_load n l) || is_got unit l.address bytes l.got) ≡ true) (λ l.
        (not (is_load n l) || is_got unit (late_load got l).address bytes (late_load got l).got) ≡ true) (other_answer got n bytes ne)
        m.loads (all_each (λ l. not (is_load n l) || is_got unit l.address bytes l.got) m.loads h)))

    sees_store : (got : Option (List (Option ℕ))) (m : UnitMemory) (n : ℕ) (word : List (Option ℕ)) (t : Bool)
        → (if t then with_store n word (late got m) else late got m) ≡ late got (if t then with_store n word m else m)
    sees_store got m n word true = refl
    sees_store got m n word false = refl

    sees_late : (got : Option (List (Option ℕ))) (m k : UnitMemory) (event : HistoryEvent) → Suits got event → seen unit m event ≡ Some k
        → seen unit (late got m) event ≡ Some (late got k)
    sees_late got m k (LoadRequest n a len en) s e =
        ap Some (sees_load got m n (reads_from a en) _ s
        ∙ ap (late got) (same_Some (if is_at unit a len then with_load n (reads_from a en) m else m) k e))
    sees_late got m k (LoadResponse n bytes) s e =
        let p = cond_some _ _ k e in
        let may = answers_other got m n bytes.now s p.0 in
        let left =
        ap (λ ls. record { word = m.word; stores = m.stores; loads = ls }) (filter-map _ (λ l. not (is_load n l)) m.loads) in
        rw may (ap Some (left ∙ ap (late got) p.1))
    sees_late got m k (StoreRequest n a bytes es) s e =
        let word = at_unit unit (stored_byte a bytes.now es) in
        ap Some (sees_store got m n word (list_any is_some word) ∙ ap (late got) (same_Some (if list_any is_some word then with_store n
        word m else m) k e))
    sees_late got m k (StoreResponse n) s e =
        let p = cond_some (may_answer_store n m.stores) (without_store n m) k e in
        rw p.0 (ap Some (ap (late got) p.1))

    -- what the unit may be while the load of the tag is open, if that load got this
    pub follows : (got : Option (List (Option ℕ))) (m k : UnitMemory) (events : List HistoryEvent) → MayBe unit m events k
        → Each (Suits got) events → MayBe unit (late got m) events (late got k)
    follows got m k events starts s = starts
    follows got m k events (steps es h n r step) s = hides got _ h n es (follows got m h es r s) step
    follows got m k events (sees es event h n r e) s =
        let p = each_split _ es _ s in
        sees es event _ _ (follows got m h es r p.0) (sees_late got h n event p.1.0 e)

    -- The load takes effect. ----

    pub settles : (start : UnitMemory) (past : List HistoryEvent) (word : List (Option ℕ)) (stores : List OpenStore) (done ls : List
        OpenLoad) → MayBe unit start past (record { word = word; stores = stores; loads = done ++ map (late_load None) ls })
        → MayBe unit start past (record { word = word; stores = stores; loads = done ++ map (late_load (Some word)) ls })
    settles start past word stores done [] r = r
    settles start past word stores done (l ∷ ls) r =
        let one = late_load (Some word) l in
        let rest = map _ ls in
        let here : MayBe unit start past (record { word = word; stores = stores; loads = done ++ one ∷ rest }) =
        elim (cases_Bool (is_load tag l)) [
          | inl e ↦
              let none : (late_load None l).got ≡ None = (rw e refl) in
              let same : done_load word (late_load None l) ≡ one = (rw e refl) in
              steps past (record { word = word; stores = stores; loads = done ++ late_load None l ∷ rest }) (record {
                word = word;
                stores =
                    stores;
                loads = done ++ one ∷ rest;
              }) r (inr (
                done,
                late_load None l,
                rest,
                refl,
                none,
                ap (λ x. record {
                  word = word;
                  stores =
                      stores;
                  loads = done ++ x ∷ rest;
                }) (sym same),
              ))
          | inr e ↦
              let same : late_load None l ≡ one = (rw e refl) in
              subst (λ x. MayBe unit start past (record { word = word; stores = stores; loads = done ++ x ∷ rest })) same r
        ] in
        subst (λ x. MayBe unit start past (record { word = word; stores = stores; loads = x })) (append_assoc done (one ∷ []) (map
        (late_load (Some word)) ls))
        (settles start past word stores (done ++ one ∷ []) ls (rw (sym (append_assoc done (one ∷ []) rest)) at here))

    -- The load is answered. ----

    its_answer : (word : List (Option ℕ)) (bytes : List ℕ) → is_word_of unit.first word address bytes ≡ true → (l : OpenLoad)
        → (not (is_load tag l) || is_got unit (late_load (Some word) l).address bytes (late_load (Some word) l).got) ≡ true
    its_answer word bytes h l = elim (cases_Bool (is_load tag l)) [ inl e ↦ rw e h | inr e ↦ rw e refl ]

    pub answers_late : (m : UnitMemory) (word : List (Option ℕ)) (bytes : List ℕ) → is_word_of unit.first word address bytes ≡ true
        → may_answer_load unit tag bytes (late (Some word) m).loads ≡ true
    answers_late m word bytes h =
        each_all (λ l. not _ || is_got unit l.address bytes l.got) _
        (each_map _ (λ l. (not (is_load tag l) || is_got unit l.address bytes l.got) ≡ true) m.loads
        (each_always (λ l. (not (is_load tag l) || is_got unit (late_load (Some word) l).address bytes (late_load (Some word) l).got) ≡
        true) (its_answer word bytes h) m.loads))
