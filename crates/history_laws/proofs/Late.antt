-- A run whose last value is late is an atomic history.
use Rattle.std.proofs.Common.{◌≡◌, ℕ, zero, suc, ◌+◌, ◌*◌, ◌<◌, ◌≤◌, Bool, true, false, ◌&&◌, ◌==◌, if◌then◌else◌, List, []}
use Rattle.std.proofs.Common.{◌∷◌, ◌++◌, length, Option, Some, None, slice_get, inl, inr, refl, sym, ap, ◌∙◌, subst, eq-eqb, eqb-true}
use Rattle.std.proofs.Common.{append-nil, append_assoc}
use Rattle.std.specs.Prelude.{is_none, is_some, IsTrue}
use Rattle.std.specs.Borrow.{Bor}
use Rattle.std.specs.List.{list_any}
use Rattle.std.specs.Option.{option_and_then}
use Rattle.std.proofs.lemmas.Bool.{and_parts, ltb-true, not-true, false_from_ne_true}
use Rattle.atomic_histories.proofs.Links.{is_allowed, reads}
use Rattle.memory_histories.specs.declared.events.HistoryEvent.{HistoryEvent}
use Rattle.memory_histories.specs.declared.events.TheConstants.{ALL_ENABLED}
use Rattle.memory_histories.specs.declared.events.HistoryEvent.TheVariants.{LoadRequest, LoadResponse, StoreRequest, StoreResponse}
use Rattle.memory_histories.specs.declared.events.HistoryFault.{HistoryFault}
use Rattle.memory_histories.specs.declared.events.Rest.TheVariants.{Zeros}
use Rattle.memory_histories.specs.declared.reasons.Owed.{Owed}
use Rattle.memory_histories.specs.Flat.{Flat, is_paid_by, flat_fault, flat_after, flat_run}
use Rattle.memory_histories.specs.Flat as flat
use Rattle.atomic_histories.specs.declared.unit.UnitPlace.{UnitPlace}
use Rattle.atomic_histories.specs.declared.unit.LoadAddress.{LoadAddress}
use Rattle.atomic_histories.specs.declared.unit.Operation.{Operation}
use Rattle.atomic_histories.specs.Words.{reads_from, is_word_of}
use Rattle.atomic_histories.specs.Operations.{Opened, none_opened, opened_after, form_fault}
use Rattle.atomic_histories.specs.Law.{OpenLoad, UnitMemory, IsAtomic, MayBe, starts, sees, is_load, may_answer_load}
use Rattle.atomic_histories.specs.Law.{without_load, unit_at, is_formed}
use Rattle.atomic_histories.specs.Stands.{Each, One}
use Rattle.atomic_histories.proofs.Lists.{each_weaker, each_append, one_weaker}
use Rattle.machine_core.specs.Words.{Word, Event, Load, Store, Prefetch, Evict, Drain, Serve, Arrive, Process, Take, Answer, Accepted}
use Rattle.machine_core.specs.Words.{Moved, Value, Nothing, Refused}
use Rattle.flat_model.specs.Words.{Lane0, Lane1, Lane2, Lane3}
use Rattle.flat_model.specs.Flat.{word_at, same_word, may_answer}
use Rattle.flat_model.specs.Flat as model
use Rattle.machine_core.proofs.Walking.{same_word-same}
use Rattle.history_laws.specs.Told.{word_bytes, image_bytes, seen_bytes, told_events, told_history}
use Rattle.history_laws.specs.Late.{is_value_of, has_no_value, HasStood, LateIsAtomic}
use Rattle.history_laws.proofs.Pieces.{Marked, is_number, no_other}
use Rattle.history_laws.proofs.Open.{any_operation, marked_after}
use Rattle.history_laws.proofs.Flat.{owed_byte, owed_number, owed_named, IsBound, Holds, got_paid, next, Agrees, agrees_after}
use Rattle.history_laws.proofs.Flat.{formed_after, formed_from, first_agrees, first_holds}
use Rattle.history_laws.proofs.Told.{Tells, eqb_swap, known_paid, value_taken, told_step, run_append, first_tells}
use Rattle.history_laws.proofs.Delay.{and_then, late, none_late, Suits, follows, settles, answers_late}

-- Told runs. ----

pub step_parts : (b : Bool) (t g : model.Flat) (events : List Event) (answers : List Answer) → option_and_then (λ x.
    model.flat_run x events answers) (if b then Some t else None) ≡ Some g → (b ≡ true) × (model.flat_run t events answers ≡ Some g)
step_parts true t g events answers h = (refl, h)
step_parts false t g events answers h = cc

told_append : (s g : model.Flat) (events : List Event) (answers : List Answer) (more : List Event) (more_answers : List Answer)
    → model.flat_run s events answers ≡ Some g
    → told_history (events ++ more) (answers ++ more_answers) ≡ told_history events answers ++ told_history more more_answers
told_append s g [] [] more more_answers h = refl
told_append s g [] (answer ∷ answers) more more_answers h = cc
told_append s g (event ∷ events) [] more more_answers h = cc
told_append s g (event ∷ events) (answer ∷ answers) more more_answers h =
    let p = step_parts _ _ g events answers h in
    ap (λ t. told_events event answer ++ t) (told_append (model.flat_after s event answer) g events answers more more_answers p.1) ∙ sym
    (append_assoc (told_events event answer) (told_history events answers) (told_history more more_answers))

pub nested : {X : Type 0} (xs : List X) (x : X) (ys zs ws : List X) → (xs ++ x ∷ (ys ++ zs)) ++ ws ≡ xs ++ x ∷ (ys ++ (zs ++ ws))
nested xs x ys zs ws = cc (append_assoc xs _ ws, append_assoc ys zs ws)

-- events in which this tag doesn't come
abbrev Spares : ℕ → HistoryEvent → Type 0
Spares tag (LoadRequest n address len enables) = (n == tag) ≡ false
Spares tag (LoadResponse n bytes) = (n == tag) ≡ false
Spares tag event = Unit {0}

-- what is told of a step spares the tag of an open load, and it stays open
abbrev Keeps : ℕ → Word → List HistoryEvent → model.Flat → Type 0
Keeps tag v told s = Each (Spares tag) told × (s.due tag ≡ Some v)

not_free : (s : model.Flat) (tag t : ℕ) (v : Word) → s.due tag ≡ Some v → is_none (s.due t) ≡ true → (t == tag) ≡ false
not_free s tag t v h free = false_from_ne_true _ (λ q. let none = subst (λ x.
    is_none (s.due x) ≡ true) (eqb-true t tag q) free in let some = subst (λ o. is_none o ≡ true) h none in cc)

other_due : (s : model.Flat) (tag t : ℕ) (v : Word) (o : Option Word) → s.due tag ≡ Some v → (t == tag) ≡ false
    → model.with_due s.due t o tag ≡ Some v
other_due s tag t v o h ne = let flip = eqb_swap tag t ∙ ne in rw flip h

keeps_step : (s : model.Flat) (tag : ℕ) (v : Word) (event : Event) (answer : Answer) → s.due tag ≡ Some v
    → may_answer s event answer ≡ true → is_value_of tag event answer ≡ false
    → Keeps tag v (told_events event answer) (model.flat_after s event answer)
keeps_step s tag v (Load t at) Accepted h may still =
    let p = and_parts _ _ may in
    let ne = not_free s tag t v h p.1 in
    ((ne, tt), other_due s tag t v _ h ne)
keeps_step s tag v (Load t at) Moved h may still = (tt, h)
keeps_step s tag v (Load t at) (Value u w) h may still = (tt, h)
keeps_step s tag v (Load t at) Nothing h may still = (tt, h)
keeps_step s tag v (Load t at) (Refused c) h may still = (tt, h)
keeps_step s tag v (Store at word lanes) Accepted h may still = ((tt, (tt, tt)), h)
keeps_step s tag v (Store at word lanes) Moved h may still = (tt, h)
keeps_step s tag v (Store at word lanes) (Value u w) h may still = (tt, h)
keeps_step s tag v (Store at word lanes) Nothing h may still = (tt, h)
keeps_step s tag v (Store at word lanes) (Refused c) h may still = (tt, h)
keeps_step s tag v (Prefetch at) answer h may still = (tt, h)
keeps_step s tag v (Evict block) answer h may still = (tt, h)
keeps_step s tag v Drain answer h may still = (tt, h)
keeps_step s tag v (Serve bank) answer h may still = (tt, h)
keeps_step s tag v (Arrive bank p) answer h may still = (tt, h)
keeps_step s tag v (Process p) answer h may still = (tt, h)
keeps_step s tag v (Take p) Accepted h may still = (tt, h)
keeps_step s tag v (Take p) Moved h may still = (tt, h)
keeps_step s tag v (Take p) (Value t w) h may still = ((still, tt), other_due s tag t v None h still)
keeps_step s tag v (Take p) Nothing h may still = (tt, h)
keeps_step s tag v (Take p) (Refused c) h may still = (tt, h)

keeps_run : (s g : model.Flat) (tag : ℕ) (v : Word) (events : List Event) (answers : List Answer) → s.due tag ≡ Some v
    → model.flat_run s events answers ≡ Some g → has_no_value tag events answers ≡ true → Keeps tag v (told_history events answers) g
keeps_run s g tag v [] [] h r still = let same : s ≡ g = cc in (tt, subst (λ x. x.due tag ≡ Some v) same h)
keeps_run s g tag v [] (answer ∷ answers) h r still = cc
keeps_run s g tag v (event ∷ events) [] h r still = cc
keeps_run s g tag v (event ∷ events) (answer ∷ answers) h r still =
    let p = step_parts _ _ g events answers r in
    let q = and_parts _ _ still in
    let one = keeps_step s tag v event answer h p.0 (not-true (is_value_of tag event answer) q.0) in
    let more = keeps_run (model.flat_after s event answer) g tag v events answers one.1 p.1 q.1 in
    (each_append _ _ _ one.0 more.0, more.1)

run_to : (n : ℕ) (fits : n ≤ 4611686018427387904) (s g : model.Flat) (f : Flat) (events : List Event) (answers : List Answer) → Tells n s f
    → model.flat_run s events answers ≡ Some g → (k : Flat) × ((flat_run f (told_history events answers) ≡ Some k) × Tells n g k)
run_to n fits s g f [] [] t r = let same : s ≡ g = cc in (f, (refl, subst (λ x. Tells n x f) same t))
run_to n fits s g f [] (answer ∷ answers) t r = cc
run_to n fits s g f (event ∷ events) [] t r = cc
run_to n fits s g f (event ∷ events) (answer ∷ answers) t r =
    let p = step_parts _ _ g events answers r in
    let one = told_step n fits s f event answer t p.0 in
    let more = run_to n fits (model.flat_after s event answer) g one.0 events answers one.1.1 p.1 in
    (more.0, (run_append n fits (told_events event answer) _ f one.0 one.1.0 ∙ more.1.0, more.1.1))

-- each byte of a word that stands at an address
byte_paid : (paid : ℕ → ℕ → Bool) (word : Word) → paid 0 word.b0 ≡ true → paid 1 word.b1 ≡ true → paid 2 word.b2 ≡ true
    → paid 3 word.b3 ≡ true → (i b : ℕ) → slice_get (word_bytes word) i ≡ Some b → paid i b ≡ true
byte_paid paid word p0 p1 p2 p3 zero b e = let same : word.b0 ≡ b = cc in subst (λ x. paid 0 x ≡ true) same p0
byte_paid paid word p0 p1 p2 p3 (suc zero) b e = let same : word.b1 ≡ b = cc in subst (λ x. paid 1 x ≡ true) same p1
byte_paid paid word p0 p1 p2 p3 (suc (suc zero)) b e = let same : word.b2 ≡ b = cc in subst (λ x. paid 2 x ≡ true) same p2
byte_paid paid word p0 p1 p2 p3 (suc (suc (suc zero))) b e = let same : word.b3 ≡ b = cc in subst (λ x. paid 3 x ≡ true) same p3
byte_paid paid word p0 p1 p2 p3 (suc (suc (suc (suc i)))) b e = cc

word_paid : (n : ℕ) (fits : n ≤ 4611686018427387904) (s : model.Flat) (f : Flat) (at : ℕ) (word : Word) → Tells n s f → at < n
    → same_word (word_at s.mem at) word ≡ true → (i b : ℕ) → slice_get (word_bytes word) i ≡ Some b
    → is_paid_by (f.memory (4 * at + i)) b ≡ true
word_paid n fits s f at word t low same i b e =
    let v = word_at s.mem at in
    let p = and_parts _ _ same in
    let q = and_parts _ _ p.1 in
    let r = and_parts _ _ q.1 in
    byte_paid (λ j. λ c. is_paid_by (f.memory (4 * at + j)) c) word (known_paid n fits (f.memory (4 * at + 0)) v.b0 word.b0 (t.words at
    Lane0 low) p.0) (known_paid n fits (f.memory (4 * at + 1)) v.b1 word.b1 (t.words at Lane1 low) q.0) (known_paid n fits (f.memory (4 *
    at + 2)) v.b2 word.b2 (t.words at Lane2 low) r.0) (known_paid n fits (f.memory (4 * at + 3)) v.b3 word.b3 (t.words at Lane3 low) r.1)
    i b e

-- At one unit. ----

to_cases : (p : Option HistoryFault) (e : Option HistoryFault) → p ≡ e → (x g : Flat) (events : List HistoryEvent) → option_and_then (λ y.
    flat_run y events) (if is_none p then Some x else None) ≡ Some g → (p ≡ None) × (flat_run x events ≡ Some g)
to_cases None e same x g events h = (refl, h)
to_cases (Some c) e same x g events h = cc

run_parts_to : (f g : Flat) (event : HistoryEvent) (events : List HistoryEvent) → flat_run f (event ∷ events) ≡ Some g
    → (flat_fault f event ≡ None) × (flat_run (flat_after f event) events ≡ Some g)
run_parts_to f g event events h = to_cases _ _ refl _ g events h

module _ (unit : UnitPlace) where
  -- what the unit may be after a flat run, if operations take effect right behind their requests
  record Reached (start : UnitMemory) (history : List HistoryEvent) (f : Flat) : Type 0 where
    pub memory : UnitMemory
    pub opened : Opened
    pub marks : List (Marked (ℕ → Owed))
    pub may : MayBe unit start history memory
    pub holds : Holds unit f marks memory
    pub agrees : Agrees opened f marks

  reaches : (start : UnitMemory) (past future : List HistoryEvent) (o : Opened) (f g : Flat) (ks : List (Marked (ℕ
      → Owed))) (m : UnitMemory) → MayBe unit start past m → Holds unit f ks m → Agrees o f ks → flat_run f future ≡ Some g
      → Reached start (past ++ future) g
  reaches start past [] o f g ks m r h a e =
      let same : f ≡ g = cc in
      record {
        memory = m;
        opened = o;
        marks = ks;
        may = subst (λ x. MayBe unit start x m) (sym (append-nil past)) r;
        holds = subst (λ x. Holds unit x ks m) same h;
        agrees = subst (λ x. Agrees o x ks) same a;
      }
  reaches start past (event ∷ events) o f g ks m r h a e =
      let p = run_parts_to f g event events e in
      let s = next unit start past o f ks m event r h a p.0 in
      subst (λ x. Reached start x g) (append_assoc past (event ∷ []) events)
      (reaches start (past ++ event ∷ []) events (opened_after o event) (flat_after f event) g (marked_after f.memory ks event) s.0 s.1.0
      s.1.1 (agrees_after o f ks event a (formed_after o f ks event a p.0)) p.1)

  -- no load is open under a number that may be requested
  no_mark : (o : Opened) (f : Flat) (ks : List (Marked (ℕ → Owed))) (tag address len en : ℕ) → Agrees o f ks
      → flat_fault f (LoadRequest tag address len en) ≡ None → list_any (is_number tag) ks ≡ false
  no_mark o f ks tag address len en a e =
      sym (any_operation owed_byte owed_number owed_named ks o.loads tag a.loads.operations)
      ∙ (is_allowed _ _ _ (formed_after o f ks (LoadRequest tag address len en) a e)).1.1

  other_number : (ks : List (Marked (ℕ → Owed))) (tag : ℕ) → list_any (is_number tag) ks ≡ false → (l : OpenLoad)
      → One (IsBound unit l) ks → is_load tag l ≡ false
  other_number ks tag none l b = false_from_ne_true _ (λ q. no_other ks tag (λ k. (l.address ≡ reads k.operation)
      × (l.got ≡ Some _)) (one_weaker _ (λ k. (k.operation.number ≡ tag)
      × ((l.address ≡ reads k.operation) × (l.got ≡ Some _))) (λ k c. (c.0 ∙ eqb-true l.number tag q, c.1)) ks b)
      none)

  suits : (tag : ℕ) (address : LoadAddress) (got : Option (List (Option ℕ))) (event : HistoryEvent) → Spares tag event
      → Suits unit tag address got event
  suits tag address got (LoadRequest n a len e) s = inl s
  suits tag address got (LoadResponse n bytes) s = s
  suits tag address got (StoreRequest n a bytes e) s = tt
  suits tag address got (StoreResponse n) s = tt

  -- the answer of a load that takes effect between `until` and `behind`
  comes_late : (start : UnitMemory) (o : Opened) (f0 f1 f2 f3 : Flat) (ks : List (Marked (ℕ
      → Owed))) (before until behind : List HistoryEvent) (tag address len en : ℕ) (bytes : Bor (List ℕ))
      → Holds unit f0 ks start → Agrees o f0 ks
      → flat_run f0 before ≡ Some f1 → flat_run f1 (LoadRequest tag address len en ∷ until) ≡ Some f2 → flat_run f2 behind ≡ Some f3
      → Each (Spares tag) until → Each (Spares tag) behind → length bytes.now ≡ len
      → ((i b : ℕ) → slice_get bytes.now i ≡ Some b → is_paid_by (f2.memory (address + i)) b ≡ true)
      → (k : UnitMemory) × MayBe unit start (before ++ LoadRequest tag address len en ∷ (until ++ (behind ++ LoadResponse tag bytes
      ∷ []))) k
  comes_late start o f0 f1 f2 f3 ks before until behind tag address len en bytes h a e1 e2 e3 s2 s3 long paid =
      let from = reads_from address en in
      let request = LoadRequest tag address len en in
      let first = reaches start [] before o f0 f1 ks start starts h a e1 in
      let m1 = first.memory in
      let p = run_parts_to f1 f2 request until e2 in
      let none = no_mark first.opened f1 first.marks tag address len en first.agrees p.0 in
      let others = each_weaker (λ l. One _ first.marks) (λ l.
      is_load tag l ≡ false) (other_number first.marks tag none) _ first.holds.bound in
      let second = reaches m1 [] (request ∷ until) first.opened f1 f2 first.marks m1 starts first.holds first.agrees e2 in
      let m2 = second.memory in
      let spared2 = each_weaker _ _ (suits tag from
      None) until s2 in
      let to_moment = subst (λ x.
      MayBe unit x (request ∷ until) (late unit tag from None m2)) (none_late unit tag from None m1 others)
      (follows unit tag from None m1 m2 _ second.may (inr (refl, refl), spared2)) in
      let at_moment =
      settles unit tag from start _ _ _ [] m2.loads (and_then unit start m1 (late unit tag
      from None m2) before (request ∷ until) first.may to_moment) in
      let third = reaches m2 [] behind second.opened f2 f3 second.marks m2 starts second.holds second.agrees e3 in
      let m3 : UnitMemory = third.memory in
      let spared3 : Each _ behind = each_weaker _ _
      (suits tag from (Some m2.word)) behind s3 in
      let m4 : UnitMemory = late unit tag from _ m3 in
      let to_end : MayBe unit start _ m4 =
      and_then unit start _ m4 _ behind at_moment (follows unit tag
      from (Some m2.word) m2 m3 behind third.may spared3) in
      let asked : Operation = record { number = tag; address = address; length = len; enables = en } in
      let k : Marked (ℕ → Owed) = record { operation = asked; mark = f2.memory } in
      let right : is_word_of unit.first _ from bytes.now ≡ true = subst (λ w.
      is_word_of unit.first w from bytes.now ≡ true) (sym second.holds.word) (got_paid unit k bytes.now long (λ i b g l x. paid i b g)) in
      let may : may_answer_load unit tag bytes.now _ ≡ true = answers_late unit tag from m3 _ bytes.now right in
      let all : MayBe unit start _ _ =
      sees _ _ m4 _ to_end (rw may refl) in (
        without_load tag m4,
        subst (λ x. MayBe unit start x (without_load tag m4)) (append_assoc _ behind _ ∙ append_assoc before _ _) all,
      )

-- The law. ----

-- whether an answer is malformed depends on how many bytes it has
same_form : (o : Opened) (history : List HistoryEvent) (tag : ℕ) (v w : Word)
    → is_formed o (history ++ LoadResponse tag (seen_bytes (word_bytes v)) ∷ []) ≡ is_formed o (history
    ++ LoadResponse tag (seen_bytes (word_bytes w)) ∷ [])
same_form o [] tag v w = refl
same_form o (event ∷ events) tag v w = ap (λ t. is_none (form_fault o event) && t) (same_form (opened_after o event) events tag v w)

now_due : (s : model.Flat) (tag : ℕ) (v : Word) → model.with_due s.due tag (Some v) tag ≡ Some v
now_due s tag v = rw (eq-eqb tag tag refl) refl

its_due : (o : Option Word) (v : Word) → o ≡ Some v → model.is_owed o v ≡ true
its_due None v h = cc
its_due (Some u) v h = let same : u ≡ v = cc in subst (λ x. same_word x v ≡ true) (sym same) (same_word-same v)

-- a history of four flat parts
parts_run : (n : ℕ) (fits : n ≤ 4611686018427387904) (f0 f1 f2 f3 f4 : Flat) (before until behind more : List HistoryEvent) (asked :
    HistoryEvent) → flat_run f0 before ≡ Some f1 → flat_run f1 (asked ∷ until) ≡ Some f2 → flat_run f2 behind ≡ Some f3
    → flat_run f3 more ≡ Some f4 → IsTrue (is_some (flat_run f0 (before ++ asked ∷ (until ++ (behind ++ more)))))
parts_run n fits f0 f1 f2 f3 f4 before until behind more asked e1 e2 e3 e4 =
    ap is_some (run_append n fits before _ f0 f1 e1
    ∙ (run_append n fits (asked ∷ until) _ f1 f2 e2 ∙ (run_append n fits behind more f2 f3 e3 ∙ e4)))

-- the same history with another word at its end
other_word : (before until behind : List HistoryEvent) (asked : HistoryEvent) (tag : ℕ) (v w : Word)
    → is_formed none_opened (before ++ asked ∷ (until ++ (behind ++ LoadResponse tag (seen_bytes (word_bytes v)) ∷ []))) ≡ true
    → is_formed none_opened (before ++ asked ∷ (until ++ (behind ++ LoadResponse tag (seen_bytes (word_bytes w)) ∷ []))) ≡ true
other_word before until behind asked tag v w h =
    let apart : (x : HistoryEvent) → ((before ++ asked ∷ until) ++ behind) ++ x ∷ [] ≡ before ++ asked ∷ (until ++ (behind ++ x ∷ [])) = λ
    x. append_assoc _ behind _ ∙ append_assoc before _ _ in
    ap (is_formed none_opened) (sym (apart (LoadResponse tag (seen_bytes (word_bytes w)))))
    ∙ (sym (same_form none_opened ((before ++ asked ∷ until) ++ behind) tag v w)
    ∙ (ap (is_formed none_opened) (apart (LoadResponse tag (seen_bytes (word_bytes v)))) ∙ h))

module _ (image : List Word) (size : ℕ) (events : List Event) (answers : List Answer) (tag step : ℕ) (word : Word) where
  late_told : (s : HasStood image events answers tag word)
      → told_history (events ++ Take step ∷ []) (answers ++ Value tag word ∷ []) ≡ told_history s.before s.before_answers
      ++ LoadRequest tag (4 * s.at) 4 ALL_ENABLED ∷ (told_history s.until s.until_answers ++ (told_history s.behind s.behind_answers
      ++ LoadResponse tag (seen_bytes (word_bytes word)) ∷ []))
  late_told s =
      let request = Load tag s.at in
      let whole =
      ap (λ x. x ++ Take step ∷ []) s.events_are ∙ nested s.before request s.until s.behind _ in
      let whole_answers =
      ap (λ x. x ++ Value tag word ∷ []) s.answers_are ∙ nested s.before_answers Accepted s.until_answers s.behind_answers _ in
      (λ i. told_history (whole i) (whole_answers i))
      ∙ (told_append _ s.first s.before s.before_answers _ _ s.runs_first
      ∙ ap (λ t. told_history s.before s.before_answers ++ LoadRequest tag (4 * s.at) 4 ALL_ENABLED ∷ t)
      (told_append _ s.moment s.until s.until_answers _
      _ s.runs_until
      ∙ ap (λ t. told_history s.until s.until_answers ++ t) (told_append s.moment s.last s.behind s.behind_answers (Take step ∷ []) (Value
      tag word ∷ []) s.runs_behind)))

  pub late_is_atomic : LateIsAtomic image size events answers tag step word
  late_is_atomic = λ fits s.
      let n = length image in
      let request = Load tag s.at in
      let asked = LoadRequest tag _ 4 ALL_ENABLED in
      let f0 = flat.opening _ Zeros in
      let v = word_at s.first.mem s.at in
      let before = told_history s.before s.before_answers in
      let until = told_history s.until s.until_answers in
      let behind = told_history s.behind s.behind_answers in
      let p = and_parts _ _ s.accepted in
      let first = run_to n fits _ s.first f0 s.before s.before_answers (first_tells Zeros image) s.runs_first in
      let low = subst (λ m. s.at < m) first.1.1.size (ltb-true s.at (length s.first.mem) p.0) in
      let one = told_step n fits s.first first.0 request Accepted first.1.1 s.accepted in
      let moment = run_to n fits _ s.moment one.0 s.until s.until_answers one.1.1 s.runs_until in
      let last = run_to n fits s.moment s.last moment.0 s.behind s.behind_answers moment.1.1 s.runs_behind in
      let to_moment = run_append n fits (asked ∷ []) until first.0 one.0 one.1.0 ∙
      moment.1.0 in
      let keeps = keeps_run _ s.moment tag v s.until s.until_answers (now_due s.first tag v)
      s.runs_until s.open_until in
      let keeps_on = keeps_run s.moment s.last tag v s.behind s.behind_answers keeps.1 s.runs_behind s.open_behind in
      let paid = value_taken n fits s.last last.0 last.1.1 tag v (its_due (s.last.due tag) v keeps_on.1) in
      let right = LoadResponse tag _ ∷ [] in
      let runs = parts_run n fits f0 first.0 moment.0 last.0 paid.0 before until behind right asked first.1.0 to_moment last.1.0 paid.1.0 in
      let formed =
      formed_from none_opened f0 [] (before ++ asked ∷ (until ++ (behind ++ right))) (first_agrees (image_bytes image) Zeros) runs in
      subst (IsAtomic (image_bytes image) Zeros size) (sym (late_told s)) (record {
        formed = other_word before until behind asked tag v word formed;
        moments = λ k. comes_late _ _ none_opened f0 first.0 moment.0
            last.0 [] before until behind tag _ 4 ALL_ENABLED _ (first_holds (image_bytes image) Zeros (unit_at
            size k)) (first_agrees (image_bytes image) Zeros) first.1.0 to_moment last.1.0 keeps.0 keeps_on.0 refl (word_paid n fits
            s.moment moment.0 s.at word moment.1.1 low s.stood);
      })
