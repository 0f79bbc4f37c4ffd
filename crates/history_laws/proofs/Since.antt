-- What stood at an address since a load was accepted, by the fold over the lines of a run, stood there at some moment of the run.
use Rattle.std.proofs.Common.{◌≡◌, ℕ, ◌+◌, Bool, true, false, not, ◌==◌, if◌then◌else◌, nat_lt, List, [], ◌∷◌, ◌++◌, length, Option}
use Rattle.std.proofs.Common.{Some, None, inl, inr, refl, sym, ap, ◌∙◌, subst, eqb-true, append-nil, append_assoc}
use Rattle.std.specs.List.{list_any}
use Rattle.std.proofs.lemmas.Bool.{cases_Bool, and_parts, and_from, ltb-true, both_ways}
use Rattle.std.proofs.lemmas.List.{get_or-set_same}
use Rattle.machine_core.specs.Words.{Word, Lanes, Event, Load, Store, Prefetch, Evict, Drain, Serve, Arrive, Process, Take, Answer}
use Rattle.machine_core.specs.Words.{Accepted, Moved, Value, Nothing, Refused}
use Rattle.flat_model.specs.Words.{zero_word, has_any, merged}
use Rattle.flat_model.specs.Flat.{Flat, opening, word_at, same_word, may_answer, flat_after, flat_run}
use Rattle.trace_text.specs.Pairs.{pair_of}
use Rattle.trace_text.specs.Checks.{step_of, event_of, answer_of, events_in, answers_in}
use Rattle.trace_text.specs.declared.check.Step.{Step}
use Rattle.run_reasons.specs.declared.origins.AcceptedLoad.{AcceptedLoad}
use Rattle.run_reasons.specs.declared.origins.TagUse.{TagUse}
use Rattle.run_reasons.specs.declared.origins.TagUse.TheVariants.{Never, Loaded, Taken}
use Rattle.run_reasons.specs.declared.reason.Reason.{Reason}
use Rattle.run_reasons.specs.declared.reason.Reason.TheVariants.{HasLanes, NoLanes}
use Rattle.run_reasons.specs.declared.reason.Mismatch.{Mismatch}
use Rattle.run_reasons.specs.Origins.{Origins, beginning, accepted_load, is_open_at, tags_after, since_after, origins_after, origins_then}
use Rattle.run_reasons.specs.Origins.{origins_from, origins_of}
use Rattle.run_reasons.specs.Reasons.{is_ever, never, is_out_of_range, tag_reason, value_reason, place_reason, reason_here, reason_of}
use Rattle.atomic_histories.specs.Law.{IsAtomic}
use Rattle.memory_histories.specs.declared.events.Rest.TheVariants.{Zeros}
use Rattle.atomic_histories.specs.Stands.{Each, One}
use Rattle.atomic_histories.proofs.Lists.{each_weaker, each_append, one_each, one_elim}
use Rattle.history_laws.specs.Told.{image_bytes, told_history}
use Rattle.history_laws.specs.Late.{is_value_of, has_no_value, HasStood}
use Rattle.history_laws.specs.Since.{has_stood_since, ToldLateIsAtomic}
use Rattle.history_laws.proofs.Told.{eqb_swap}
use Rattle.machine_core.proofs.Walking.{same_word-same}
use Rattle.history_laws.proofs.Late.{step_parts, nested, late_is_atomic}

-- Runs with one step more. ----

run_more : (s g : Flat) (events : List Event) (answers : List Answer) (event : Event) (answer : Answer) → flat_run s events answers ≡ Some g
    → may_answer g event answer ≡ true → flat_run s (events ++ event ∷ []) (answers ++ answer ∷ []) ≡ Some (flat_after g event answer)
run_more s g [] [] event answer r may =
    let same : s ≡ g = cc in
    subst (λ x. flat_run x (event ∷ []) (answer ∷ []) ≡ Some (flat_after g event answer)) (sym same) (rw may refl)
run_more s g [] (y ∷ ys) event answer r may = cc
run_more s g (x ∷ xs) [] event answer r may = cc
run_more s g (x ∷ xs) (y ∷ ys) event answer r may =
    let p = step_parts (may_answer s x y) (flat_after s x y) g xs ys r in
    rw p.0 (run_more (flat_after s x y) g xs ys event answer p.1 may)

no_value_more : (s g : Flat) (tag : ℕ) (events : List Event) (answers : List Answer) (event : Event) (answer : Answer)
    → flat_run s events answers ≡ Some g → has_no_value tag events answers ≡ true → is_value_of tag event answer ≡ false
    → has_no_value tag (events ++ event ∷ []) (answers ++ answer ∷ []) ≡ true
no_value_more s g tag [] [] event answer r h v = rw v refl
no_value_more s g tag [] (y ∷ ys) event answer r h v = cc
no_value_more s g tag (x ∷ xs) [] event answer r h v = cc
no_value_more s g tag (x ∷ xs) (y ∷ ys) event answer r h v =
    let p = step_parts (may_answer s x y) (flat_after s x y) g xs ys r in
    let q = and_parts (not (is_value_of tag x y)) (has_no_value tag xs ys) h in
    and_from (not (is_value_of tag x y)) (has_no_value tag (xs ++ event ∷ []) (ys ++ answer ∷ [])) q.0 (no_value_more (flat_after s x y) g
    tag xs ys event answer p.1 q.1 v)

-- in this flat run, which leaves memory so, a load is accepted under the tag and open from then to the end
record IsOpen (image : List Word) (events : List Event) (answers : List Answer) (now : Flat) (tag at : ℕ) : Type 0 where
  pub before : List Event
  pub until : List Event
  pub before_answers : List Answer
  pub until_answers : List Answer
  pub events_are : events ≡ before ++ Load tag at ∷ until
  pub answers_are : answers ≡ before_answers ++ Accepted ∷ until_answers
  pub first : Flat
  pub runs_first : flat_run (opening image) before before_answers ≡ Some first
  pub accepted : may_answer first (Load tag at) Accepted ≡ true
  pub runs_until : flat_run (flat_after first (Load tag at) Accepted) until until_answers ≡ Some now
  pub open_until : has_no_value tag until until_answers ≡ true

record IsLate (image : List Word) (events : List Event) (answers : List Answer) (now : Flat) (tag : ℕ) (word : Word) : Type 0 where
  pub stands : HasStood image events answers tag word
  pub last_is : stands.last ≡ now

module _ (image : List Word) where
  open_more : (events : List Event) (answers : List Answer) (now : Flat) (tag at : ℕ) (event : Event) (answer : Answer)
      → IsOpen image events answers now tag at → may_answer now event answer ≡ true → is_value_of tag event answer ≡ false
      → IsOpen image (events ++ event ∷ []) (answers ++ answer ∷ []) (flat_after now event answer) tag at
  open_more events answers now tag at event answer o may v =
      let begun = flat_after o.first (Load tag at) Accepted in
      record {
        before = o.before;
        until = o.until ++ event ∷ [];
        before_answers = o.before_answers;
        until_answers = o.until_answers ++ answer ∷ [];
        events_are = ap (λ x. x ++ event ∷ []) o.events_are ∙ append_assoc o.before (Load tag at ∷ o.until) (event ∷ []);
        answers_are = ap (λ x. x ++ answer ∷ []) o.answers_are ∙ append_assoc o.before_answers (Accepted ∷ o.until_answers) (answer ∷ []);
        first = o.first;
        runs_first = o.runs_first;
        accepted = o.accepted;
        runs_until = run_more begun now o.until o.until_answers event answer o.runs_until may;
        open_until = no_value_more begun now tag o.until o.until_answers event answer o.runs_until o.open_until v;
      }

  late_more : (events : List Event) (answers : List Answer) (now : Flat) (tag : ℕ) (word : Word) (event : Event) (answer : Answer)
      → IsLate image events answers now tag word → may_answer now event answer ≡ true → is_value_of tag event answer ≡ false
      → IsLate image (events ++ event ∷ []) (answers ++ answer ∷ []) (flat_after now event answer) tag word
  late_more events answers now tag word event answer l may v =
      let h = l.stands in
      let may_here = subst (λ x. may_answer x event answer ≡ true) (sym l.last_is) may in
      record {
        stands = record {
          at = h.at;
          before = h.before;
          until = h.until;
          behind = h.behind ++ event ∷ [];
          before_answers = h.before_answers;
          until_answers = h.until_answers;
          behind_answers = h.behind_answers ++ answer ∷ [];
          events_are = ap (λ x. x ++ event ∷ []) h.events_are ∙ nested h.before _ h.until h.behind _;
          answers_are = ap (λ x. x ++ answer ∷ []) h.answers_are ∙ nested h.before_answers Accepted h.until_answers h.behind_answers _;
          first = h.first;
          moment = h.moment;
          last = flat_after h.last event answer;
          runs_first = h.runs_first;
          accepted = h.accepted;
          runs_until = h.runs_until;
          stood = h.stood;
          runs_behind = run_more h.moment h.last h.behind h.behind_answers event answer h.runs_behind may_here;
          open_until = h.open_until;
          open_behind = no_value_more h.moment h.last tag h.behind h.behind_answers event answer h.runs_behind h.open_behind v;
        };
        last_is = ap (λ x. flat_after x event answer) l.last_is;
      }

  -- what stands there at the end stood there
  late_now : (events : List Event) (answers : List Answer) (now : Flat) (tag at : ℕ) (word : Word) → IsOpen image events answers now tag at
      → same_word (word_at now.mem at) word ≡ true → IsLate image events answers now tag word
  late_now events answers now tag at word o same = record {
    stands = record {
      at = at;
      before = o.before;
      until = o.until;
      behind = [];
      before_answers = o.before_answers;
      until_answers = o.until_answers;
      behind_answers = [];
      events_are = o.events_are ∙ ap (λ t. o.before ++ Load tag at ∷ t) (sym (append-nil o.until));
      answers_are = o.answers_are ∙ ap (λ t. o.before_answers ++ Accepted ∷ t) (sym (append-nil o.until_answers));
      first = o.first;
      moment = now;
      last = now;
      runs_first = o.runs_first;
      accepted = o.accepted;
      runs_until = o.runs_until;
      stood = same;
      runs_behind = refl;
      open_until = o.open_until;
      open_behind = refl;
    };
    last_is = refl;
  }

  -- The fold over lines. ----

  -- these origins are those of a flat run, of which they say what they say
  record Explained (o : Origins) (events : List Event) (answers : List Answer) : Type 0 where
    pub runs : flat_run (opening image) events answers ≡ Some o.flat
    pub open_loads : (tag : ℕ) (load : AcceptedLoad) → o.tags tag ≡ Loaded load → IsOpen image events answers o.flat tag load.at
    pub stood : (tag : ℕ) (load : AcceptedLoad) → o.tags tag ≡ Loaded load → Each (λ w. IsLate image events answers o.flat tag w) (o.since
        tag)

  module _ (o : Origins) (events : List Event) (answers : List Answer) (n : ℕ) (h : Explained o events answers) where
    abbrev Next : Event → Answer → Type 0
    Next event answer = Explained (origins_after o n event answer) (events ++ event ∷ []) (answers ++ answer ∷ [])

    still_open : (event : Event) (answer : Answer) → may_answer o.flat event answer ≡ true → (tag : ℕ) (load : AcceptedLoad)
        → o.tags tag ≡ Loaded load → is_value_of tag event answer ≡ false
        → IsOpen image (events ++ event ∷ []) (answers ++ answer ∷ []) (flat_after o.flat event answer) tag load.at
    still_open event answer may tag load e v = open_more events answers o.flat tag load.at event answer (h.open_loads tag load e) may v

    still_stood : (event : Event) (answer : Answer) → may_answer o.flat event answer ≡ true → (tag : ℕ) (load : AcceptedLoad)
        → o.tags tag ≡ Loaded load → is_value_of tag event answer ≡ false
        → Each (λ w. IsLate image (events ++ event ∷ []) (answers ++ answer ∷ []) (flat_after o.flat event answer) tag w) (o.since tag)
    still_stood event answer may tag load e v =
        each_weaker (λ w. IsLate image events answers o.flat tag w) (λ w.
        IsLate image (events ++ event ∷ []) (answers ++ answer ∷ []) (flat_after o.flat event answer) tag w) (λ w l.
        late_more events answers o.flat tag w event answer l may v) (o.since tag) (h.stood tag load e)

    more : (event : Event) (answer : Answer) → may_answer o.flat event answer ≡ true
        → flat_run (opening image) (events ++ event ∷ []) (answers ++ answer ∷ []) ≡ Some (flat_after o.flat event answer)
    more event answer may = run_more _ o.flat events answers event answer h.runs may

    unchanged : (event : Event) (answer : Answer) → may_answer o.flat event answer ≡ true → ((tag : ℕ)
        → is_value_of tag event answer ≡ false) → tags_after o n event answer ≡ o.tags → since_after o event answer ≡ o.since
        → Next event answer
    unchanged event answer may v same same_since = record {
      runs = more event answer may;
      open_loads = λ tag load e. still_open event answer may tag load (rw same at e) (v tag);
      stood = λ tag load e. subst (λ f. Each (λ w.
          IsLate image (events ++ event ∷ []) (answers ++ answer ∷ []) (flat_after o.flat event answer) tag w) (f tag)) (sym same_since)
          (still_stood event answer may tag load (rw same at e) (v tag));
    }

    -- a load is accepted
    loaded : (t at : ℕ) → may_answer o.flat (Load t at) Accepted ≡ true → Next (Load t at) Accepted
    loaded t at may = record {
      runs = more (Load t at) Accepted may;
      open_loads = λ tag load e. elim (cases_Bool (tag == t)) [
        | inl q ↦
            let this = (rw q at e) in
            let same : accepted_load o n at ≡ load = cc in
            let here : IsOpen image (events ++ Load t at ∷ []) (answers ++ Accepted ∷ []) (flat_after o.flat (Load t at) Accepted) t at =
            record {
              before = events;
              until = [];
              before_answers = answers;
              until_answers = [];
              events_are = refl;
              answers_are = refl;
              first = o.flat;
              runs_first = h.runs;
              accepted = may;
              runs_until = refl;
              open_until = refl;
            } in
            subst (λ x. IsOpen image (events ++ Load t at ∷ []) (answers ++ Accepted ∷ []) (flat_after o.flat (Load t at) Accepted) x
            load.at) (sym (eqb-true tag t q))
            (subst (λ x. IsOpen image (events ++ Load t at ∷ []) (answers ++ Accepted ∷ []) (flat_after o.flat (Load t at) Accepted) t x)
            (ap (λ l. l.at) same) here)
        | inr q ↦ still_open (Load t at) Accepted may tag load (rw q at e) refl
      ];
      stood = λ tag load e. elim (cases_Bool (tag == t)) [
        | inl q ↦ rw q tt
        | inr q ↦ rw q (still_stood (Load t at) Accepted may tag load (rw q at e) refl)
      ];
    }

    -- a store is accepted
    left : (at : ℕ) (word : Word) (lanes : Lanes) → may_answer o.flat (Store at word lanes) Accepted ≡ true
        → (tag : ℕ) (load : AcceptedLoad) → o.tags tag ≡ Loaded load → is_open_at at (o.tags tag) ≡ true
        → IsLate image (events ++ Store at word lanes ∷ []) (answers ++ Accepted ∷ []) (flat_after o.flat (Store at word lanes) Accepted)
        tag (merged (word_at o.flat.mem at) word lanes)
    left at word lanes may tag load e q =
        let p = and_parts (nat_lt at (length o.flat.mem)) (has_any lanes) may in
        let w = merged (word_at o.flat.mem at) word lanes in
        let now = flat_after o.flat (Store at word lanes) Accepted in
        let here = eqb-true load.at at (rw e at q) in
        let stands = get_or-set_same o.flat.mem at w zero_word (ltb-true at (length o.flat.mem) p.0) in
        late_now (events ++ Store at word lanes ∷ []) (answers ++ Accepted ∷ []) now tag at w
        (rw here at (still_open (Store at word lanes) Accepted may tag load e refl))
        (subst (λ v. same_word v w ≡ true) (sym stands) (same_word-same w))

    stored : (at : ℕ) (word : Word) (lanes : Lanes) → may_answer o.flat (Store at word lanes) Accepted ≡ true
        → Next (Store at word lanes) Accepted
    stored at word lanes may = record {
      runs = more (Store at word lanes) Accepted may;
      open_loads = λ tag load e. still_open (Store at word lanes) Accepted may tag load e refl;
      stood = λ tag load e. elim (cases_Bool (is_open_at at (o.tags tag))) [
        | inl q ↦ rw q (each_append (λ w. IsLate image (events ++ Store at word lanes ∷ []) (answers ++ Accepted ∷ []) (flat_after o.flat
            (Store at word lanes) Accepted) tag w) (o.since tag) (merged (word_at o.flat.mem at) word lanes ∷ []) (still_stood (Store at
            word lanes) Accepted may tag load e refl) (left at word lanes may tag load e q, tt))
        | inr q ↦ rw q (still_stood (Store at word lanes) Accepted may tag load e refl)
      ];
    }

    -- a load gets its value
    taken : (p t : ℕ) (word : Word) → may_answer o.flat (Take p) (Value t word) ≡ true → Next (Take p) (Value t word)
    taken p t word may = record {
      runs = more (Take p) (Value t word) may;
      open_loads = λ tag load e. elim (cases_Bool (tag == t)) [
        | inl q ↦ let this = (rw q at e) in cc
        | inr q ↦ still_open (Take p) (Value t word) may tag load (rw q at e) (eqb_swap t tag ∙ q)
      ];
      stood = λ tag load e. elim (cases_Bool (tag == t)) [
        | inl q ↦ rw q tt
        | inr q ↦ rw q (still_stood (Take p) (Value t word) may tag load (rw q at e) (eqb_swap t tag ∙ q))
      ];
    }

    next : (event : Event) (answer : Answer) → may_answer o.flat event answer ≡ true → Next event answer
    next (Load t at) Accepted may = loaded t at may
    next (Load t at) Moved may = unchanged (Load t at) Moved may (λ x. refl) refl refl
    next (Load t at) (Value u w) may = unchanged (Load t at) (Value u w) may (λ x. refl) refl refl
    next (Load t at) Nothing may = unchanged (Load t at) Nothing may (λ x. refl) refl refl
    next (Load t at) (Refused c) may = unchanged (Load t at) (Refused c) may (λ x. refl) refl refl
    next (Store at word lanes) Accepted may = stored at word lanes may
    next (Store at word lanes) Moved may = unchanged (Store at word lanes) Moved may (λ x. refl) refl refl
    next (Store at word lanes) (Value u w) may = unchanged (Store at word lanes) (Value u w) may (λ x. refl) refl refl
    next (Store at word lanes) Nothing may = unchanged (Store at word lanes) Nothing may (λ x. refl) refl refl
    next (Store at word lanes) (Refused c) may = unchanged (Store at word lanes) (Refused c) may (λ x. refl) refl refl
    next (Prefetch at) answer may = unchanged (Prefetch at) answer may (λ x. refl) refl refl
    next (Evict block) answer may = unchanged (Evict block) answer may (λ x. refl) refl refl
    next Drain answer may = unchanged Drain answer may (λ x. refl) refl refl
    next (Serve bank) answer may = unchanged (Serve bank) answer may (λ x. refl) refl refl
    next (Arrive bank p) answer may = unchanged (Arrive bank p) answer may (λ x. refl) refl refl
    next (Process p) answer may = unchanged (Process p) answer may (λ x. refl) refl refl
    next (Take p) Accepted may = unchanged (Take p) Accepted may (λ x. refl) refl refl
    next (Take p) Moved may = unchanged (Take p) Moved may (λ x. refl) refl refl
    next (Take p) (Value t word) may = taken p t word may
    next (Take p) Nothing may = unchanged (Take p) Nothing may (λ x. refl) refl refl
    next (Take p) (Refused c) may = unchanged (Take p) (Refused c) may (λ x. refl) refl refl

  -- a line, which may be no step
  then_line : (g : Flat) (n : ℕ) (o : Origins) (texts : List (List ℕ)) (r : Option Step) (events : List Event) (answers : List Answer)
      → ((o' : Origins) (es : List Event) (ys : List Answer) → Explained o' es ys → flat_run o'.flat (events_in texts) (answers_in
      texts) ≡ Some g → Explained (origins_from (n + 1) o' texts) (es ++ events_in texts) (ys ++ answers_in texts))
      → Explained o events answers → flat_run o.flat (event_of r ++ events_in texts) (answer_of r ++ answers_in texts) ≡ Some g
      → Explained (origins_from (n + 1) (origins_then o n r) texts) (events ++ (event_of r ++ events_in texts)) (answers ++ (answer_of r
      ++ answers_in texts))
  then_line g n o texts None events answers f h r = f o events answers h r
  then_line g n o texts (Some step) events answers f h r =
      let p = step_parts (may_answer o.flat step.event step.answer) (flat_after o.flat step.event step.answer) g (events_in texts)
      (answers_in texts) r in
      let all = f (origins_after o n step.event step.answer) (events ++ step.event ∷ []) (answers ++ step.answer ∷ []) (next o events
      answers n h step.event step.answer p.0) p.1 in
      let last : Origins = origins_from (n + 1) (origins_after o n step.event step.answer) texts in
      subst (λ es. Explained last es (answers ++ step.answer ∷ answers_in texts)) (append_assoc events (step.event ∷ []) (events_in texts))
      (subst (λ ys. Explained last ((events ++ step.event ∷ []) ++ events_in texts) ys) (append_assoc answers (step.answer ∷ []) (answers_in
      texts)) all)

  from_lines : (g : Flat) (n : ℕ) (o : Origins) (texts : List (List ℕ)) (events : List Event) (answers : List Answer)
      → Explained o events answers → flat_run o.flat (events_in texts) (answers_in texts) ≡ Some g
      → Explained (origins_from n o texts) (events ++ events_in texts) (answers ++ answers_in texts)
  from_lines g n o [] events answers h r =
      subst (λ es. Explained o es (answers ++ [])) (sym (append-nil events)) (subst (λ ys. Explained o events ys) (sym (append-nil answers))
      h)
  from_lines g n o (text ∷ texts) events answers h r = then_line g n o texts (step_of (pair_of text)) events answers (λ o' es ys k e.
      from_lines g (n + 1) o' texts es ys k e) h r

  begins : Explained (beginning image) [] []
  begins = record { runs = refl; open_loads = λ tag load e. cc; stood = λ tag load e. tt }

-- The reason. ----

-- a value is told, under the tag of a load that is open, which stood there since
record IsLateValue (o : Origins) (event : Event) (answer : Answer) : Type 0 where
  pub step : ℕ
  pub tag : ℕ
  pub word : Word
  pub load : AcceptedLoad
  pub event_is : event ≡ Take step
  pub answer_is : answer ≡ Value tag word
  pub is_loaded : o.tags tag ≡ Loaded load
  pub has : list_any (λ v. same_word v word) (o.since tag) ≡ true

value_case : (o : Origins) (p tag : ℕ) (word : Word) (u : TagUse) → o.tags tag ≡ u → has_stood_since (value_reason o tag word u) ≡ true
    → IsLateValue o (Take p) (Value tag word)
value_case o p tag word Never e h = cc
value_case o p tag word (Loaded load) e h = record {
  step = p;
  tag = tag;
  word = word;
  load = load;
  event_is = refl;
  answer_is = refl;
  is_loaded = e;
  has = h;
}
value_case o p tag word (Taken n) e h = cc

never_stood : (answer : Answer) → has_stood_since (never answer) ≡ false
never_stood Accepted = refl
never_stood Moved = refl
never_stood (Value t w) = refl
never_stood Nothing = refl
never_stood (Refused c) = refl

tag_stood : (tag : ℕ) (u : TagUse) → has_stood_since (tag_reason tag u) ≡ false
tag_stood tag Never = refl
tag_stood tag (Loaded load) = refl
tag_stood tag (Taken n) = refl

lanes_stood : (b : Bool) → has_stood_since (if b then HasLanes else NoLanes) ≡ false
lanes_stood true = refl
lanes_stood false = refl

place_stood : (o : Origins) (at : ℕ) (answer : Answer) (other : Reason) → has_stood_since other ≡ false
    → has_stood_since (place_reason o at answer other) ≡ false
place_stood o at answer other h = elim (cases_Bool (nat_lt at (length o.flat.mem))) [
  | inl q ↦ elim (cases_Bool (is_out_of_range answer)) [ inl r ↦ rw (q, r) refl | inr r ↦ rw (q, r) h ]
  | inr q ↦ rw q refl
]

value_here : (o : Origins) (event : Event) (answer : Answer) → has_stood_since (reason_here o event answer) ≡ true
    → IsLateValue o event answer
value_here o (Load tag at) answer h =
    let f = place_stood o at answer (tag_reason tag (o.tags tag)) (tag_stood tag (o.tags tag)) in
    absurd (both_ways (has_stood_since (place_reason o at answer (tag_reason tag (o.tags tag)))) f h)
value_here o (Store at word lanes) answer h =
    let other = if has_any lanes then HasLanes else NoLanes in
    absurd (both_ways (has_stood_since (place_reason o at answer other)) (place_stood o at answer other (lanes_stood (has_any lanes))) h)
value_here o (Prefetch at) answer h =
    absurd (both_ways (has_stood_since (place_reason o at answer (never answer))) (place_stood o at answer (never answer) (never_stood
    answer)) h)
value_here o (Evict block) answer h = absurd (both_ways (has_stood_since (never answer)) (never_stood answer) h)
value_here o Drain answer h = absurd (both_ways (has_stood_since (never answer)) (never_stood answer) h)
value_here o (Serve bank) answer h = absurd (both_ways (has_stood_since (never answer)) (never_stood answer) h)
value_here o (Arrive bank p) answer h = absurd (both_ways (has_stood_since (never answer)) (never_stood answer) h)
value_here o (Process p) answer h = absurd (both_ways (has_stood_since (never answer)) (never_stood answer) h)
value_here o (Take p) Accepted h = cc
value_here o (Take p) Moved h = cc
value_here o (Take p) (Value tag word) h = value_case o p tag word (o.tags tag) refl h
value_here o (Take p) Nothing h = cc
value_here o (Take p) (Refused c) h = cc

late_value : (o : Origins) (event : Event) (answer : Answer) → has_stood_since (reason_of o event answer) ≡ true
    → IsLateValue o event answer
late_value o event answer h = elim (cases_Bool (is_ever event answer)) [
  | inl q ↦ value_here o event answer (rw q at h)
  | inr q ↦ absurd (both_ways (has_stood_since (never answer)) (never_stood answer) (rw q at h))
]

-- The law. ----

same_is : (v w : Word) → same_word v w ≡ true → v ≡ w
same_is v w h =
    let p = and_parts _ _ h in
    let q = and_parts _ _ p.1 in
    let r = and_parts _ _ q.1 in
    let e0 = eqb-true v.b0 w.b0 p.0 in
    let e1 = eqb-true v.b1 w.b1 q.0 in
    let e2 = eqb-true v.b2 w.b2 r.0 in
    let e3 = eqb-true v.b3 w.b3 r.1 in
    λ i. record { b0 = e0 i; b1 = e1 i; b2 = e2 i; b3 = e3 i }

one_passes : {X : Type 0} (p : X → Bool) (xs : List X) → list_any p xs ≡ true → One (λ x. p x ≡ true) xs
one_passes p [] h = cc
one_passes p (x ∷ xs) h = elim (cases_Bool (p x)) [ inl e ↦ inl e | inr e ↦ inr (one_passes p xs (rw e at h)) ]

pub told_late_is_atomic : (words : List Word) (size : ℕ) (texts : List (List ℕ)) (steps : ℕ) (found : List ℕ) (m : Mismatch)
    → ToldLateIsAtomic words size texts steps found m
told_late_is_atomic words size texts steps found m = λ fits flat mismatch told.
    let o = origins_of words texts in
    let h = from_lines words o.flat 1 (beginning words) texts [] [] (begins words)
    flat.1 in
    let v = late_value o m.event m.answer (cc (mismatch.why, told)) in
    let stood =
    one_elim (λ w. (same_word w v.word ≡ true) × IsLate words (events_in texts) (answers_in texts) o.flat v.tag w) _ (o.since v.tag)
    (one_each (λ w. same_word w v.word ≡ true) (λ w. IsLate words (events_in texts) (answers_in texts) o.flat v.tag w) (o.since v.tag)
    (one_passes (λ w. same_word w v.word) (o.since v.tag) v.has) (h.stood v.tag v.load v.is_loaded))
    (λ w q. subst (HasStood words (events_in texts) (answers_in texts) v.tag) (same_is w v.word q.0) q.1.stands) in
    let atomic = late_is_atomic words size (events_in texts) (answers_in texts) v.tag v.step v.word fits stood in
    subst (λ e. IsAtomic (image_bytes words) Zeros size (told_history (events_in texts ++ e ∷ []) (answers_in texts ++ m.answer ∷ []))) (sym
    v.event_is)
    (rw (sym v.answer_is) at atomic)
