-- A log that is read whole, line by line, and how its reading ends.
use Rattle.std.proofs.Common.{◌≡◌, ℕ, ◌+◌, ◌≤◌, Option, Some, None, Result, Ok, Err, List, [], ◌∷◌, ◌++◌, length, length-append, sym, ◌∙◌}
use Rattle.std.proofs.Common.{ap, ap₂, subst, append_assoc, append-nil, arith, inl, inr}
use Rattle.std.specs.Prelude.{map}
use Rattle.std.specs.List.{AllByRecursion, range_with_len}
use Rattle.std.proofs.lemmas.List.FromFn.{map-range_with_len_more, length-map-range_with_len}
use Rattle.flat_model.specs.declared.Event.{Event}
use Rattle.trace_text.specs.Codes.{most_lines}
use Rattle.trace_text.specs.Collecting.{ReadsWithin}
use Rattle.trace_text.specs.Requests.{IsRequest}
use Rattle.trace_text.specs.declared.lines.LineFault.{LineFault}
use Rattle.trace_text.specs.declared.reading.Stop.{Stop}
use Rattle.trace_text.specs.declared.reading.Stop.TheVariants.{Halted}
use Rattle.trace_text.proofs.Serving.{all_then}
use Rattle.access_logs.specs.declared.access.Access.{Access}
use Rattle.access_logs.specs.declared.access.AccessKind.{AccessKind}
use Rattle.access_logs.specs.declared.access.AccessKind.TheVariants.{Load, Store, Modify}
use Rattle.access_logs.specs.declared.reading.AccessGroup.{AccessGroup}
use Rattle.access_logs.specs.declared.fault.LogFault.{LogFault}
use Rattle.access_logs.specs.Accesses.{word_count_of}
use Rattle.access_logs.specs.Requests.{load_of, store_of, loads_of, stores_of, requests_by, requests_of, count_by, request_count_of}
use Rattle.access_logs.specs.Logs.{LogState, log_start, access_told, state_after, requests_for, state_behind, requests_in, groups_for}
use Rattle.access_logs.specs.Logs.{groups_in, fault_by}
use Rattle.access_logs.specs.Reads.{HasRoom, FindsNoRoom, LogFails, Kept, KeptMore, Halts, HaltsAt}
use Rattle.access_logs.proofs.Logs.{state_more, requests_more}
use Rattle.access_logs.specs.declared.pages.TheConstants.{MAX_PAGES}
use Rattle.access_logs.specs.declared.writing.TheConstants.{MOST_LOG_LINES}

-- ---- how many requests an access has

loads_counted : (pages : List ℕ) (tag : ℕ) (a : Access) → length (loads_of pages tag a) ≡ word_count_of a
loads_counted pages tag a = length-map-range_with_len _ 0 _

stores_counted : (pages : List ℕ) (number : ℕ) (a : Access) → length (stores_of pages number a) ≡ word_count_of a
stores_counted pages number a = length-map-range_with_len _ 0 _

count_of_kind : (k : AccessKind) (pages : List ℕ) (tag number : ℕ) (a : Access)
    → length (requests_by k pages tag number a) ≡ count_by k (word_count_of a)
count_of_kind Load pages tag number a = loads_counted pages tag a
count_of_kind Store pages tag number a = stores_counted pages number a
count_of_kind Modify pages tag number a = grind (arith, length-append, loads_counted, stores_counted)

pub requests_counted : (a : Access) (pages : List ℕ) (tag number : ℕ) → length (requests_of pages tag number a) ≡ request_count_of a
requests_counted a pages tag number = count_of_kind a.kind pages tag number a

-- ---- they are requests

loads_are : (pages : List ℕ) (tag : ℕ) (a : Access) (l : List ℕ) → AllByRecursion IsRequest (map (load_of pages tag a) l)
loads_are pages tag a [] = tt
loads_are pages tag a (i ∷ l) = (tt, loads_are pages tag a l)

stores_are : (pages : List ℕ) (number : ℕ) (a : Access) (l : List ℕ) → AllByRecursion IsRequest (map (store_of pages number a) l)
stores_are pages number a [] = tt
stores_are pages number a (i ∷ l) = (tt, stores_are pages number a l)

asked_by_kind : (k : AccessKind) (pages : List ℕ) (tag number : ℕ) (a : Access)
    → AllByRecursion IsRequest (requests_by k pages tag number a)
asked_by_kind Load pages tag number a = loads_are pages tag a _
asked_by_kind Store pages tag number a = stores_are pages number a _
asked_by_kind Modify pages tag number a = grind (arith, all_then, loads_are, stores_are)

asked_of : (s : LogState) (said : Option Access) → AllByRecursion IsRequest (requests_for s said)
asked_of s None = tt
asked_of s (Some a) = asked_by_kind a.kind _ s.tag _ a

pub log_asks : (access_in : List ℕ → Result (Option Access) LineFault) (s : LogState) (texts : List (List ℕ))
    → AllByRecursion IsRequest (requests_in access_in s texts)
log_asks access_in s [] = tt
log_asks access_in s (text ∷ texts) =
    let said = access_told (access_in text) in
    all_then IsRequest _ _ (asked_of s said)
    (log_asks access_in (state_after s said) texts)

-- ---- the requests of the words from the first on

pub pushed_next : (f : ℕ → Event) (i : ℕ) (e : Event) (old mid new : List Event) → mid ≡ old ++ map f (range_with_len 0 i)
    → new ≡ mid ++ e ∷ [] → e ≡ f i → new ≡ old ++ map f (range_with_len 0 (i + 1))
pushed_next f i e old mid new p q r =
    let upto = map f (range_with_len 0 i) in
    q ∙ ap₂ (λ x y. x ++ y ∷ []) p r ∙ append_assoc old upto _
    ∙ ap (λ l. old ++ l) (sym (map-range_with_len_more f 0 i i (omega arith)))

-- ---- one line more

groups_more : (access_in : List ℕ → Result (Option Access) LineFault) (texts : List (List ℕ)) (text : List ℕ)
    → groups_in access_in (texts ++ text ∷ []) ≡ groups_in access_in texts ++ groups_for (access_told (access_in text))
groups_more access_in [] text = append-nil _
groups_more access_in (t ∷ ts) text =
    let first = groups_for _ in
    ap (λ l. first ++ l) (groups_more access_in ts text)
    ∙ sym (append_assoc first (groups_in access_in ts) (groups_for (access_told (access_in text))))

-- what is kept with a line more, if it has an access or none
kept_with : {access_in : List ℕ → Result (Option Access) LineFault} {room : ℕ} {texts : List
    (List ℕ)} {s s' : LogState} {asked asked' : List Event} {groups groups' : List AccessGroup} (text : List ℕ) (said : Option Access)
    → Ok said ≡ access_in text → Kept access_in room texts s asked groups
    → s' ≡ state_after s said → s'.lines ≡ s.lines + 1 → asked' ≡ asked ++ requests_for s said → groups' ≡ groups ++ groups_for said
    → length s'.pages ≤ room → length asked' ≤ most_lines
    → Kept access_in room (texts ++ text ∷ []) s' asked' groups'
kept_with {access_in = access_in} {room = room} {texts = texts} {s = s} {s' = s'} {asked' = asked'} {groups' = groups'} text said e p after
    next asks touches pages few =
    let told : said ≡ access_told (access_in text) = ap access_told e in
    let behind = state_behind access_in log_start texts in
    let before = requests_in access_in log_start texts in
    let state : s' ≡ state_behind access_in log_start (texts ++ text ∷ []) =
    after ∙ ap (λ x. state_after x said) p.state ∙ ap (state_after behind) told ∙ sym (state_more access_in log_start texts text) in
    let requests : asked' ≡ requests_in access_in log_start (texts ++ text ∷ []) =
    asks ∙ ap₂ (λ l x. l ++ requests_for x said) p.requests p.state ∙ ap (λ o. before ++ requests_for behind o) told
    ∙ sym (requests_more access_in log_start texts text) in
    record {
      state = state;
      number = omega (arith, next, p.number, length-append texts (text ∷ []));
      requests = requests;
      grouped = touches ∙ ap₂ (λ l o. l ++ groups_for o) p.grouped told ∙ sym (groups_more access_in texts text);
      fits = record {
        pages = subst (λ x. length x.pages ≤ room) state pages;
        requests = subst (λ l. length l ≤ most_lines) requests few;
      };
    }

-- a line without an access
pub kept_passed : {access_in : List ℕ → Result (Option Access) LineFault} {room : ℕ} {texts : List
    (List ℕ)} {s : LogState} {asked : List Event} {groups : List AccessGroup} (text : List ℕ) (s' : LogState)
    → Ok None ≡ access_in text → Kept access_in room texts s asked groups → s' ≡ state_after s None
    → Kept access_in room (texts ++ text ∷ []) s' asked groups
kept_passed {room = room} {s = s} {asked = asked} {groups = groups} text s' e p after =
    let pages = subst (λ x. length x.pages ≤ room) (sym p.state) p.fits.pages in
    let few = subst (λ l. length l ≤ most_lines) (sym p.requests) p.fits.requests in
    kept_with text None e p after (ap (λ x. x.lines) after) (sym (append-nil asked)) (sym (append-nil groups))
    (subst (λ x. length x.pages ≤ room) (sym after) pages) few

-- a line with one
pub kept_line : {access_in : List ℕ → Result (Option Access) LineFault} {room : ℕ} {texts : List
    (List ℕ)} {s s' : LogState} {asked asked' : List Event} {groups groups' : List AccessGroup} (text : List ℕ) (a : Access)
    → Ok (Some a) ≡ access_in text → Kept access_in room texts s asked groups → KeptMore room s asked groups a s' asked' groups'
    → Kept access_in room (texts ++ text ∷ []) s' asked' groups'
kept_line text a e p q = kept_with text _ e p q.state (ap (λ x. x.lines) q.state) q.requests q.grouped q.pages q.few

-- ---- how a reading ends

-- what a collector of lines, with its state, its room, what it keeps and its fault, has done
abbrev pub Went : {S : Type 0} (access_in : List ℕ → Result (Option Access) LineFault) (st : S → LogState) (rm : S → ℕ)
    (rq : S → List Event) (ac : S → List AccessGroup) (ft : S → Option LogFault) → S → List (List ℕ) → S → Type 0
Went access_in st rm rq ac ft s texts t =
    Kept access_in (rm t) texts (st t) (rq t) (ac t) × (rm t ≡ rm s) × (rm t ≤ MAX_PAGES) × (ft t ≡ None)

-- how one stops
abbrev pub Stopped : {S : Type 0} (access_in : List ℕ → Result (Option Access) LineFault) (st : S → LogState) (rm : S → ℕ)
    (rq : S → List Event) (ft : S → Option LogFault) → S → List ℕ → S → Type 0
Stopped access_in st rm rq ft s text t = HaltsAt access_in (rm s) (st s) (length (rq s)) text (ft t)

module _ {R S : Type 0} (gave : R → List ℕ → R → Type 0) (failed : R → R → Type 0) (access_in : List ℕ → Result (Option Access) LineFault)
    (st : S → LogState) (rm : S → ℕ) (rq : S → List Event) (ac : S → List AccessGroup) (ft : S → Option LogFault) (r r' : R)
    (c c' : S) where
  abbrev Ending : Result (Unit {0}) Stop → Type 0
  Ending = ReadsWithin gave failed (fault_by access_in) (Went access_in st rm rq ac ft) (Stopped access_in st rm rq ft) (λ s t. t ≡ s)
      (λ s t. ⊥) 768 MOST_LOG_LINES r r' c c'

  pub log_without_room : (f : LogFault) → Ending (Err Halted) → ft c' ≡ Some f → LogFails gave failed access_in (rm c) r r' f
  log_without_room f h e =
      let v = h.2 in
      let went = h.3 in
      let kept = went.0 in
      let room = subst (λ n. HasRoom access_in n h.0) went.1 kept.fits in
      elim h.4 [
        | inl before ↦ absurd before.1
        | inr into ↦ elim into.1 [
          | inl unpaused ↦ absurd unpaused
          | inr at ↦
              let first = at.1 in
              let stopped = first.4 in
              let halts = subst (Halts (rm v) (st v) (length (rq v)) stopped.0) e stopped.2 in
              let roomy = subst (λ n. FindsNoRoom n (st v) (length (rq v)) stopped.0 f) went.1 halts in
              let placed = subst (λ s. FindsNoRoom (rm c) s (length (rq v)) stopped.0 f) kept.state roomy in
              let found = subst (λ l. FindsNoRoom (rm c) (state_behind access_in log_start h.0) (length l) stopped.0 f) kept.requests
              placed in
              inr (h.0, room, inr (h.1, into.0, at.0, (first.0, first.1, first.2, first.3, (stopped.0, stopped.1, found))))
        ]
      ]

  pub log_stopped : (f : LogFault) (stop : Stop) → stop ≡ Halted → Ending (Err stop) → ft c' ≡ Some f
      → LogFails gave failed access_in (rm c) r r' f
  log_stopped f stop e h kept = grind (arith, log_without_room)
