-- What is kept of a history judges it as the law does.
use Rattle.std.proofs.Common.{◌≡◌, ℕ, ◌+◌, Bool, ◌||◌, not, List, map, Option, None, Some, Result, Ok, Err, get_or, refl, sym, ap, arith}
use Rattle.std.specs.Prelude.{OnOk, IfErr}
use Rattle.std.specs.List.{All, filter, find, list_any}
use Rattle.std.specs.Option.{option_map}
use Rattle.std.proofs.lemmas.List.{length-map, map-append, map-id}
use Rattle.std.proofs.lemmas.List.Elements.{All-append, All-map, All-filter}
use Rattle.memory_histories.specs.declared.events.HistoryEvent.{HistoryEvent}
use Rattle.memory_histories.specs.declared.events.HistoryEvent.TheVariants.{LoadRequest, LoadResponse, StoreRequest, StoreResponse}
use Rattle.memory_histories.specs.declared.events.StepFault.{StepFault}
use Rattle.memory_histories.specs.declared.events.Rest.{Rest}
use Rattle.memory_histories.specs.declared.windows.StoreByte.{StoreByte}
use Rattle.memory_histories.specs.declared.kept.OpenByte.{OpenByte}
use Rattle.memory_histories.specs.Windows.{Windows, load_byte, windows_after, stores_after, loads_after}
use Rattle.memory_histories.specs.Windows as windows
use Rattle.memory_histories.specs.Regular.{fault, may_return, may_return_byte, is_allowed}
use Rattle.memory_histories.specs.Kept.{Kept, opened_at, is_open_of, next_stores, next_answered, next_open, is_seen, is_unanswered}
use Rattle.memory_histories.specs.Kept.{is_open_at, may_have, shown_set, kept_fault, kept_after, kept_step, IsTimely, IsExact, StandsFor}
use Rattle.memory_histories.specs.Kept as keeps
use Rattle.memory_histories.specs.Sets.{has}
use Rattle.memory_histories.proofs.ByteSets.{has-all_bytes}
use Rattle.memory_histories.specs.Shown.{KeptFaultIs, StepFaultIs, IsSetOf}
use Rattle.memory_histories.proofs.Lists.{list_any-map, filter-map, map-map, find-map, find-All, position-zip}
use Rattle.memory_histories.proofs.Live.{list_any-open, filter-open, answered_seen, unanswered_after, left_answered, covered_answered}
use Rattle.memory_histories.proofs.Requests.{store_bytes-new, unanswered_requested, seen_requested, opened_exact, requested_exact}

-- Faults. ----

same_may : (w : Windows) (o : OpenByte) (b : ℕ) → has o.may b ≡ may_return_byte w.image w.rest w.stores o.load b
    → may_have o b ≡ may_return w o.load b
same_may w o b h = ap (λ x. not o.load.enabled || x) h

pub fault_same : (k : Kept) (w : Windows) (event : HistoryEvent) → StandsFor k w → kept_fault k event ≡ fault w event
fault_same k w (LoadResponse n bytes) s =
    rw (
      ← s.load_bytes,
      filter-map,
      ← position-zip (λ o. o.load) may_have (may_return w) (filter (is_open_of n) k.open_bytes) bytes.now
          (λ i d l b. same_may w (get_or (filter (is_open_of n) k.open_bytes) i d) b
          ((All-filter (is_open_of n) (IsExact w) k.open_bytes s.exact i d l).1 b)),
      length-map,
    ) refl
fault_same k w event s = grind (arith, list_any-map, list_any-open)

-- Steps. ----

module _ (k : Kept) (w : Windows) (s : StandsFor k w) where
  open_after : (event : HistoryEvent) → next_stores k event ≡ filter is_unanswered (stores_after w event)
  open_after (StoreRequest n a bytes e) =
      rw (s.open_stores, s.same_moment) (sym (unanswered_requested w.moment w.stores _ (store_bytes-new n a bytes.now e w.moment)))
  open_after (StoreResponse n) = rw s.open_stores (unanswered_after n w.moment w.stores)
  open_after event = s.open_stores

  seen_after : (event : HistoryEvent) (unit : ℕ) (test : StoreByte → Bool) → list_any test (next_answered k event unit)
      ≡ list_any test (filter (is_seen unit (stores_after w event)) (stores_after w event))
  seen_after (StoreRequest n a bytes e) unit test =
      rw (seen_requested w.moment w.stores _ (store_bytes-new n a bytes.now e w.moment) unit) (s.answered_stores unit test)
  seen_after (StoreResponse n) unit test = rw (s.open_stores, filter-open, s.same_moment)
      (answered_seen n w.moment w.stores s.timely unit _ (s.answered_stores unit) test)
  seen_after event unit test = s.answered_stores unit test

  load_after : (event : HistoryEvent) → map (λ o. o.load) (next_open k event) ≡ loads_after w event
  load_after (LoadRequest n a len e) = rw (map-append, s.load_bytes, map-map, map-id, s.same_moment) refl
  load_after (LoadResponse n bytes) = grind (arith, filter-map)
  load_after (StoreRequest n a bytes e) = rw map-map s.load_bytes
  load_after (StoreResponse n) = s.load_bytes

  exact_after : (event : HistoryEvent) → All (IsExact (windows_after w event)) (next_open k event)
  exact_after (LoadRequest n a len e) =
      let later = windows_after w (LoadRequest n a len e) in
      let f = opened_at k.image k.rest k.stores k.answered in
      All-append (IsExact later) k.open_bytes _ (λ i d l. grind (arith, s.exact i d))
      (All-map (IsExact later) f _ (All-map (λ l. IsExact later (f l)) _ _ (λ i d l. (
        grind arith,
        λ b. rw (s.same_image, s.same_rest, s.open_stores)
            (opened_exact w.image w.rest w.moment w.stores _ s.timely (load_byte n a e k.moment (get_or _ i d))
            s.same_moment (s.answered_stores _) b),
      ))))
  exact_after (LoadResponse n bytes) =
      All-filter (λ o. not _) (IsExact (windows_after w (LoadResponse n bytes))) k.open_bytes
      (λ i d l. grind (arith, s.exact i d))
  exact_after (StoreRequest n a bytes e) =
      rw s.same_moment (All-map (IsExact (windows_after w (StoreRequest n a bytes e))) _ k.open_bytes (λ i d l.
      let h = s.exact i d l in
      let o = get_or k.open_bytes i d in (
        grind arith,
        λ b. requested_exact w.image w.rest w.moment w.stores _ (store_bytes-new n a bytes.now e w.moment) o.load o.may b
            (h.1 b),
      )))
  exact_after (StoreResponse n) = λ i d l.
      let h = s.exact i d l in (grind arith, λ b. let e = h.1 b in grind (arith, left_answered, covered_answered))

  timely_after : (event : HistoryEvent) → All (IsTimely (w.moment + 1)) (stores_after w event)
  timely_after (StoreRequest n a bytes e) = All-append (IsTimely (w.moment + 1)) w.stores _ (λ i d l. grind (arith, s.timely i d))
      (λ i d l. grind (arith, store_bytes-new n a bytes.now e w.moment i d))
  timely_after (StoreResponse n) = All-map (IsTimely (w.moment + 1)) _ w.stores (λ i d l. grind (arith, s.timely i d))
  timely_after event = λ i d l. grind (arith, s.timely i d)

pub stands_after : (k : Kept) (w : Windows) (event : HistoryEvent) → StandsFor k w → StandsFor (kept_after k event) (windows_after w event)
stands_after k w event s = record {
  same_image = s.same_image;
  same_rest = s.same_rest;
  same_moment = grind arith;
  open_stores = open_after k w s event;
  answered_stores = seen_after k w s event;
  load_bytes = load_after k w s event;
  exact = exact_after k w s event;
  timely = timely_after k w s event;
}

pub stands_first : (image : List ℕ) (rest : Rest) → StandsFor (keeps.opening image rest) (windows.opening image rest)
stands_first image rest = grind arith

-- Answers. ----

pub accepted_law : (r : Result (Unit {0}) StepFault) (k k' : Kept) (event : HistoryEvent) → OnOk r (kept_step k event ≡ Some k')
    → (w : Windows) → StandsFor k w → OnOk r ((fault w event ≡ None) × StandsFor k' (windows_after w event))
accepted_law (Ok u) k k' event h w s = grind (arith, fault_same, stands_after)
accepted_law (Err e) k k' event h w s = tt

pub refused_law : (r : Result (Unit {0}) StepFault) (k : Kept) (event : HistoryEvent) → IfErr r (KeptFaultIs k event) → (w : Windows)
    → StandsFor k w → IfErr r (StepFaultIs w event)
refused_law r k event h w s = grind (arith, fault_same)

shown_allowed : (w : Windows) (o : OpenByte) (b : ℕ) → has o.may b ≡ may_return_byte w.image w.rest w.stores o.load b
    → has (shown_set o) b ≡ is_allowed w o.load b
shown_allowed w o b h = grind (arith, has-all_bytes)

pub set_law : (k : Kept) (w : Windows) (n a : ℕ) → StandsFor k w
    → IsSetOf w n a (option_map shown_set (find (is_open_at n a) k.open_bytes))
set_law k w n a s = go _ refl
  where
    go : (o : Option OpenByte) → find (is_open_at n a) k.open_bytes ≡ o → IsSetOf w n a (option_map shown_set o)
    go None f = grind (arith, find-map, s.load_bytes)
    go (Some o) f = (
      o.load,
      grind (arith, find-map, s.load_bytes),
      λ b. shown_allowed w o b ((find-All
          (IsExact w) _ k.open_bytes s.exact o f).1 b),
    )
