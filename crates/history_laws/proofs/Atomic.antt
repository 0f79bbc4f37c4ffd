-- An atomic history is a regular one.
use Rattle.std.proofs.Common.{◌≡◌, ℕ, ◌+◌, ◌-◌, ◌*◌, ◌/◌, ◌%◌, ◌<◌, ◌≤◌, true, ◌==◌, ◌||◌, not, if◌then◌else◌, List, [], ◌∷◌, ◌++◌}
use Rattle.std.proofs.Common.{length, fold, Option, Some, None, slice_get, inl, inr, refl, sym, ap, ◌∙◌, subst, append-nil, append_assoc}
use Rattle.std.proofs.Common.{div-add-mod', mod-lt, eq-eqb, eqb-true, arith}
use Rattle.std.specs.Prelude.{is_some, IsTrue}
use Rattle.std.specs.Borrow.{Bor}
use Rattle.std.specs.List.{All, find, list_any}
use Rattle.std.proofs.lemmas.Bool.{cases_Bool, and_parts}
use Rattle.std.proofs.lemmas.List.Sums.{fold-append}
use Rattle.std.proofs.lemmas.Option.{same_Some, cond_some}
use Rattle.atomic_histories.proofs.Whole.{formed_more}
use Rattle.atomic_histories.proofs.MayLaws.{seen_last}
use Rattle.memory_histories.specs.declared.events.HistoryEvent.{HistoryEvent}
use Rattle.memory_histories.specs.declared.events.HistoryEvent.TheVariants.{LoadRequest, LoadResponse, StoreRequest, StoreResponse}
use Rattle.memory_histories.specs.declared.events.Rest.{Rest}
use Rattle.memory_histories.specs.declared.windows.StoreByte.{StoreByte}
use Rattle.memory_histories.specs.Windows.{Windows, windows_after}
use Rattle.memory_histories.specs.Windows as windows
use Rattle.memory_histories.specs.Regular.{is_inside, has_enabled, enables_any, request_fault, load_response_fault}
use Rattle.memory_histories.specs.Regular.{store_response_fault, may_return, may_return_byte, fault, regular_run}
use Rattle.memory_histories.specs.Kept.{Kept, kept_after, IsTimely, StandsFor}
use Rattle.memory_histories.proofs.Stands.{stands_first, stands_after}
use Rattle.atomic_histories.specs.declared.unit.UnitPlace.{UnitPlace}
use Rattle.atomic_histories.specs.declared.unit.LoadAddress.{LoadAddress}
use Rattle.atomic_histories.specs.declared.unit.Operation.{Operation}
use Rattle.atomic_histories.specs.Words.{at_unit, initial_byte, stored_byte, reads_from, read_byte, is_at, is_as_it_stood}
use Rattle.atomic_histories.specs.Operations.{Opened, none_opened, opened_after, opened_by, form_fault}
use Rattle.atomic_histories.specs.Law.{OpenLoad, UnitMemory, HiddenStep, MayBe, starts, steps, sees, untouched, is_load, is_got}
use Rattle.atomic_histories.specs.Law.{with_load, with_store, seen, unit_at}
use Rattle.atomic_histories.specs.Law.{is_formed, IsAtomicAt}
use Rattle.atomic_histories.specs.Stands.{Each}
use Rattle.atomic_histories.proofs.Lists.{one_each, all_each, one_elim, each_from_all}
use Rattle.atomic_histories.proofs.Links.{none_is, is_allowed, reads}
use Rattle.atomic_histories.proofs.Bits.{stored_from_first}
use Rattle.std.specs.Int.{bit_at}
use Rattle.std.proofs.Math.Bool.{or-true}
use Rattle.history_laws.specs.Laws.{IsByte, ReturnsBytes, IsUnitSize, AtomicIsRegular}
use Rattle.history_laws.proofs.Lists.{each_find, each_get}
use Rattle.history_laws.proofs.Pieces.{Marked, is_number, IsSome}
use Rattle.history_laws.proofs.Open.{loads_any, loads_under, no_fault, answer_formed, marked_after}
use Rattle.history_laws.proofs.Words.{lane, lane_unit, word_lane}
use Rattle.history_laws.proofs.Fits.{Fits, IsAllowed, fits_store, fits_load, fits_requested, fits_answered, fits_store_requested}
use Rattle.history_laws.proofs.Fits.{fits_store_answered, IsLoad}
use Rattle.history_laws.proofs.Agrees.{formed_parts, load_byte, number_of, its_number, Agrees, marks_from, marks_more}
use Rattle.history_laws.proofs.Agrees.{agrees_from}

-- The event before which a unit was so. ----

pub moments_before : (image : List ℕ) (rest : Rest) (unit : UnitPlace) (past future : List HistoryEvent) → IsAtomicAt image rest unit (past
    ++ future) → IsAtomicAt image rest unit past
moments_before image rest unit past [] h = subst (IsAtomicAt image rest unit) (append-nil past) h
moments_before image rest unit past (event ∷ events) h =
    let more = moments_before image rest unit _ events (rw (sym (append_assoc past (event ∷ []) events)) at h) in
    let s = seen_last _ unit past event _ more.0 more.1 refl in
    (s.0, s.1.1.0)

-- Windows of a history. ----

abbrev first_windows : List ℕ → Rest → Windows
first_windows image rest = windows.opening image rest

abbrev pub windows_by : List ℕ → Rest → List HistoryEvent → Windows
windows_by image rest history = fold windows_after (first_windows image rest) history

abbrev pub marks_by : List ℕ → Rest → List HistoryEvent → List (Marked ℕ)
marks_by image rest history = marks_from (first_windows image rest) [] history

stands_from : (k : Kept) (w : Windows) (history : List HistoryEvent) → StandsFor k w
    → StandsFor (fold kept_after k history) (fold windows_after w history)
stands_from k w [] s = s
stands_from k w (x ∷ xs) s = stands_from (kept_after k x) _ xs (stands_after k w x s)

pub timely_by : (image : List ℕ) (rest : Rest) (history : List HistoryEvent)
    → All (IsTimely (windows_by image rest history).moment) (windows_by image rest history).stores
timely_by image rest history = (stands_from _ _ history (stands_first image rest)).timely

first_agrees : (image : List ℕ) (rest : Rest) → Agrees none_opened (first_windows image rest) []
first_agrees image rest = grind arith

pub agrees_by : (image : List ℕ) (rest : Rest) (history : List HistoryEvent) → is_formed none_opened history ≡ true
    → Agrees (opened_by history) (windows_by image rest history) (marks_by image rest history)
agrees_by image rest history f = agrees_from none_opened _ [] history (first_agrees image rest) f

same_image : (w : Windows) (history : List HistoryEvent) → ((fold windows_after w history).image ≡ w.image)
    × ((fold windows_after w history).rest ≡ w.rest)
same_image w [] = (refl, refl)
same_image w (x ∷ xs) = same_image (windows_after w x) xs

pub windows_more : (w : Windows) (history : List HistoryEvent) (event : HistoryEvent) → fold windows_after w (history
    ++ event ∷ []) ≡ windows_after (fold windows_after w history) event
windows_more w history event = fold-append windows_after w history _

-- What a unit may be fits the windows. ----

module _ (image : List ℕ) (rest : Rest) (unit : UnitPlace) (j : ℕ) (within : j < unit.size) (lane_of : j < 8) where
  fits_event : (o : Opened) (w : Windows) (ks : List (Marked ℕ)) (m n : UnitMemory) (event : HistoryEvent) → Agrees o w ks
      → form_fault o event ≡ None → All (IsTimely w.moment) w.stores
      → Fits image rest unit j w.stores w.moment ks m → seen unit m event ≡ Some n
      → Fits image rest unit j (windows_after w event).stores (w.moment + 1) (marked_after w.moment ks event) n
  fits_event o w ks m n (LoadRequest k a len en) g f t fits e =
      subst (Fits image rest unit j w.stores (w.moment + 1) (marked_after w.moment ks (LoadRequest k a len en))) (same_Some (if is_at unit a
      len then with_load k (reads_from a en) m else m) n e)
      (fits_requested image rest unit j w.stores w.moment ks m k a len en within fits (is_at unit a len) refl)
  fits_event o w ks m n (LoadResponse k bytes) g f t fits e =
      let p = cond_some _ _ n e in
      subst (Fits image rest unit j w.stores (w.moment + 1) (marked_after w.moment ks (LoadResponse k bytes))) p.1 (fits_answered image rest
      unit j w.stores w.moment ks m k fits)
  fits_event o w ks m n (StoreRequest k a bytes es) g f t fits e =
      let p = is_allowed _ _ _ f in
      let word = at_unit unit (stored_byte a bytes.now es) in
      subst (Fits image rest unit j (windows_after w (StoreRequest k a bytes es)).stores (w.moment + 1) ks) (same_Some (if list_any is_some
      word then with_store k word m else m) n e)
      (fits_store_requested image rest unit j w.stores w.moment ks m k a bytes.now es within lane_of (g.stores k ∙ p.1.1) fits _ refl)
  fits_event o w ks m n (StoreResponse k) g f t fits e =
      let p = cond_some _ _ n e in
      subst (Fits image rest unit j (windows_after w (StoreResponse k)).stores (w.moment + 1) ks) p.1 (fits_store_answered image rest unit j
      w.stores w.moment ks m k t p.0 fits)

  fits_hidden : (stores : List StoreByte) (moment : ℕ) (ks : List (Marked ℕ)) (m n : UnitMemory) → Fits image rest unit j stores moment ks m
      → HiddenStep m n → Fits image rest unit j stores moment ks n
  fits_hidden stores moment ks m n f (inl s) =
      subst (Fits image rest unit j stores moment ks) (sym s.5)
      (fits_store image rest unit j stores moment ks _ _ s.0 s.1 s.2
      (rw s.3 at f))
  fits_hidden stores moment ks m n f (inr s) =
      subst (Fits image rest unit j stores moment ks) (sym s.5)
      (fits_load image rest unit j stores moment ks _ _ s.0 s.1 s.2
      (rw s.3 at f))

  pub fits : (history : List HistoryEvent) (m : UnitMemory) → MayBe unit (untouched image rest unit) history m
      → is_formed none_opened history ≡ true
      → Fits image rest unit j (windows_by image rest history).stores (windows_by image rest history).moment (marks_by image rest history) m
  fits history m starts f = record {
    wide = lane_of;
    word = inl (lane_unit unit (initial_byte image rest) j within lane_of, tt);
    has_stores = tt;
    has_bytes = tt;
    has_loads = tt;
  }
  fits history m (steps hs k n r step) f = fits_hidden (windows_by image rest hs).stores (windows_by image rest hs).moment _ k n
      (fits hs k r f) step
  fits history m (sees hs event k n r e) f =
      let p = formed_parts none_opened hs event f in
      let w = windows_by image rest hs in
      subst (λ v. Fits image rest unit j v.stores v.moment (marks_by image rest (hs
      ++ event ∷ [])) n) (sym (windows_more (first_windows image rest) hs event))
      (rw (sym (marks_more (first_windows image rest) [] hs event)) at
      (fits_event (opened_by hs) w (marks_by image rest hs) k n event (agrees_by image rest hs p.0) p.1 (timely_by image rest hs)
      (fits hs k r p.0) e))

  -- A load may return what it is answered. ----

  got_word : (bytes : List ℕ) (address : LoadAddress) (got : Option (List (Option ℕ))) → is_got unit address bytes got ≡ true
      → (word : List (Option ℕ)) × ((got ≡ Some word) × (is_as_it_stood (lane word j) (read_byte address bytes (unit.first + j)) ≡ true))
  got_word bytes address None h = cc
  got_word bytes address (Some word) h = (word, (refl, word_lane unit.first word address bytes j h))

  allowed_got : (stores : List StoreByte) (k : Marked ℕ) (got : Option (List (Option ℕ)))
      → IsAllowed image rest unit j stores k.operation.number k.mark got → (word : List (Option ℕ)) → got ≡ Some word
      → (b : ℕ) → IsByte rest b → is_as_it_stood (lane word j) (Some b) ≡ true
      → may_return_byte image rest stores (load_byte k.operation (unit.first + j) k.mark) b ≡ true
  allowed_got stores k got h word e b small i = grind arith

  allowed_load : (past : List HistoryEvent) (n : ℕ) (bytes : List ℕ) (k : Marked ℕ) → k.operation.number ≡ n → (b : ℕ) → IsByte rest b
      → read_byte (reads k.operation) bytes (unit.first + j) ≡ Some b
      → (l : OpenLoad) → IsLoad image rest unit j (windows_by image rest past).stores k l
      → (not (is_load n l) || is_got unit l.address bytes l.got) ≡ true
      → may_return_byte image rest (windows_by image rest past).stores (load_byte k.operation (unit.first + j) k.mark) b ≡ true
  allowed_load past n bytes k named b small is_b l q h = grind (arith, eq-eqb, l.number, got_word, l.address, l.got, lane, allowed_got)

  pub allowed_byte : (past : List HistoryEvent) (n : ℕ) (bytes : Bor (List ℕ))
      → IsAtomicAt image rest unit (past ++ LoadResponse n bytes ∷ []) → is_formed none_opened past ≡ true
      → (k : Marked ℕ) → find (is_number n) (marks_by image rest past) ≡ Some k → k.operation.address ≤ unit.first + j
      → unit.first + j < k.operation.address + k.operation.length → k.operation.number ≡ n
      → (b : ℕ) → IsByte rest b → read_byte (reads k.operation) bytes.now (unit.first + j) ≡ Some b
      → may_return_byte image rest (windows_by image rest past).stores (load_byte k.operation (unit.first + j) k.mark) b ≡ true
  allowed_byte past n bytes a f k found low high named b small is_b =
      let w = windows_by image rest past in
      let s = seen_last _ unit past _ _ a.0 a.1 refl in
      let m = s.0 in
      let here = fits past m s.1.1.0 f in
      let may = cond_some _ _ s.1.0 s.1.1.1 in
      let has = each_find _ _ _ k here.has_loads
      found in
      one_elim (λ l. IsLoad image rest unit j w.stores k l
      × ((not _ || is_got unit l.address bytes.now l.got) ≡ true)) _ _
      (one_each _ (λ l.
      (not _ || is_got unit l.address bytes.now l.got) ≡ true) _ (has.1 low high)
      (all_each (λ l. not _ || is_got unit l.address bytes.now l.got) _ may.0))
      (λ l q. allowed_load past n bytes.now k named b small is_b l q.0 q.1)

-- The law. ----

-- a byte that is enabled is read
read_inside : (o : Operation) (bs : List ℕ) (i : ℕ) → (bit_at o.enables i == 1) ≡ true
    → read_byte (reads o) bs (o.address + i) ≡ slice_get bs i
read_inside o bs i h = stored_from_first o.address bs o.enables i ∙ rw h refl

-- and one that isn't may be anything
answered_byte : (w : Windows) (k : Marked ℕ) (i b : ℕ)
    → ((bit_at k.operation.enables i == 1) ≡ true
    → may_return_byte w.image w.rest w.stores (load_byte k.operation (k.operation.address + i) k.mark) b ≡ true)
    → may_return w (load_byte k.operation (k.operation.address + i) k.mark) b ≡ true
answered_byte w k i b h =
    let place : k.operation.address + i - k.operation.address ≡ i = omega arith in
    elim (cases_Bool (bit_at k.operation.enables i == 1)) [ inl t ↦ rw (h t) (or-true _) | inr f ↦ rw (place, f) refl ]

each_named : (ks : List (Marked ℕ)) (k : Marked ℕ) (n : ℕ) → find (is_number n) ks ≡ Some k → k.operation.number ≡ n
each_named [] k n h = cc
each_named (x ∷ ks) k n h = elim (cases_Bool _) [
  | inl e ↦ let s : Some x ≡ Some k = (rw e at h) in let same : x ≡ k = cc in subst (λ y.
      y.operation.number ≡ n) same (eqb-true x.operation.number n e)
  | inr e ↦ each_named ks k n (rw e at h)
]

module _ (image : List ℕ) (rest : Rest) (size : ℕ) (sized : IsUnitSize size) where
  -- the byte at an address is one of a unit
  allowed_at : (past : List HistoryEvent) (n : ℕ) (bytes : Bor (List ℕ)) → ((k : ℕ) → IsAtomicAt image rest (unit_at size k) (past
      ++ LoadResponse n bytes ∷ [])) → is_formed none_opened past ≡ true
      → (k : Marked ℕ) → find (is_number n) (marks_by image rest past) ≡ Some k → k.operation.number ≡ n → (i b : ℕ)
      → slice_get bytes.now i ≡ Some b → i < k.operation.length → IsByte rest b
      → (bit_at k.operation.enables i == 1) ≡ true
      → may_return_byte image rest (windows_by image rest past).stores (load_byte k.operation (k.operation.address + i) k.mark) b ≡ true
  allowed_at past n bytes a f k found named i b e l small enabled =
      let at = k.operation.address + i in
      let some : 0 < size = let s = sized.0 in omega arith in
      let within : at % size < size = mod-lt at some in
      let lane_of : at % size < 8 = let s = sized.1 in omega arith in
      let place : at / size * size + at % size ≡ at = div-add-mod' at size in
      subst (λ x. may_return_byte image rest (windows_by image rest past).stores (load_byte k.operation x k.mark) b ≡ true) place
      (allowed_byte image rest _ _ within lane_of past n bytes (a (at / size)) f k found (omega arith)
      (omega arith) named b small
      (ap (read_byte (reads k.operation) bytes.now) place ∙ (read_inside k.operation bytes.now i enabled ∙ e)))

  no_regular_fault : (past : List HistoryEvent) (event : HistoryEvent) → ((k : ℕ) → IsAtomicAt image rest (unit_at size k) (past
      ++ event ∷ [])) → is_formed none_opened past ≡ true → form_fault (opened_by past) event ≡ None
      → ReturnsBytes rest event → fault (windows_by image rest past) event ≡ None
  no_regular_fault past (LoadRequest n a len en) m f g r =
      let w = windows_by image rest past in
      ap (request_fault (is_inside a len) (enables_any len en)) (loads_any load_byte number_of its_number
      (marks_by image rest past) w.loads (opened_by
      past).loads (agrees_by image rest past f).loads n) ∙ g
  no_regular_fault past (StoreRequest n a bytes e) m f g r =
      ap (request_fault (is_inside a (length bytes.now)) (has_enabled bytes.now e)) ((agrees_by image rest past f).stores n) ∙ g
  no_regular_fault past (StoreResponse n) m f g r = ap store_response_fault ((agrees_by image rest past f).stores n) ∙ g
  no_regular_fault past (LoadResponse n bytes) m f g r =
      let w = windows_by image rest past in
      let ks = marks_by image rest past in
      let loads = (agrees_by image rest past f).loads in
      let x = answer_formed _ _ g in
      let u = loads_under load_byte number_of its_number ks w.loads (opened_by past).loads loads n x.0 x.1.0 in
      let k = u.0 in
      let some = each_find IsSome _ ks k loads.each_some u.1.0 in
      let long = sym x.1.1 ∙ ap (λ o. o.length) (sym u.1.1.0) in
      let named = each_named ks k n u.1.0 in
      let same = same_image (first_windows image rest) past in
      ap (λ ls. load_response_fault (may_return w) ls bytes.now) u.1.1.1
      ∙ no_fault load_byte number_of its_number _ k bytes.now some long
      (λ i b e l. answered_byte w k i b (λ enabled. rw (
        same.0,
        same.1,
      ) (allowed_at past n bytes m f k u.1.0 named i b e l (each_get (IsByte rest) bytes.now i b (each_from_all (IsByte rest) bytes.now
      r) e) enabled)))

  regular_from : (past future : List HistoryEvent) → ((k : ℕ) → IsAtomicAt image rest (unit_at size k) (past ++ future))
      → is_formed none_opened past ≡ true → is_formed (opened_by past) future ≡ true → Each (ReturnsBytes rest) future
      → IsTrue (is_some (regular_run (windows_by image rest past) future))
  regular_from past [] m f g r = refl
  regular_from past (event ∷ events) m f g r =
      let p = and_parts _ _ g in
      let formed = none_is _ p.0 in
      let more : (k : ℕ) → IsAtomicAt image rest _ _ = λ k.
      subst (IsAtomicAt image rest (unit_at size k)) (sym (append_assoc past (event ∷ []) events)) (m k) in
      let none : fault (windows_by image rest past) event ≡ None =
      no_regular_fault past event (λ k. moments_before image rest _ _ events (more k)) f formed r.0 in
      let next : IsTrue _ =
      subst (λ w. IsTrue (is_some (regular_run w events))) (windows_more (first_windows image rest) past event)
      (regular_from (past ++ event ∷ []) events more (formed_more none_opened past event f formed)
      (rw (sym (fold-append opened_after none_opened past (event ∷ []))) at p.1) r.1) in
      rw none next

pub atomic_is_regular : (image : List ℕ) (rest : Rest) (size : ℕ) (history : List HistoryEvent) → AtomicIsRegular image rest size history
atomic_is_regular image rest size history = λ sized returned atomic.
    regular_from image rest size sized [] history atomic.moments refl atomic.formed (each_from_all (ReturnsBytes rest) history returned)
