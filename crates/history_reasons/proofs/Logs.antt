-- A log is of the history whose events it notes, and says true reasons.
use Rattle.std.proofs.Common.{inl, inr, ◌≡◌, ℕ, ◌+◌, ◌-◌, ◌<◌, ◌≤◌, ◌==◌, ◌&&◌, ◌↔◌, true, List, [], drop, length, Option, Some, None, refl}
use Rattle.std.proofs.Common.{sym, ◌∙◌, ap, arith, length-drop, length-append}
use Rattle.std.specs.Prelude.{nat_lt, IfSome}
use Rattle.std.specs.Int.Count.{ones_in}
use Rattle.std.proofs.lemmas.Bool.{cases_Bool, cond_both}
use Rattle.std.proofs.lemmas.Bool.Decides.{nat_tests}
use Rattle.std.proofs.lemmas.List.{drop-map, drop-append-le, drop-drop, length-map}
use Rattle.memory_histories.specs.declared.events.HistoryEvent.{HistoryEvent}
use Rattle.memory_histories.specs.declared.events.HistoryEvent.TheVariants.{StoreRequest, StoreResponse}
use Rattle.memory_histories.specs.declared.events.Rest.{Rest}
use Rattle.memory_histories.specs.declared.events.Rest.TheVariants.{Unknown}
use Rattle.memory_histories.specs.declared.windows.StoreByte.{StoreByte}
use Rattle.memory_histories.specs.declared.windows.LoadByte.{LoadByte}
use Rattle.memory_histories.specs.Windows.{Windows, opening, windows_after}
use Rattle.memory_histories.specs.Regular.{MayReturn}
use Rattle.history_reasons.specs.declared.log.StoreLog.{StoreLog}
use Rattle.history_reasons.specs.declared.places.StorePlace.{StorePlace}
use Rattle.history_reasons.specs.declared.Reason.{Reason}
use Rattle.history_reasons.specs.declared.Reason.TheVariants.{StoreOverwritten}
use Rattle.history_reasons.specs.Reasons.{HasReason, Stores, Overwrote}
use Rattle.history_reasons.specs.Log.{IsLogOf, noted_stores, AreNoted, count_then, noted_places, is_within, IsNoted, IsCounted, IsShortened}
use Rattle.history_reasons.specs.Log.{forgotten, left_stores, has_all, of_store, kept_reason, told_reason, IsTrueOf, idle, kept_sources}
use Rattle.history_reasons.specs.Log.{told_sources, kept_at_request, told_at_request}
use Rattle.history_reasons.specs.declared.givers.Source.{Source}
use Rattle.history_reasons.specs.Places.{AreFound}
use Rattle.history_reasons.specs.declared.stores.KeptStore.{KeptStore}
use Rattle.history_reasons.specs.Stores.{all_bytes}
use Rattle.history_reasons.specs.Loads.{all_bytes_of}
use Rattle.history_reasons.proofs.Found.{all_ended, request_found, answer_found, short_found, not_moved}
use Rattle.history_reasons.proofs.StoreLemmas.{with_its_bytes, all_answered, short_bytes, requested_count, few_ones}
use Rattle.history_reasons.proofs.ThereLemmas.{bytes_there, reason_same, sources_same, givers_same, request_same}
use Rattle.history_reasons.proofs.LoadLemmas.{bytes_noted}
use Rattle.history_reasons.proofs.OpenLemmas.{none_open}
use Rattle.history_reasons.proofs.Reasons.{last_behind, reason_law}
use Rattle.history_reasons.proofs.GiverLemmas.{some_source}

-- few stores are all left
pub not_shortened : (g : StoreLog) → g.byte_count < 8192 → IsShortened g g
not_shortened g h = grind (arith, not_moved)

pub opened : (g : StoreLog) (image : List ℕ) (rest : Rest) → g.image.items ≡ image → g.rest ≡ rest → g.moment ≡ 0 → g.stores.items ≡ []
    → g.byte_count ≡ 0 → g.places.items ≡ [] → g.loads.items ≡ [] → g.is_whole ≡ true → IsLogOf g (opening image rest)
opened g image rest a b c d n p e f = grind (arith, none_open)

-- a log with the same lists is of the same history
pub same_log : (g h : StoreLog) (w : Windows) → IsLogOf g w → h.image.items ≡ g.image.items → h.rest ≡ g.rest → h.moment ≡ g.moment
    → h.stores.items ≡ g.stores.items → h.byte_count ≡ g.byte_count → h.places.items ≡ g.places.items → h.loads.items ≡ g.loads.items
    → h.is_whole ≡ g.is_whole → IsLogOf h w
same_log g h w k image rest moment stores byte_count places loads is_whole = grind arith

-- of what was left and what came, as many are left as of all
still_left : (xs ys : List StoreByte) → length xs ≤ length ys
    → left_stores (drop (forgotten (length xs)) ys) ≡ left_stores ys
still_left xs ys more = grind (arith, length-drop, drop-drop)

still_all : (m n : ℕ) → m ≤ n → (nat_lt m 8192 && (forgotten (n - forgotten m) == 0)) ≡ nat_lt n 8192
still_all m n more = grind (arith, nat_tests)

few_left : (xs : List StoreByte) → length (left_stores xs) < 8192
few_left xs = grind (arith, length-drop)

-- Events. ----

noted_behind : (xs : List StoreByte) (n moment : ℕ) (event : HistoryEvent) → n ≤ length xs
    → noted_stores (drop n xs) moment event ≡ drop n (noted_stores xs moment event)
noted_behind xs n moment (StoreRequest number address bytes enables) h = grind (arith, drop-append-le)
noted_behind xs n moment (StoreResponse number) h = grind (arith, drop-map)
noted_behind xs n moment event h = refl

-- the bytes of the stores are noted with the stores
noted_whole : (ps : List StorePlace) (xs : List KeptStore) (moment : ℕ) (event : HistoryEvent) (ys : List KeptStore) → AreFound ps xs
    → AreNoted ps xs moment event ys → all_bytes ys ≡ noted_stores (all_bytes xs) moment event
noted_whole ps xs moment (StoreRequest number address bytes enables) ys h (s, (its, (stored, is))) = grind (arith, with_its_bytes)
noted_whole ps xs moment (StoreResponse number) ys h is = grind (arith, all_ended, all_answered)
noted_whole ps xs moment event ys h is = ap all_bytes is

-- the open stores are found
still_found : (ps : List StorePlace) (xs : List KeptStore) (moment : ℕ) (event : HistoryEvent) (ys : List KeptStore) → AreFound ps xs
    → AreNoted ps xs moment event ys → AreFound (noted_places ps xs event) ys
still_found ps xs moment (StoreRequest number address bytes enables) ys h (s, (its, (stored, is))) =
    rw is (request_found ps xs s _ (sym its) refl h)
still_found ps xs moment (StoreResponse number) ys h is = rw (is ∙ all_ended number moment ps xs h) (answer_found ps xs number moment h)
still_found ps xs moment event ys h is = rw is h

-- how many an event stores
abbrev stored_count : HistoryEvent → ℕ
stored_count (StoreRequest number address bytes enables) = ones_in (length bytes.now) enables
stored_count event = 0

noted_count : (xs : List StoreByte) (moment : ℕ) (event : HistoryEvent)
    → length (noted_stores xs moment event) ≡ length xs + stored_count event
noted_count xs moment (StoreRequest number address bytes enables) = grind (arith, length-append, requested_count)
noted_count xs moment (StoreResponse number) = grind (arith, length-map)
noted_count xs moment event = omega arith

all_counted : (n : ℕ) (event : HistoryEvent) → n < 8192 → is_within event ≡ true → count_then n event ≡ n + stored_count event
all_counted n (StoreRequest number address bytes enables) few h = grind (arith, nat_tests, few_ones)
all_counted n event few h = omega arith

-- what a log has of windows, and of those before, once an event is noted or passed over, and before bytes are forgotten
pub record IsNotedOf (m : StoreLog) (w : Windows) (v : Windows) : Type 0 where
  image : m.image.items ≡ v.image
  rest : m.rest ≡ v.rest
  moment : m.moment + 1 ≡ v.moment
  loads : all_bytes_of m.loads.items ≡ v.loads
  stores : all_bytes m.stores.items ≡ drop (forgotten (length w.stores)) v.stores
  byte_count : m.byte_count ≡ length (all_bytes m.stores.items)
  more : length w.stores ≤ length v.stores
  is_whole : m.is_whole ≡ has_all w.stores
  found : AreFound m.places.items m.stores.items

pub event_noted : (g m : StoreLog) (w : Windows) (event : HistoryEvent) → is_within event ≡ true → IsLogOf g w → IsNoted g event m
    → IsNotedOf m w (windows_after w event)
event_noted g m w event inside k n =
    let found : AreFound m.places.items m.stores.items =
    rw n.places (still_found g.places.items g.stores.items g.moment event m.stores.items k.found n.stores) in
    grind (arith, noted_whole, bytes_noted, noted_behind, noted_count, all_counted, few_left)

pub passed_over : (g : StoreLog) (w : Windows) → IsLogOf g w → IsNotedOf g w (idle w)
passed_over g w k = grind arith

-- too many bytes are forgotten, and the event is counted
pub noted : (m f h : StoreLog) (w v : Windows) → m.moment < 18446744073709551615 → IsNotedOf m w v → IsShortened m f → IsCounted f h
    → IsLogOf h v
noted m f h w v few k s c =
    let found : AreFound h.places.items h.stores.items =
    rw (c.places ∙ s.places, c.stores ∙ s.stores) (short_found m.places.items m.stores.items (forgotten m.byte_count) k.found) in
    grind (arith, short_bytes, still_left, length-drop, still_all)

-- a moment is counted
pub idled : (g h : StoreLog) (w : Windows) → w.moment < 18446744073709551615 → IsLogOf g w → IsCounted g h → IsLogOf h (idle w)
idled g h w few k c = grind arith

-- What is told. ----

-- what a log says is told by the history: it looks at the stores to the byte alone
pub log_tells : (g : StoreLog) (w : Windows) (l : LoadByte) (b : ℕ) → IsLogOf g w → kept_reason g l b ≡ told_reason w l b
log_tells g w l b k = elim (cases_Bool (has_all w.stores)) [
  | inl t ↦
      let all : left_stores w.stores ≡ w.stores = grind arith in
      rw (k.is_whole, t, bytes_there l.address g.stores.items, reason_same l b, k.image, k.rest, k.stores, all) refl
  | inr t ↦ rw (k.is_whole, t, bytes_there l.address g.stores.items, reason_same l b, k.stores) refl
]

pub log_names : (g : StoreLog) (w : Windows) (l : LoadByte) (b : ℕ) → IsLogOf g w → kept_sources g l b ≡ told_sources w l b
log_names g w l b k = grind (arith, nat_tests, cases_Bool, bytes_there, sources_same, givers_same)

pub log_names_at_request : (g : StoreLog) (w : Windows) (l : LoadByte) (b : ℕ) → IsLogOf g w
    → kept_at_request g l b ≡ told_at_request w l b
log_names_at_request g w l b k = grind (arith, nat_tests, cases_Bool, bytes_there, request_same, sources_same, givers_same)

-- what stores that are left say of who stored the byte is so of all
part_true : (w : Windows) (l : LoadByte) (b n : ℕ) (reason : Option Reason) → IfSome reason (HasReason [] Unknown (drop n w.stores) l b)
    → IfSome (of_store reason) (IsTrueOf w l b)
part_true w l b n (Some (StoreOverwritten s by)) h = (
  last_behind (Stores l.address b) n w.stores s h.0,
  last_behind (λ o. Overwrote o s l.began) n w.stores by h.1,
)
part_true w l b n reason h = tt

pub true_reason : (w : Windows) (l : LoadByte) (b : ℕ) → IfSome (told_reason w l b) (IsTrueOf w l b)
true_reason w l b =
    cond_both (has_all w.stores) _ _ (λ o. IfSome o (IsTrueOf w l b)) (λ t. (reason_law w.image w.rest w.stores l b).1)
    (λ t. part_true w l b _ _ (reason_law [] Unknown (left_stores w.stores) l b).1)

pub no_reason : (w : Windows) (l : LoadByte) (b : ℕ) → has_all w.stores ≡ true
    → (told_reason w l b ≡ None) ↔ MayReturn w.image w.rest w.stores l b
no_reason w l b t = rw t (reason_law w.image w.rest w.stores l b).0

-- while none is forgotten there is a source exactly of the bytes that the law allows
pub names_all : (g : StoreLog) (w : Windows) (l : LoadByte) (b : ℕ) (xs : List Source) → IsLogOf g w → has_all w.stores ≡ true
    → xs ≡ kept_sources g l b → (0 < length xs) ↔ MayReturn w.image w.rest w.stores l b
names_all g w l b xs k t is = rw (is ∙ log_names g w l b k, t) (some_source w.image w.rest w.stores l b)
