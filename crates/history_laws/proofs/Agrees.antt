-- Which operations are open, as both laws count them.
use Rattle.std.proofs.Common.{◌≡◌, ℕ, zero, suc, ◌+◌, ◌<◌, ◌≤◌, Bool, true, false, ◌&&◌, ◌||◌, not, ◌==◌, List, [], ◌∷◌, ◌++◌, map, length}
use Rattle.std.proofs.Common.{fold, None, inl, inr}
use Rattle.std.proofs.Common.{refl, sym, ap, ◌∙◌, subst, eqb-true, arith}
use Rattle.std.specs.Prelude.{is_none}
use Rattle.std.specs.List.{list_all, list_any}
use Rattle.std.proofs.lemmas.Bool.{cases_Bool, and_parts, and_from, eq-eqb, false_from_ne_true, both_ways}
use Rattle.std.proofs.lemmas.List.Folds.{list_all-append, list_any-append}
use Rattle.memory_histories.specs.declared.events.HistoryEvent.{HistoryEvent}
use Rattle.memory_histories.specs.declared.events.HistoryEvent.TheVariants.{LoadRequest, LoadResponse, StoreRequest, StoreResponse}
use Rattle.memory_histories.specs.declared.windows.StoreByte.{StoreByte}
use Rattle.memory_histories.specs.declared.windows.LoadByte.{LoadByte}
use Rattle.memory_histories.specs.Windows.{Windows, store_bytes, is_open, after_response, windows_after}
use Rattle.memory_histories.specs.Windows as windows
use Rattle.memory_histories.specs.Regular.{has_enabled}
use Rattle.memory_histories.proofs.Lists.{list_any-map, list_any-filter, list_any-kept, list_any-same}
use Rattle.atomic_histories.specs.declared.unit.Operation.{Operation}
use Rattle.atomic_histories.specs.Operations.{Opened, opened_after, has_number, without_number, form_fault}
use Rattle.atomic_histories.specs.Law.{is_formed}
use Rattle.history_laws.proofs.Lists.{any_none, each_always}
use Rattle.atomic_histories.specs.Stands.{Each}
use Rattle.history_laws.proofs.Pieces.{Marked, IsSome, bytes_of, all_bytes, piece}
use Rattle.history_laws.proofs.Open.{Loads, loads_more, loads_fewer, inside_some, marked_after}
use Rattle.history_laws.proofs.Words.{any_new}
use Rattle.history_laws.proofs.Fits.{after_cases}
use Rattle.atomic_histories.proofs.Links.{none_is, is_allowed}

-- Prefixes of a history that isn't malformed. ----

pub formed_parts : (o : Opened) (history : List HistoryEvent) (event : HistoryEvent) → is_formed o (history ++ event ∷ []) ≡ true
    → (is_formed o history ≡ true) × (form_fault (fold opened_after o history) event ≡ None)
formed_parts o [] event h = (refl, none_is _ (and_parts (is_none (form_fault o event)) true h).0)
formed_parts o (x ∷ xs) event h =
    let p = and_parts _ _ h in
    let r = formed_parts (opened_after o x) xs event p.1 in
    (and_from _ _ p.0 r.0, r.1)

-- The open loads and stores of the regular law. ----

abbrev pub load_byte : Operation → ℕ → ℕ → LoadByte
load_byte o a t = windows.load_byte o.number o.address o.enables t a

abbrev pub number_of : LoadByte → ℕ
number_of l = l.number

-- a byte of a load, whichever it is
abbrev pub any_byte : ℕ → ℕ → LoadByte
any_byte a t = record { number = 0; address = a; began = t; enabled = true }

pub its_number : (o : Operation) (a t : ℕ) → number_of (load_byte o a t) ≡ o.number
its_number o a t = refl

pub record Agrees (o : Opened) (w : Windows) (ks : List (Marked ℕ)) : Type 0 where
  pub loads : Loads load_byte number_of its_number ks w.loads o.loads
  pub stores : (n : ℕ) → list_any (is_open n) w.stores ≡ list_any (has_number n) o.stores

or_behind : (b c : Bool) → (b || (c || false)) ≡ (b || c)
or_behind true c = refl
or_behind false true = refl
or_behind false false = refl

any_more : (n : ℕ) (os : List Operation) (x : Operation) → list_any (has_number n) (os
    ++ x ∷ []) ≡ (list_any (has_number n) os || has_number n x)
any_more n os x = list_any-append _ os _ ∙ or_behind _ _

-- once a store is requested
stores_more : (stores : List StoreByte) (os : List Operation) (n a : ℕ) (bs : List ℕ) (e t : ℕ) (x : Operation) → x.number ≡ n
    → has_enabled bs e ≡ true → (m : ℕ) → list_any (is_open m) stores ≡ list_any (has_number m) os
    → list_any (is_open m) (stores ++ store_bytes n a bs e t) ≡ list_any (has_number m) (os ++ x ∷ [])
stores_more stores os n a bs e t x same any m h =
    list_any-append _ stores _
    ∙ (rw (h, any_new n a bs e t m, any) (ap (λ y. list_any (has_number m) os || (y == m)) (sym same)) ∙ sym (any_more m os x))

-- once the store under a number is answered
closed : (n t : ℕ) (s : StoreByte) → is_open n (after_response n t s) ≡ false
closed n t s = elim (after_cases n t s) [
  | inl c ↦ ap (is_open n) c.1.1
  | inr c ↦ ap (is_open n) c.1 ∙ c.0
]

other_open : (n m t : ℕ) (s : StoreByte) → (n == m) ≡ false → is_open m (after_response n t s) ≡ is_open m s
other_open n m t s h = elim (after_cases n t s) [
  | inl c ↦
      let f = false_from_ne_true _ (λ e.
      both_ways _ h (eq-eqb n m (sym c.1.0 ∙ eqb-true s.number m (and_parts (is_none s.ended) (s.number == m) e).1))) in
      ap (is_open m) c.1.1 ∙ sym f
  | inr c ↦ ap (is_open m) c.1
]

pub not_itself : (b : Bool) → (not b && b) ≡ false
not_itself true = refl
not_itself false = refl

kept_other : (n m : ℕ) (o : Operation) → (n == m) ≡ false → has_number m o ≡ true → not (has_number n o) ≡ true
kept_other n m o h e = ap not (false_from_ne_true _ (λ f.
    both_ways _ h (eq-eqb n m (sym (eqb-true o.number n f) ∙ eqb-true o.number m e))))

stores_fewer : (stores : List StoreByte) (os : List Operation) (n t : ℕ) → ((m : ℕ)
    → list_any (is_open m) stores ≡ list_any (has_number m) os)
    → (m : ℕ) → list_any (is_open m) (map (after_response n t) stores) ≡ list_any (has_number m) (without_number n os)
stores_fewer stores os n t h m = elim (cases_Bool _) [
  | inl e ↦
      let same = eqb-true n m e in
      subst (λ k. list_any (is_open k) (map (after_response n t) stores) ≡ list_any (has_number k) (without_number n os)) same
      (list_any-map _ _ stores
      ∙ (any_none (λ s. is_open n (after_response n t s)) stores (each_always (λ s.
      is_open n (after_response n t s) ≡ false) (closed n t) stores)
      ∙ sym (list_any-filter (λ o. not _) _ os ∙ any_none (λ o.
      not _ && has_number n o) os (each_always (λ o. (not _ && has_number n o) ≡ false) (λ o.
      not_itself (has_number n o)) os))))
  | inr e ↦
      list_any-map _ _ stores
      ∙ (list_any-same (λ s. is_open m (after_response n t s)) _ (λ s. other_open n m t s e) stores
      ∙ (h m ∙ sym (list_any-kept (λ o. not _) _ (λ o f. kept_other n m o e f) os)))
]

pub agrees_after : (o : Opened) (w : Windows) (ks : List (Marked ℕ)) (event : HistoryEvent) → Agrees o w ks → form_fault o event ≡ None
    → Agrees (opened_after o event) (windows_after w event) (marked_after w.moment ks event)
agrees_after o w ks (LoadRequest n a len e) g f =
    let p = is_allowed _ _ _ f in
    record {
      loads = loads_more load_byte number_of its_number ks w.loads o.loads g.loads (record {
        operation = record {
          number = n;
          address = a;
          length = len;
          enables = e;
        };
        mark = w.moment;
      }) p.1.1 (inside_some a len p.0);
      stores = g.stores;
    }
agrees_after o w ks (LoadResponse n bytes) g f = record {
  loads = loads_fewer load_byte number_of its_number ks w.loads o.loads g.loads n;
  stores = g.stores;
}
agrees_after o w ks (StoreRequest n a bytes e) g f =
    let p = is_allowed _ _ _ f in
    record {
      loads = g.loads;
      stores = λ m.
          stores_more w.stores o.stores n a bytes.now e w.moment
          (record { number = n; address = a; length = length bytes.now; enables = e }) refl p.1.0
          m
          (g.stores m);
    }
agrees_after o w ks (StoreResponse n) g f = record { loads = g.loads; stores = stores_fewer w.stores o.stores n w.moment g.stores }

-- Whole histories. ----

abbrev pub marks_from : Windows → List (Marked ℕ) → List HistoryEvent → List (Marked ℕ)
marks_from w ks [] = ks
marks_from w ks (event ∷ events) = marks_from (windows_after w event) (marked_after w.moment ks event) events

pub marks_more : (w : Windows) (ks : List (Marked ℕ)) (history : List HistoryEvent) (event : HistoryEvent) → marks_from w ks (history
    ++ event ∷ []) ≡ marked_after (fold windows_after w history).moment (marks_from w ks history) event
marks_more w ks [] event = refl
marks_more w ks (x ∷ xs) event = marks_more (windows_after w x) _ xs event

pub agrees_from : (o : Opened) (w : Windows) (ks : List (Marked ℕ)) (history : List HistoryEvent) → Agrees o w ks
    → is_formed o history ≡ true → Agrees (fold opened_after o history) (fold windows_after w history) (marks_from w ks history)
agrees_from o w ks [] g f = g
agrees_from o w ks (x ∷ xs) g f =
    let p = and_parts _ _ f in
    agrees_from (opened_after o x) _ _ xs (agrees_after o w ks x g (none_is (form_fault o x)
    p.0)) p.1

-- The bytes of open loads. ----

-- what passes of all bytes of open loads passes of the first one of each
pub each_first : (q : LoadByte → Bool) (ks : List (Marked ℕ)) → Each IsSome ks
    → list_all q (all_bytes load_byte number_of its_number ks) ≡ true
    → Each (λ k. q (load_byte k.operation k.operation.address k.mark) ≡ true) ks
each_first q [] s h = tt
each_first q (k ∷ ks) s h =
    let p = and_parts _ _ (sym (list_all-append q (bytes_of load_byte number_of its_number k) _) ∙ h) in
    (first_of_piece q k.operation k.mark k.operation.address k.operation.length s.0 p.0, each_first q ks s.1 p.1)
  where
    first_of_piece : (q : LoadByte → Bool) (n : Operation) (x a len : ℕ) → 1 ≤ len
        → list_all q (piece load_byte number_of its_number n x a len) ≡ true → q (load_byte n a x) ≡ true
    first_of_piece q n x a zero l h = absurd (omega arith)
    first_of_piece q n x a (suc len) l h = (and_parts _ _ h).0
