-- The loads that are open, as the atomic law has them and as a law of single bytes has them; and events that aren't malformed.
use Rattle.std.proofs.Common.{◌≡◌, ℕ, ◌+◌, ◌<◌, ◌≤◌, Bool, true, false, not, ◌==◌, List, [], ◌∷◌, ◌++◌, map}
use Rattle.std.proofs.Common.{length, Option, Some, None, slice_get, refl, sym, ap, ◌∙◌, arith}
use Rattle.std.specs.List.{filter, find, list_any, zip}
use Rattle.std.specs.Option.{option_map}
use Rattle.std.proofs.lemmas.Bool.{eq-eqb, ne_eqb}
use Rattle.std.proofs.lemmas.List.{length-map, map-append}
use Rattle.std.proofs.lemmas.List.FromFn.{length-range_with_len}
use Rattle.memory_histories.specs.declared.events.HistoryEvent.{HistoryEvent}
use Rattle.memory_histories.specs.declared.events.HistoryEvent.TheVariants.{LoadRequest, LoadResponse}
use Rattle.memory_histories.specs.Regular.{is_inside, load_response_fault}
use Rattle.memory_histories.proofs.Lists.{list_any-map, filter-map, find-map}
use Rattle.atomic_histories.specs.declared.unit.Operation.{Operation}
use Rattle.atomic_histories.specs.Stands.{Each}
use Rattle.atomic_histories.specs.Operations.{has_number, without_number, answer_fault}
use Rattle.atomic_histories.proofs.Lists.{each_append, each_filter}
use Rattle.history_laws.proofs.Pieces.{Marked, operation_of, is_number, AreDifferent, IsSome, bytes_of, all_bytes, any_bytes, bytes_under}
use Rattle.history_laws.proofs.Pieces.{bytes_without, bytes_more, each_paid, different_more, different_fewer, no_wrong_place}

-- Events that aren't malformed. ----

pub answer_formed : (o : Option Operation) (n : ℕ) → answer_fault o n ≡ None → (x : Operation) × ((o ≡ Some x) × (x.length ≡ n))
answer_formed None n h = cc
answer_formed (Some x) n h = grind arith

pub inside_some : (address n : ℕ) → is_inside address n ≡ true → 1 ≤ n
inside_some address n h = grind arith

-- what is kept of the loads after an event
abbrev pub marked_after : {X : Type 0} → X → List (Marked X) → HistoryEvent → List (Marked X)
marked_after x ks (LoadRequest number address n enables) = ks
    ++ record { operation = record { number = number; address = address; length = n; enables = enables }; mark = x } ∷ []
marked_after x ks (LoadResponse number bytes) = filter (λ k. not (is_number number k)) ks
marked_after x ks event = ks

module _ {X L : Type 0} (make : Operation → ℕ → X → L) (number : L → ℕ) (named : (o : Operation) (a : ℕ) (x : X)
    → number (make o a x) ≡ o.number) where
  -- these are the open loads, and these are their bytes
  pub record Loads (ks : List (Marked X)) (ls : List L) (os : List Operation) : Type 0 where
    pub bytes : ls ≡ all_bytes make number named ks
    pub operations : os ≡ map operation_of ks
    pub each_some : Each IsSome ks
    pub different : AreDifferent ks

  pub no_loads : Loads [] [] []
  no_loads = grind arith

  pub any_operation : (ks : List (Marked X)) (os : List Operation) (n : ℕ) → os ≡ map operation_of ks
      → list_any (has_number n) os ≡ list_any (is_number n) ks
  any_operation ks os n h = grind (arith, list_any-map, operation_of)

  pub loads_any : (ks : List (Marked X)) (ls : List L) (os : List Operation) → Loads ks ls os → (n : ℕ) → list_any (λ l.
      number l == n) ls ≡ list_any (has_number n) os
  loads_any ks ls os h n = cc (h.bytes, (any_bytes make number named ks n h.each_some ∙ sym (any_operation ks os n h.operations)))

  pub loads_more : (ks : List (Marked X)) (ls : List L) (os : List Operation) → Loads ks ls os → (k : Marked X)
      → list_any (has_number k.operation.number) os ≡ false → IsSome k
      → Loads (ks ++ k ∷ []) (ls ++ bytes_of make number named k) (os ++ k.operation ∷ [])
  loads_more ks ls os h k new s = record {
    bytes = ap (λ x. x ++ bytes_of make number named k) h.bytes ∙ sym (bytes_more make number named ks k);
    operations = ap (λ x. x ++ k.operation ∷ []) h.operations ∙ sym (map-append operation_of ks (k ∷ []));
    each_some = each_append IsSome ks _ h.each_some (s, tt);
    different = different_more ks k h.different (sym (any_operation ks os k.operation.number h.operations) ∙ new);
  }

  pub loads_fewer : (ks : List (Marked X)) (ls : List L) (os : List Operation) → Loads ks ls os → (n : ℕ)
      → Loads (filter (λ k. not (is_number n k)) ks) (filter (λ l. not (number l == n)) ls) (without_number n os)
  loads_fewer ks ls os h n = record {
    bytes = ap (filter (λ l. not _)) h.bytes ∙ bytes_without make number named ks n;
    operations = ap (without_number n) h.operations ∙ filter-map operation_of (λ o. not _) ks;
    each_some = each_filter IsSome (λ k. not _) ks h.each_some;
    different = different_fewer (λ k. not _) ks h.different;
  }

  some_from : (o : Option (Marked X)) (x : Operation) → option_map operation_of o ≡ Some x → (k : Marked X) × ((o ≡ Some k)
      × (k.operation ≡ x))
  some_from None x h = cc
  some_from (Some k) x h = (k, (refl, cc))

  -- the load that is open under a number, and its bytes
  pub loads_under : (ks : List (Marked X)) (ls : List L) (os : List Operation) → Loads ks ls os → (n : ℕ) (x : Operation)
      → find (has_number n) os ≡ Some x
      → (k : Marked X) × ((find (is_number n) ks ≡ Some k) × ((k.operation ≡ x) × (filter (λ l.
      number l == n) ls ≡ bytes_of make number named k)))
  loads_under ks ls os h n x e =
      let s = some_from _ x (sym (find-map operation_of (has_number n) ks) ∙ (ap (find (has_number n)) (sym
      h.operations) ∙ e)) in
      (s.0, (s.1.0, (s.1.1, ap (filter (λ l. number l == n)) h.bytes ∙ bytes_under make number named ks n s.0 h.different s.1.0)))

  pub length_bytes : (k : Marked X) → length (bytes_of make number named k) ≡ k.operation.length
  length_bytes k = grind (arith, length-map, k.operation, k.operation.number, length-range_with_len, k.operation.length)

  -- an answer of which each byte may be returned has no fault
  pub no_fault : (may : L → ℕ → Bool) (k : Marked X) (bs : List ℕ) → IsSome k → length bs ≡ k.operation.length
      → ((i b : ℕ) → slice_get bs i ≡ Some b → i < k.operation.length
      → may (make k.operation (k.operation.address + i) k.mark) b ≡ true)
      → load_response_fault may (bytes_of make number named k) bs ≡ None
  no_fault may k bs s e h =
      let len = length_bytes k in
      let some = ne_eqb (length (bytes_of make number named k)) 0 (λ z.
      absurd (omega arith)) in
      let same = eq-eqb (length (bytes_of make number named k)) (length bs)
      (len ∙ sym e) in
      let paid = each_paid make number named may k.operation k.mark k.operation.length k.operation.address bs h in
      let right = no_wrong_place may (zip (bytes_of make number named k) bs) paid
      in
      rw (some, same, right) refl
