-- Rows that say requests give requests, and so their run is over in time.
use Rattle.std.proofs.Common.{◌≡◌, ℕ, zero, suc, List, [], ◌∷◌, refl, subst, arith}
use Rattle.std.specs.Prelude.{true, nat_lt}
use Rattle.std.specs.List.{list_all}
use Rattle.std.proofs.lemmas.Bool.{and_parts, and_from}
use Rattle.machine_core.specs.Words.{Event}
use Rattle.machine_core.specs.Machine.{MachineState}
use Rattle.flat_judge.specs.declared.rows.EventRow.{EventRow}
use Rattle.round_driver.specs.Walks.{is_request, RequestsEnd, IsOverInTime}
use Rattle.machine_handles.specs.Rounds.{is_request_row, request_of, requests_of, timing}

-- a row of this kind
with_kind : (k : ℕ) (r : EventRow) → nat_lt k 4 ≡ true → is_request (request_of (record r { kind = k })) ≡ true
with_kind zero r p = refl
with_kind (suc zero) r p = refl
with_kind (suc (suc zero)) r p = refl
with_kind (suc (suc (suc zero))) r p = refl
with_kind (suc (suc (suc (suc n)))) r p = grind arith

all_requests : (rows : List EventRow) → list_all is_request_row rows ≡ true → list_all is_request (requests_of rows) ≡ true
all_requests [] p = refl
all_requests (r ∷ rows) p =
    let parts = and_parts (is_request_row r) (list_all is_request_row rows) p in
    and_from (is_request (request_of r)) (list_all is_request (requests_of rows)) (with_kind r.kind r parts.0) (all_requests rows parts.1)

-- the run of these rows is over, by what the driver says of the requests that were made of them
pub is_over : (latency busy l b : ℕ) (s : MachineState) (rows : List EventRow) (requests : List Event)
    → l ≡ latency → b ≡ busy → requests ≡ requests_of rows → list_all is_request_row rows ≡ true
    → RequestsEnd (timing l b) s requests → IsOverInTime (timing latency busy) s (requests_of rows)
is_over latency busy l b s rows requests same_latency same_busy same are ends =
    let one = subst (λ (n : ℕ). RequestsEnd (timing n b) s requests) same_latency ends in
    let two = subst (λ (n : ℕ). RequestsEnd (timing latency n) s requests) same_busy one in
    subst (λ (es : List Event). RequestsEnd (timing latency busy) s es) same two (all_requests rows are)
