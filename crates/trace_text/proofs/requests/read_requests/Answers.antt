use Rattle.std.proofs.Common.{arith, ◌≡◌, ℕ, List, sym, ◌∙◌, ap, subst, length}
use Rattle.std.specs.List.{AllByRecursion}
use Rattle.trace_text.specs.Requests.{IsRequest, requests_of}
use Rattle.trace_text.specs.declared.requests.Requests.{Requests}
use Rattle.trace_text.proofs.Ends.{read_fails}
use Rattle.trace_text.proofs.Held.{requests_are, requests_few}
use Rattle.trace_text.proofs.requests.read_requests.Goals as goal

pub returns-in-Ok-clause-requests : goal.returns-in-Ok-clause-requests
returns-in-Ok-clause-requests g c =
    let reads = c.in-Ok.ensures.reads in
    subst (AllByRecursion IsRequest) (sym (reads.4 ∙ reads.3)) (requests_are reads.0)

pub returns-in-Ok-clause-few : goal.returns-in-Ok-clause-few
returns-in-Ok-clause-few g c =
    let reads = c.in-Ok.ensures.reads in
    omega (arith, ap length (reads.4 ∙ reads.3), requests_few reads.0, reads.2.1.within)

pub returns-in-Err-clause-fault : goal.returns-in-Err-clause-fault
returns-in-Err-clause-fault g c =
    let went : Requests → List (List ℕ) → Requests → Type 0 = λ s texts t. t.events.items ≡ requests_of texts in
    let start : Requests = record { events = c.new.result } in
    read_fails _ g.R.Source.failed _ went (λ s text t. Unit {0}) (λ s t. t.events.items ≡ s.events.items) (λ s t. ⊥) _ _ _ start
    c.read_lines.new.collector _ _ c.in-Err.ensures.reads c.fault_or.ensures.fault c.fault_or.ensures.halted
