use Rattle.std.proofs.Common.{◌≡◌, ℕ, List}
use Rattle.trace_text.specs.Events.{Gathered}
use Rattle.trace_text.specs.declared.events.Events.{Events}
use Rattle.trace_text.proofs.Ends.{read_fails}
use Rattle.trace_text.proofs.events.read_events.Goals as goal

pub returns-in-Err-clause-fault : goal.returns-in-Err-clause-fault
returns-in-Err-clause-fault g c =
    let went : Events → List (List ℕ) → Events → Type 0 = λ s texts t. Gathered s.most texts t in
    let start : Events = record { most = c.args.most; count = 0; events = c.new.result } in
    read_fails _ g.R.Source.failed _ went (λ s text t. Unit {0}) (λ s t. t ≡ s) (λ s t. ⊥) _ _ _ start c.read_lines.new.collector _ _
    c.in-Err.ensures.reads c.fault_or.ensures.fault c.fault_or.ensures.halted
