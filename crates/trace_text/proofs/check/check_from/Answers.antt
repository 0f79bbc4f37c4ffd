use Rattle.std.proofs.Common.{◌≡◌, ℕ, List, None}
use Rattle.flat_model.specs.Memory.{shown}
use Rattle.trace_text.specs.Checks.{JudgedFrom}
use Rattle.trace_text.specs.declared.check.Checking.{Checking}
use Rattle.trace_text.proofs.Ends.{read_fails}
use Rattle.trace_text.proofs.check.check_from.Goals as goal

pub returns-in-Err-clause-fault : goal.returns-in-Err-clause-fault
returns-in-Err-clause-fault g c =
    let went : Checking → List (List ℕ) → Checking → Type 0 =
    λ s texts t. JudgedFrom (shown s.memory) texts t.steps t.mismatch (shown t.memory) in
    let start : Checking = record { memory = c.args.memory; steps = 0; mismatch = None } in
    read_fails _ g.R.Source.failed _ went (λ s text t. Unit {0}) (λ s t. t ≡ s) (λ s t. ⊥) _ _ _ start c.read_lines.new.collector _ _
    c.in-Err.ensures.reads c.fault_or.ensures.fault c.fault_or.ensures.halted
