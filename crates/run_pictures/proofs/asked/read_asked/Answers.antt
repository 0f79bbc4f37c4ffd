use Rattle.std.proofs.Common.{◌≡◌, ℕ, List, Some}
use Rattle.trace_text.specs.declared.fault.TheConstants.{MAX_PAIR}
use Rattle.trace_text.proofs.Ends.{read_fails}
use Rattle.run_pictures.specs.Asked.{Gathered, said_fault}
use Rattle.run_pictures.specs.declared.asked.AskedSoFar.{AskedSoFar}
use Rattle.run_pictures.proofs.asked.read_asked.Goals as goal

pub returns-in-Err-clause-fault : goal.returns-in-Err-clause-fault
returns-in-Err-clause-fault g c =
    let went : AskedSoFar → List (List ℕ) → AskedSoFar → Type 0 = λ s texts t. Gathered texts t in
    let start : AskedSoFar = record { kept = Some c.new.result } in
    read_fails g.R.Source.gave g.R.Source.failed said_fault went (λ s text t. Unit {0}) (λ s t. t ≡ s) (λ s t. ⊥) MAX_PAIR c.args.reader.now
    c.read_lines.new.reader start c.read_lines.new.collector c.in-Err.stop c.fault_or.result c.in-Err.ensures.reads c.fault_or.ensures.fault
    c.fault_or.ensures.halted
