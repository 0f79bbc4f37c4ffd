use Rattle.std.proofs.Common.{◌≡◌, ℕ, List, ◌∙◌, ap, arith, length}
use Rattle.trace_text.proofs.Ends.{read_fails}
use Rattle.trace_sheets.specs.Ends.{at, ended_gave, ended_failed}
use Rattle.trace_sheets.specs.Handed.{questions_from}
use Rattle.trace_sheets.specs.Sheets.{sheet_fault}
use Rattle.trace_sheets.specs.declared.ended.Place.TheVariants.{Begin}
use Rattle.trace_sheets.specs.declared.handed.Asking.{Asking}
use Rattle.trace_sheets.proofs.Handing.{few_questions}
use Rattle.trace_sheets.proofs.handed.read_questions.Goals as goal

pub returns-in-Ok-clause-few : goal.returns-in-Ok-clause-few
returns-in-Ok-clause-few g c =
    let reads = c.in-Ok.ensures.reads.1 in
    let all = ap (λ t. t.questions.items) reads.4 ∙ reads.3 in
    omega (arith, ap length all, few_questions 1 reads.0, reads.2.1.within)

pub returns-in-Err-clause-asks : goal.returns-in-Err-clause-asks
returns-in-Err-clause-asks g c =
    let went : Asking → List (List ℕ) → Asking → Type 0 = λ s texts t. t.questions.items ≡ questions_from 1 texts in
    let start : Asking = record { questions = c.new.result } in
    let place = c.in-Err.ensures.reads.0 in (
      place,
      read_fails (ended_gave g.R.Source.gave) (ended_failed g.R.Source.failed) sheet_fault went (λ s text t. Unit {0}) (λ s t. t ≡ s)
          (λ s t. ⊥) 768 (at c.args.reader.now Begin) (at c.read_ended.new.reader place) start c.read_ended.new.collector c.in-Err.stop
          c.fault_or.result c.in-Err.ensures.reads.1 c.fault_or.ensures.fault c.fault_or.ensures.halted,
    )
