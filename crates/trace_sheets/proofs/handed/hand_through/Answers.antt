use Rattle.std.proofs.Common.{◌≡◌}
use Rattle.trace_text.proofs.Ends.{read_fails}
use Rattle.trace_sheets.specs.Ends.{at, ended_gave, ended_failed}
use Rattle.trace_sheets.specs.Handed.{HandsIn, marks, walk}
use Rattle.trace_sheets.specs.Sheets.{sheet_fault}
use Rattle.trace_sheets.specs.declared.ended.Place.TheVariants.{Begin}
use Rattle.trace_sheets.proofs.handed.hand_through.Goals as goal

pub returns-in-Err-clause-ends : goal.returns-in-Err-clause-ends
returns-in-Err-clause-ends g c =
    let place = c.in-Err.ensures.reads.0 in (
      place,
      read_fails (ended_gave g.R.Source.gave) (ended_failed g.R.Source.failed) sheet_fault
          (λ s texts t. HandsIn s.format
          (walk s.lines s.questions.now (marks s.machine.now s.behind s.report.now.items s.score)) texts
          (walk t.lines t.questions.now (marks t.machine.now t.behind t.report.now.items t.score)) × (t.format ≡ s.format))
          (λ s text t. Unit {0}) (λ s t. t ≡ s) (λ s t. ⊥) 768
          (at c.args.reader.now Begin) (at c.read_ended.new.reader place) c.args.handing.now c.read_ended.new.collector
          c.in-Err.stop c.fault_or.result c.in-Err.ensures.reads.1 c.fault_or.ensures.fault c.fault_or.ensures.halted,
    )
