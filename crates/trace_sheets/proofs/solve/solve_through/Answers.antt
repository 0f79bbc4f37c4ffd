use Rattle.std.proofs.Common.{◌≡◌, ◌∙◌, ap, refl, sym, subst}
use Rattle.trace_text.proofs.Ends.{read_fails}
use Rattle.trace_sheets.specs.Ends.{at, ended_gave, ended_failed}
use Rattle.trace_sheets.specs.Sheets.{sheet_fault}
use Rattle.trace_sheets.specs.Solutions.{Solves}
use Rattle.trace_sheets.specs.declared.ended.Place.TheVariants.{Begin}
use Rattle.trace_sheets.proofs.solve.solve_through.Goals as goal

pub read_ended-requires-clause-went : goal.read_ended-requires-clause-went
read_ended-requires-clause-went g c = record { state = refl; text = c.requires.empty }

pub returns-in-Ok-clause-ends : goal.returns-in-Ok-clause-ends
returns-in-Ok-clause-ends g c =
    let reads = c.in-Ok.ensures.reads.1 in
    let m = c.args.solving.now.machine.now in
    let solves = subst (λ t. Solves m reads.0 t.machine.now t.solution.now.items) (sym reads.4) reads.3 in
    let taken = c.finished.ensures in (
      reads.0,
      (c.in-Ok.ensures.reads.0, reads.2),
      record { state = ap (λ x. x.now) taken.machine ∙ solves.state; text = taken.solution ∙ solves.text },
    )

pub returns-in-Err-clause-ends : goal.returns-in-Err-clause-ends
returns-in-Err-clause-ends g c =
    let place = c.in-Err.ensures.reads.0 in (
      place,
      read_fails (ended_gave g.R.Source.gave) (ended_failed g.R.Source.failed) sheet_fault
          (λ s texts t. Solves s.machine.now texts t.machine.now t.solution.now.items) (λ s text t. Unit {0}) (λ s t. t ≡ s) (λ s t. ⊥) 768
          (at c.args.reader.now Begin) (at c.read_ended.new.reader place) c.args.solving.now c.read_ended.new.collector
          c.in-Err.stop c.fault_or.result c.in-Err.ensures.reads.1 c.fault_or.ensures.fault c.fault_or.ensures.halted,
    )
