use Rattle.std.proofs.Common.{◌≡◌, ◌∙◌, ap, sym, subst, refl}
use Rattle.trace_sheets.specs.Sheets.{sheet_fault, sheet_line}
use Rattle.trace_sheets.specs.Grades.{Graded, after_said}
use Rattle.trace_text.proofs.Ends.{read_fails}
use Rattle.trace_sheets.specs.Ends.{at, ended_gave, ended_failed}
use Rattle.trace_sheets.proofs.Grading.{graded_none, leaves_behind}
use Rattle.trace_sheets.specs.declared.ended.Place.TheVariants.{Begin}
use Rattle.trace_sheets.proofs.grade.grade_through.Goals as goal

pub read_ended-requires-clause-went : goal.read_ended-requires-clause-went
read_ended-requires-clause-went g c =
    let grading = c.args.grading.now in
    (refl, refl, graded_none grading.format grading.marking grading.machine.now c.requires.report c.requires.score)

pub returns-in-Ok-clause-ends : goal.returns-in-Ok-clause-ends
returns-in-Ok-clause-ends g c =
    let place = c.in-Ok.ensures.reads.0 in
    let reads = c.in-Ok.ensures.reads.1 in
    let format = c.args.grading.now.format in
    let marking = c.args.grading.now.marking in
    let m = c.args.grading.now.machine.now in
    let graded = subst (λ t. Graded format marking m reads.0 t.machine.now t.report.now.items t.score) (sym reads.4) reads.3.2 in
    let taken = c.finished.ensures in (
      reads.0,
      (place, reads.2),
      record {
        state = ap (λ x. x.now) taken.machine ∙ graded.state;
        told = taken.report ∙ graded.told;
        marks = taken.score ∙ graded.marks;
      },
    )

pub returns-in-Err-clause-ends : goal.returns-in-Err-clause-ends
returns-in-Err-clause-ends g c =
    let place = c.in-Err.ensures.reads.0 in (
      place,
      read_fails (ended_gave g.R.Source.gave) (ended_failed g.R.Source.failed) sheet_fault
          (λ s texts t. (t.format ≡ s.format) × (t.marking ≡ s.marking)
          × Graded s.format s.marking s.machine.now texts t.machine.now t.report.now.items t.score)
          (λ s text t. t.machine.now ≡ after_said s.machine.now (sheet_line text)) (λ s t. t ≡ s) (λ s t. ⊥) 768
          (at c.args.reader.now Begin) (at c.read_ended.new.reader place) c.args.grading.now c.read_ended.new.collector
          c.in-Err.stop c.fault_or.result c.in-Err.ensures.reads.1 c.fault_or.ensures.fault c.fault_or.ensures.halted,
    )

pub returns-in-Err-clause-fault : goal.returns-in-Err-clause-fault
returns-in-Err-clause-fault g c =
    leaves_behind g.R.Source.gave g.R.Source.failed
    (λ s texts t. (t.format ≡ s.format) × (t.marking ≡ s.marking)
    × Graded s.format s.marking s.machine.now texts t.machine.now t.report.now.items t.score)
    (λ s. s.machine.now) c.args.reader.now c.read_ended.new.reader c.in-Err.ensures.reads.0 c.args.grading.now c.read_ended.new.collector
    c.in-Err.stop c.fault_or.result (λ texts v went. went.2.state) c.in-Err.ensures.reads.1 c.fault_or.ensures.fault
    c.fault_or.ensures.halted
