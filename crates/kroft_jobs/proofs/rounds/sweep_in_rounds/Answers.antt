use Rattle.std.proofs.Common.{Err, refl, ap, ◌∙◌, arith}
use Rattle.std.specs.List.{list_all}
use Rattle.round_driver.specs.Walks.{is_request}
use Rattle.kroft_jobs.specs.Jobs.{swept}
use Rattle.kroft_jobs.proofs.Driving.{all_requests}
use Rattle.kroft_jobs.proofs.Sweeping.{unswept, rows_counted}
use Rattle.kroft_jobs.proofs.rounds.sweep_in_rounds.Goals as goal

pub returns-in_err-rows-clause-fault : goal.returns-in_err-rows-clause-fault
returns-in_err-rows-clause-fault g c =
    let read = c.in_ok-requests.ensures.read in
    let told = c.from_residual-in_err-rows in
    let made = c.as_slice-2.ensures.value ∙ c.in_ok-machines.ensures in
    unswept g.I.Source.gave g.I.Source.failed (swept c.args.sizes.now c.args.registers.now) c.args.input.now c.read_requests.new.reader
    read.0 read.1 c.as_slice-2.result.now made c.in_err-rows.field-0.0
    (λ limit. c.in_err-rows.ensures.begins refl (omega arith) (ap Err limit)) c.in_err-rows.ensures.fault told.result told.ensures.1

pub returns-clause-rows : goal.returns-clause-rows
returns-clause-rows g c =
    let read = c.in_ok-requests.ensures.read in
    let all = ap (list_all is_request) c.as_slice.ensures.value
    ∙ all_requests c.in_ok-requests.requests.items c.in_ok-requests.ensures.requests in
    let made = c.as_slice-2.ensures.value ∙ c.in_ok-machines.ensures in
    let rows = c.in_ok-rows in
    let counted = rows_counted c.args.timing c.as_slice.result.now _ c.as_slice-2.result.now (swept c.args.sizes.now c.args.registers.now)
    rows.rows.items (c.as_slice.ensures.value ∙ read.2) all made rows.ensures.rows rows.ensures.over in
    (read.0, read.1, counted)
