use Rattle.std.proofs.Common.{Err, ap, ◌∙◌}
use Rattle.std.specs.List.{list_all}
use Rattle.round_driver.specs.Walks.{is_request}
use Rattle.kroft_jobs.specs.Jobs.{swept}
use Rattle.kroft_jobs.proofs.Driving.{all_requests}
use Rattle.kroft_jobs.proofs.Sweeping.{unswept, all_swept}
use Rattle.kroft_jobs.proofs.rounds.sweep_latencies.Goals as goal

pub sweep_each-requires-clause-all : goal.sweep_each-requires-clause-all
sweep_each-requires-clause-all g c κs outlives =
    ap (list_all is_request) c.as_slice-2.ensures.value
    ∙ all_requests c.in_ok-requests.requests.items c.in_ok-requests.ensures.requests

pub returns-in_err-rows-clause-fault : goal.returns-in_err-rows-clause-fault
returns-in_err-rows-clause-fault g c =
    let read = c.in_ok-requests.ensures.read in
    let told = c.from_residual-in_err-rows in
    let made = c.as_slice.ensures.value ∙ c.in_ok-machines.ensures in
    unswept g.I.Source.gave g.I.Source.failed (swept c.args.sizes.now c.args.registers.now) c.args.input.now c.read_requests.new.reader
    read.0 read.1 c.as_slice.result.now made c.in_err-rows.field-0.0 (λ limit. c.in_err-rows.ensures.no_turns (ap Err limit))
    c.in_err-rows.ensures.fault told.result told.ensures.1

pub returns-clause-rows : goal.returns-clause-rows
returns-clause-rows g c =
    let read = c.in_ok-requests.ensures.read in
    let said = c.as_slice-2.ensures.value ∙ read.2 in
    let made = c.as_slice.ensures.value ∙ c.in_ok-machines.ensures in
    let machines = swept c.args.sizes.now c.args.registers.now in
    let rows = all_swept c.args.timings.now c.as_slice-2.result.now _ c.as_slice.result.now machines c.in_ok-rows.rows.items
    said made c.in_ok-rows.ensures.rows in
    (read.0, read.1, rows)
