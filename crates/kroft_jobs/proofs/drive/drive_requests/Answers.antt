use Rattle.std.proofs.Common.{ap, sym, subst, ◌∙◌}
use Rattle.std.specs.List.{list_all}
use Rattle.register_sweeps.specs.Sweep.{machine_over}
use Rattle.round_driver.specs.Walks.{is_request}
use Rattle.kroft_jobs.specs.Asking.{Asks, room_of}
use Rattle.kroft_jobs.proofs.Driving.{driven, driven_not}
use Rattle.kroft_jobs.proofs.drive.drive_requests.Goals as goal

pub tell_and_drive-requires-clause-all : goal.tell_and_drive-requires-clause-all
tell_and_drive-requires-clause-all g c =
    ap (list_all is_request) c.as_slice-requests.ensures.value ∙ c.in_ok-asked.ensures.requests

pub returns-in-Ok : goal.returns-in-Ok
returns-in-Ok g c =
    let room = room_of c.args.sizes.now in
    let groups = c.in_ok-asked.asked.groups.items in
    let asks = subst (λ r. Asks g.I.Source.gave c.args.from room c.args.input.now c.read_asked.new.input r groups)
    (sym c.as_slice-requests.ensures.value) c.in_ok-asked.ensures.said in
    driven g.I.Source.gave g.I.Source.failed g.O.Sink.took g.O.Sink.refused g.E.Sink.took g.E.Sink.refused g.E.Sink.unflushed
    c.args.from room c.args.timing (machine_over c.args.image.now c.args.sizes.now) c.args.input.now c.read_asked.new.input
    c.args.output.now c.tell_and_drive.new.output c.args.errors.now c.tell_and_drive.new.errors
    c.as_slice-requests.result.now groups asks c.in-Ok.rounds c.in-Ok.ensures

pub returns : goal.returns
returns g c =
    let room = room_of c.args.sizes.now in
    let groups = c.in_ok-asked.asked.groups.items in
    let asks = subst (λ r. Asks g.I.Source.gave c.args.from room c.args.input.now c.read_asked.new.input r groups)
    (sym c.as_slice-requests.ensures.value) c.in_ok-asked.ensures.said in
    driven_not g.I.Source.gave g.I.Source.failed g.O.Sink.took g.O.Sink.refused g.E.Sink.took g.E.Sink.refused g.E.Sink.unflushed
    c.args.from room c.args.timing (machine_over c.args.image.now c.args.sizes.now) c.args.input.now c.read_asked.new.input
    c.args.output.now c.tell_and_drive.new.output c.args.errors.now c.tell_and_drive.new.errors
    c.as_slice-requests.result.now groups asks c.in-Err.fault c.in-Err.ensures
