use Rattle.std.proofs.Common.{inl, inr}
use Rattle.kroft_command.proofs.Performed.{long_image}
use Rattle.kroft_command.proofs.program.perform.Goals as goal

pub returns-in_err-find_room-clause-ends : goal.returns-in_err-find_room-clause-ends
returns-in_err-find_room-clause-ends g c =
    let told = c.from_residual-in_err-find_room in
    long_image g.I.Source.gave g.I.Source.failed g.O.Sink.took g.O.Sink.refused g.O.Sink.unflushed
    g.E.Sink.took g.E.Sink.refused g.E.Sink.unflushed c.args.asked
    c.args.errors.now c.args.input.now c.args.output.now c.in_ok-sizes.sizes c.in_ok-beside.beside c.in_ok-image.image
    c.in_err-find_room.field-0.0 c.in_ok-sizes.ensures.sizes c.in_ok-beside.ensures.sizes c.in_ok-image.ensures.image
    (inl c.in_err-find_room.ensures.fault) told.result told.ensures.1

pub returns-in_err-find_room_beside-clause-ends : goal.returns-in_err-find_room_beside-clause-ends
returns-in_err-find_room_beside-clause-ends g c =
    let told = c.from_residual-in_err-find_room_beside in
    long_image g.I.Source.gave g.I.Source.failed g.O.Sink.took g.O.Sink.refused g.O.Sink.unflushed
    g.E.Sink.took g.E.Sink.refused g.E.Sink.unflushed c.args.asked
    c.args.errors.now c.args.input.now c.args.output.now c.in_ok-sizes.sizes c.in_ok-beside.beside c.in_ok-image.image
    c.in_err-find_room_beside.field-0.0 c.in_ok-sizes.ensures.sizes c.in_ok-beside.ensures.sizes c.in_ok-image.ensures.image
    (inr c.in_err-find_room_beside.ensures.fault) told.result told.ensures.1
