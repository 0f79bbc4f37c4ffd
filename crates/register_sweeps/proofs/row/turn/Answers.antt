use Rattle.std.proofs.Common.{sym, ◌∙◌, arith}
use Rattle.register_sweeps.proofs.Lacking.{refused_again}
use Rattle.register_sweeps.proofs.row.turn.Goals as goal

pub returns-then-not-made_room : goal.returns-then-not-made_room
returns-then-not-made_room c =
    let again = refused_again _ _ c.args.row.now _ c.args.event c.pump_once-made_room.ensures.course
    (sym c.pump_once-made_room.ensures.room ∙ c.if-not-made_room.true)
    (c.requires.lacks (sym c.lacks_room.ensures ∙ c.if-lacks_room.true)) in
    record { ends = again.ends; course = again.course; lacks = λ _. again.lacks; total = grind arith }
