use Rattle.std.proofs.Common.{rules, refl}
use Rattle.kroft_command.specs.Program.{Draws}
use Rattle.kroft_command.proofs.Answering.{answered}
use Rattle.kroft_command.proofs.tasks.show.Goals as goal

pub returns-clause-ends : goal.returns-clause-ends
unfolding Draws
returns-clause-ends g c =
    answered g.O.Sink.took g.O.Sink.refused g.O.Sink.unflushed _ _ _ _
    c.as_str.result.now 0 (c.in_ok-drawing.drawing, c.in_ok-drawing.ensures, search rules, refl)
    c.answer.result c.answer.ensures.ok c.answer.ensures.status c.answer.ensures.err c.answer.ensures.fault
