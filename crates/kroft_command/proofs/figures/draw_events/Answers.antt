use Rattle.std.proofs.Common.{inl}
use Rattle.kroft_command.proofs.Answering.{no_marks}
use Rattle.kroft_command.proofs.figures.draw_events.Goals as goal

pub returns-in_err-marks-clause-ends : goal.returns-in_err-marks-clause-ends
returns-in_err-marks-clause-ends g c =
    no_marks g.O.Sink.took g.O.Sink.refused g.O.Sink.unflushed g.E.Sink.took g.E.Sink.refused g.E.Sink.unflushed _ _
    c.args.errors.now c.args.output.now c.from_residual-in_err-marks.result c.from_residual-in_err-marks.ensures.1

pub returns-clause-ends : goal.returns-clause-ends
returns-clause-ends g c =
    inl (c.in_ok-marks.marks.items, (c.in_ok-run.run', c.in_ok-run.ensures, c.in_ok-marks.ensures), c.put_figure.ensures.ends)
