use Rattle.std.proofs.Common.{arith}
use Rattle.trace_text.proofs.Readings.{filled_by}
use Rattle.trace_text.proofs.pieces.fill.Goals as goal

pub returns-clause-ok : goal.returns-clause-ok
returns-clause-ok g c =
    let given = c.in_ok-given.ensures in
    filled_by c.args.buffer.now c.read_some.new.buf _ c.args.filled c.in_ok-given.given given.gave c.requires given.bound.0
    (omega (arith, c.read_some.auto.buf))
