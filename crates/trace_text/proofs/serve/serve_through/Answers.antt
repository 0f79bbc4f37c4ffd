use Rattle.trace_text.proofs.Serving.{applied_none}
use Rattle.trace_text.proofs.Ends.{serve_ends, serve_stops}
use Rattle.trace_text.proofs.serve.serve_through.Goals as goal

pub read_lines-requires-clause-went : goal.read_lines-requires-clause-went
read_lines-requires-clause-went g c =
    let serving = c.args.serving.now in
    applied_none serving.writer.now (g.M.AnyMachine.state serving.machine.now) serving.counts c.requires.fresh

pub returns-in-Ok-clause-ends : goal.returns-in-Ok-clause-ends
returns-in-Ok-clause-ends g c =
    let source = g.R.Source in
    let sink = g.W.Sink in
    serve_ends source.gave source.failed sink.took sink.refused sink.unflushed (λ s. s.writer.now) (λ s. g.M.AnyMachine.state s.machine.now)
    (λ s. s.counts) c.args.reader.now c.read_lines.new.reader c.args.serving.now c.read_lines.new.collector tt c.in-Ok.ensures.reads

pub returns-in-Err-clause-ends : goal.returns-in-Err-clause-ends
returns-in-Err-clause-ends g c =
    let source = g.R.Source in
    let sink = g.W.Sink in
    serve_stops source.gave source.failed sink.took sink.refused sink.unflushed (λ s. s.writer.now)
    (λ s. g.M.AnyMachine.state s.machine.now) (λ s. s.counts) c.args.reader.now c.read_lines.new.reader c.args.serving.now
    c.read_lines.new.collector c.in-Err.stop c.fault_or.result c.in-Err.ensures.reads c.fault_or.ensures.fault c.fault_or.ensures.halted
