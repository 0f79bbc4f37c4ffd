use Rattle.std.proofs.Common.{◌≡◌, ◌∙◌, ap, sym, subst}
use Rattle.history_text.specs.Histories.{ended_by}
use Rattle.history_text.specs.Values.{nothing, Writes}
use Rattle.history_text.proofs.Written.{writes_whole, told_fault, told_halted}
use Rattle.history_text.proofs.values.write_through.Goals as goal

pub read_lines_within-requires-clause-went : goal.read_lines_within-requires-clause-went
read_lines_within-requires-clause-went g c =
    let begun = c.requires.begun in
    (record { start = begun.0; begun = begun.1; each = λ other h. h }, λ start h. nothing, λ due. cc (due, c.requires.due))

pub returns-in-Ok-clause-ends : goal.returns-in-Ok-clause-ends
returns-in-Ok-clause-ends g c start h =
    let s = g.W.Sink in
    writes_whole g.R.Source.gave g.R.Source.failed s.took s.refused s.unflushed start _ _ c.args.writing.now
    c.read_lines_within.new.collector c.end.result h c.in-Ok.ensures.reads c.end.ensures

pub returns-in-Err-Fault-clause-ends : goal.returns-in-Err-Fault-clause-ends
returns-in-Err-Fault-clause-ends g c start h =
    let s = g.W.Sink in
    told_fault g.R.Source.gave g.R.Source.failed s.took s.refused s.unflushed start _ _ c.args.writing.now
    c.read_lines_within.new.collector c.in-Err-Fault.field-0 c.in-Err-Fault.fault h c.in-Err-Fault.field-0-is c.in-Err-Fault.ensures.reads

pub returns-in-Err-Halted-clause-ends : goal.returns-in-Err-Halted-clause-ends
returns-in-Err-Halted-clause-ends g c start h =
    let s = g.W.Sink in
    subst (Writes g.R.Source.gave g.R.Source.failed s.took s.refused s.unflushed start c.args.reader.now
    c.read_lines_within.new.reader c.args.writing.now.writer.now c.read_lines_within.new.collector.writer.now)
    (sym (c.ended.ensures ∙ ap ended_by c.replace.ensures.value))
    (told_halted g.R.Source.gave g.R.Source.failed s.took s.refused s.unflushed start _ _ c.args.writing.now
    c.read_lines_within.new.collector c.in-Err-Halted.field-0 h c.in-Err-Halted.field-0-is c.in-Err-Halted.ensures.reads)
