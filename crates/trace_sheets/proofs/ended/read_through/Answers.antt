use Rattle.std.proofs.Common.{◌≡◌, sym}
use Rattle.trace_sheets.specs.Ends.{at, ended_gave, ended_failed}
use Rattle.trace_sheets.proofs.Along.{Alike, Same, along, same_along}
use Rattle.trace_sheets.proofs.ended.read_through.Goals as goal

pub returns-clause-reads : goal.returns-clause-reads
returns-clause-reads g c =
    let source = g.R.Source in
    let collector = g.C.Collector in
    along (λ s. at s.reader.now s.place) _ _ (ended_gave source.gave) (ended_failed source.failed)
    (λ s bytes t (gave : (t.reader.ghost_name ≡ s.reader.ghost_name)
    × ended_gave source.gave (at s.reader.now s.place) bytes (at t.reader.now t.place)). gave.1)
    (λ s t (failed : (t.reader.ghost_name ≡ s.reader.ghost_name)
    × ended_failed source.failed (at s.reader.now s.place) (at t.reader.now t.place)). failed.1)
    collector.fault_in 768 collector.went collector.stopped collector.paused collector.unpaused
    c.args.ended.now c.read_lines.new.reader c.args.collector.now c.read_lines.new.collector c.read_lines.result c.read_lines.ensures.reads

pub returns-clause-same_reader : goal.returns-clause-same_reader
returns-clause-same_reader g c =
    let source = g.R.Source in
    let collector = g.C.Collector in
    sym (same_along collector.fault_in 768 collector.went collector.stopped collector.paused collector.unpaused
    c.args.ended.now.reader.ghost_name c.read_lines.new.reader.reader.ghost_name c.args.collector.now c.read_lines.new.collector
    c.read_lines.result (along (λ s. s.reader.ghost_name) _ _ Same Alike
    (λ s bytes t (gave : (t.reader.ghost_name ≡ s.reader.ghost_name)
    × ended_gave source.gave (at s.reader.now s.place) bytes (at t.reader.now t.place)). sym gave.0)
    (λ s t (failed : (t.reader.ghost_name ≡ s.reader.ghost_name)
    × ended_failed source.failed (at s.reader.now s.place) (at t.reader.now t.place)). sym failed.0)
    collector.fault_in 768 collector.went collector.stopped collector.paused collector.unpaused
    c.args.ended.now c.read_lines.new.reader c.args.collector.now c.read_lines.new.collector c.read_lines.result
    c.read_lines.ensures.reads))
