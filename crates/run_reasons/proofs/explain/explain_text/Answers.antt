use Rattle.std.proofs.Common.{sym, subst}
use Rattle.flat_model.specs.Images.{memory_from}
use Rattle.run_reasons.specs.Runs.{Explains}
use Rattle.run_reasons.proofs.Ends.{told_fault, told_halted}
use Rattle.run_reasons.proofs.explain.explain_text.Goals as goal

pub returns-in-Err-Fault : goal.returns-in-Err-Fault
returns-in-Err-Fault g c =
    told_fault g.R.Source.gave g.R.Source.failed (memory_from c.args.image.now c.args.words) c.args.reader.now
    c.read_lines_within.new.reader
    c.in_ok-explaining.explaining c.read_lines_within.new.collector c.in-Err-Fault.field-0 c.in-Err-Fault.fault
    c.in_ok-explaining.ensures.origins c.in-Err-Fault.field-0-is c.in-Err-Fault.ensures.reads

pub returns : goal.returns
returns g c =
    let words = memory_from c.args.image.now c.args.words in
    let s = g.R.Source in
    subst (Explains s.gave s.failed words c.args.reader.now c.read_lines_within.new.reader) (sym c.told.ensures)
    (told_halted s.gave s.failed words c.args.reader.now c.read_lines_within.new.reader c.in_ok-explaining.explaining
    c.read_lines_within.new.collector c.in-Err-Halted.field-0 c.in_ok-explaining.ensures.origins c.in-Err-Halted.field-0-is
    c.in-Err-Halted.ensures.reads)
