use Rattle.std.proofs.Common.{refl, sym, subst}
use Rattle.history_sessions.specs.Session.{Session, session_opening}
use Rattle.history_sessions.proofs.Timely.{timely_at_first}
use Rattle.history_text.specs.Histories.{Judges}
use Rattle.history_text.proofs.Ends.{judges_whole, judges_fault, judges_halted}
use Rattle.history_text.proofs.histories.judge_by_law.Goals as goal

pub read_lines_within-requires-clause-went : goal.read_lines_within-requires-clause-went
read_lines_within-requires-clause-went g c =
    let start : Session = session_opening c.args.law c.args.image.now c.args.rest in
    let timely = timely_at_first c.args.law c.args.image.now c.args.rest in
    record { start = start; begun = c.new-judging.ensures start c.in_ok-session.ensures.kept timely refl; each = λ other h. h }

pub returns-in-Ok : goal.returns-in-Ok
returns-in-Ok g c =
    let start : Session = session_opening c.args.law c.args.image.now c.args.rest in
    let timely = timely_at_first c.args.law c.args.image.now c.args.rest in
    judges_whole g.R.Source.gave g.R.Source.failed start _ _ c.new-judging.result c.read_lines_within.new.collector c.end.result
    (c.new-judging.ensures start c.in_ok-session.ensures.kept timely refl) c.in-Ok.ensures.reads c.end.ensures

pub returns-in-Err-Fault : goal.returns-in-Err-Fault
returns-in-Err-Fault g c =
    let start : Session = session_opening c.args.law c.args.image.now c.args.rest in
    let timely = timely_at_first c.args.law c.args.image.now c.args.rest in
    judges_fault g.R.Source.gave g.R.Source.failed start _ _ c.new-judging.result c.read_lines_within.new.collector c.in-Err-Fault.field-0
    c.in-Err-Fault.fault (c.new-judging.ensures start c.in_ok-session.ensures.kept timely refl) c.in-Err-Fault.field-0-is
    c.in-Err-Fault.ensures.reads

pub returns-in-Err-Halted : goal.returns-in-Err-Halted
returns-in-Err-Halted g c =
    let start : Session = session_opening c.args.law c.args.image.now c.args.rest in
    let timely = timely_at_first c.args.law c.args.image.now c.args.rest in
    subst (Judges g.R.Source.gave g.R.Source.failed start c.args.reader.now c.read_lines_within.new.reader) (sym c.ended.ensures)
    (judges_halted g.R.Source.gave g.R.Source.failed start _ _ c.new-judging.result c.read_lines_within.new.collector
    c.in-Err-Halted.field-0 (c.new-judging.ensures start c.in_ok-session.ensures.kept timely refl) c.in-Err-Halted.field-0-is
    c.in-Err-Halted.ensures.reads)
