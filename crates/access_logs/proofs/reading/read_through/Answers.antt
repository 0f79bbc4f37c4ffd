use Rattle.access_logs.specs.Logs.{state_with}
use Rattle.access_logs.proofs.Kept.{log_stopped}
use Rattle.access_logs.proofs.reading.read_through.Goals as goal

pub returns-in-Some-clause-fault : goal.returns-in-Some-clause-fault
returns-in-Some-clause-fault g c =
    log_stopped g.R.Source.gave g.R.Source.failed g.F.LogFormat.access_in (λ s. state_with s.pages s.tag s.lines) (λ s. s.room)
    (λ s. s.requests.items) (λ s. s.groups.items) (λ s. s.fault)
    c.args.reader.now c.read_lines_within.new.reader c.args.reading.now c.read_lines_within.new.collector c.in-Some.fault
    c.in-Err-Halted.field-0 c.in-Err-Halted.field-0-is c.in-Err-Halted.ensures.reads c.in-Some.is
