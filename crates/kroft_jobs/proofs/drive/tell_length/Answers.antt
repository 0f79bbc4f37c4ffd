use Rattle.kroft_jobs.specs.Lengths.{long_run_line}
use Rattle.kroft_jobs.proofs.Measured.{offered}
use Rattle.kroft_jobs.proofs.drive.tell_length.Goals as goal

pub returns : goal.returns
returns g c =
    let told = c.put_text-told in
    offered g.E.Sink.took g.E.Sink.refused g.E.Sink.unflushed c.args.errors.now long_run_line told.new.output told.result
    told.ensures.ok told.ensures.err
