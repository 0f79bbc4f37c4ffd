use Rattle.access_logs.proofs.Logs.{requested_still}
use Rattle.access_logs.proofs.writing.WritingCollector.pause.Goals as goal

pub returns-clause-kept : goal.returns-clause-kept
returns-clause-kept g c start texts went =
    (requested_still went.0 c.in_ok-flush_all.ensures.ok, went.1, went.2, went.3)
