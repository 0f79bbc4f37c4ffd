use Rattle.std.proofs.Common.{sym, subst}
use Rattle.std.specs.List.{AllByRecursion}
use Rattle.trace_text.specs.Requests.{IsRequest}
use Rattle.access_logs.specs.Logs.{log_start}
use Rattle.access_logs.proofs.Kept.{log_asks}
use Rattle.access_logs.proofs.reading.read_log.Goals as goal

pub returns-clause-requests : goal.returns-clause-requests
returns-clause-requests g c =
    let said = c.in_ok-read_through.ensures.said in
    subst (AllByRecursion IsRequest) (sym said.requests) (log_asks g.F.LogFormat.access_in log_start said.texts)
