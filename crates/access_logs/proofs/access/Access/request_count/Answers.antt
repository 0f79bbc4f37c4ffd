use Rattle.std.proofs.Common.{◌∙◌, sym, ap}
use Rattle.access_logs.specs.Requests.{count_by}
use Rattle.access_logs.proofs.Kept.{requests_counted}
use Rattle.access_logs.proofs.access.Access.request_count.Goals as goal

pub returns-clause-requests : goal.returns-clause-requests
returns-clause-requests c pages tag number =
    requests_counted c.args.self pages tag number
    ∙ ap (count_by c.args.self.kind) (sym c.word_count.ensures.count)
    ∙ sym c.request_count.ensures.count
