use Rattle.trace_text.proofs.Held.{on_ok, requests_kept}
use Rattle.trace_text.proofs.requests.RequestsCollector.collect.Goals as goal

pub returns-clause-kept : goal.returns-clause-kept
returns-clause-kept c =
    on_ok c.keep.result (λ kept start texts number held. requests_kept c.args.self.now.events.items c.keep.new.events.items c.request.result
    c.in_ok-line.line c.args.text.now c.request.ensures c.in_ok-line.ensures.said kept texts held) c.keep.ensures.ok
