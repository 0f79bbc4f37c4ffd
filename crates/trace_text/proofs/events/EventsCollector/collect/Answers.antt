use Rattle.std.proofs.Common.{arith}
use Rattle.trace_text.proofs.Held.{on_ok}
use Rattle.trace_text.proofs.Gathering.{events_few, gathered_more}
use Rattle.trace_text.proofs.events.EventsCollector.collect.Goals as goal

pub gather-requires : goal.gather-requires
gather-requires c =
    let went = c.requires.went in
    omega (arith, went.2.number, events_few went.1, went.3, c.requires.few)

pub returns-clause-kept : goal.returns-clause-kept
returns-clause-kept c =
    on_ok c.gather.result (λ one start texts number held.
    gathered_more _ _ _ _ _ texts _ c.event_told.ensures c.in_ok-line.ensures.said one held) c.gather.ensures.ok
