use Rattle.std.proofs.Common.{ap, ◌∙◌}
use Rattle.std.specs.declared.alloc.Global.{Global}
use Rattle.rtrb.specs.Ring.{sent}
use Rattle.rtrb.specs.declared.producer.Producer.{Producer}
use Rattle.rtrb.specs.declared.AnyItems.{AnyItems}
use Rattle.station_journal.specs.declared.asks.Ask.{Ask}
use Rattle.station_parts.proofs.Making.{one_more_port}
use Rattle.station_parts.proofs.make.add_port.Goals as goal

pub returns-clause-new : goal.returns-clause-new
returns-clause-new c =
    let from = c.in_ok-asks.ensures in
    let to = c.in_ok-to_port.ensures in
    let before = ap (λ (asks : Producer Ask Global AnyItems). sent asks) c.of-begun.ensures ∙ from.producer.0 in
    let made = one_more_port _ _ _ _ c.in_ok-asks.from_port c.in_ok-to_port.to_port c.requires from.pair to.pair
    (record { offered = from.producer.0; before = before; taken = to.consumer.0; tellings = to.consumer.1; places = from.producer.1 })
    (from.consumer.0, from.consumer.1)
    (to.producer.0, to.producer.1) in
    rw (c.in_ok-push.ensures.items, c.in_ok-push-2.ensures.items, c.in_ok-push-3.ensures.items) made
