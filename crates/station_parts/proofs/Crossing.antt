-- A port may go to another thread, and so may the end of a ring as it once was, of which it keeps what clauses see.
use denote.Param.Send.{IsSend, sendable}
use Rattle.std.proofs.Crossing.{crosses}
use Rattle.rtrb.proofs.AnyItems.TheSendSync as any
use Rattle.rtrb.proofs.producer.Producer.TheSendSync as producer
use Rattle.rtrb.proofs.consumer.Consumer.TheSendSync as consumer
use Rattle.station_journal.proofs.asks.Ask.TheSendSync as ask
use Rattle.station_journal.proofs.asks.Told.TheSendSync as told
use Rattle.std.proofs.alloc.Global.TheSendSync as global
use Rattle.station_parts.specs.contracts.port.Port.{the_field}

-- the same where it is a field
pub port_field_sent : IsSend the_field.row
port_field_sent =
    search (
      sendable,
      crosses,
      producer.the_field_send,
      consumer.the_field_send,
      ask.the_send,
      told.the_send,
      any.the_send,
      global.the_send,
    ) depth 40
