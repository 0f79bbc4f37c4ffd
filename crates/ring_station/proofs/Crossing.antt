-- The run of a port may go to another thread.
use denote.Struct.Declared.{shape, fields}
use denote.Param.Send.{IsSend, AllSend, recorded_send, struct_send, sendable}
use Rattle.std.proofs.Crossing.{crosses}
use Rattle.station_journal.proofs.asks.Told.TheSendSync as told
use Rattle.station_parts.proofs.Crossing.{port_field_sent}
use Rattle.ring_station.proofs.talk.Talk.TheSendSync as talk
use Rattle.ring_station.proofs.thread_end.ThreadEnd.TheSendSync as end
use Rattle.ring_station.specs.contracts.crew.PortRun.{the_row, the_type}

pub port_run_sent : IsSend the_row
port_run_sent =
    let all : AllSend (fields the_type) =
    (port_field_sent, (talk.the_field_send, (search (sendable, crosses, told.the_send) depth 40, (end.the_field_send, tt)))) in
    recorded_send _ the_type.D the_type.to the_type.to_one (struct_send (shape the_type) all)
