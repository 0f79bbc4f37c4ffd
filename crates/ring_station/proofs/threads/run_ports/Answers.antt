use Rattle.std.proofs.Common.{zero-add, rules}
use denote.Param.Send.{sendable}
use Rattle.std.proofs.Crossing.{crosses}
use Rattle.ring_station.proofs.Crossing.{port_run_sent}
use Rattle.ring_station.proofs.threads.run_ports.Goals as goal

pub returns-clause-ran : goal.returns-clause-ran
returns-clause-ran g c = record {
  number = search rules;
  each = λ p s d less.
      let at = (c.for_each_share.ensures.each p d less).1 in
      let ran = rw at.start_plus_offset at (at.call.0.each at.offset s d at.offset_in_chunk) in
      rw (← at.old_element, ← at.new_element) ran;
}

pub returns-clause-heard : goal.returns-clause-heard
returns-clause-heard g c = λ p d less.
    let at = (c.for_each_share.ensures.each p d (search rules)).1 in
    let heard = rw at.start_plus_offset at (at.call.1.1 at.offset d (rw at.call.0.number at.offset_in_chunk)) in
    rw (zero-add, ← at.new_element) heard

pub returns-clause-threads : goal.returns-clause-threads
returns-clause-threads g c = λ n less.
    let at = c.for_each_share.ensures.shares n less in
    rw (← at.argument_is, ← at.left) at.call.1.0

pub for_each_share-requires-send-T : goal.for_each_share-requires-send-T
for_each_share-requires-send-T g c κs within = search (sendable, crosses, port_run_sent) depth 40
