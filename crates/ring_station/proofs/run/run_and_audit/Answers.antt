use Rattle.station_parts.specs.Ids.{port_id, bank_id}
use Rattle.station_parts.proofs.SameParts.{same_still}
use Rattle.ring_station.proofs.Ending.{ports_shown, banks_shown, cache_shown, put_back}
use Rattle.ring_station.proofs.run.run_and_audit.Goals as goal

pub audit-found-requires : goal.audit-found-requires
audit-found-requires g c = rw (c.deref_mut.ensures.value, c.deref_mut-2.ensures.value) c.run_parts.ensures.same.one

pub returns : goal.returns
returns g c =
    let ran = c.in_ok-ends.ensures in
    let found = c.audit-found.ensures in
    let same = rw (c.deref_mut.ensures.value, c.deref_mut-2.ensures.value) at found.same in
    let same_ports = same.ports in
    let same_banks = same.banks in
    let ports = rw c.deref_mut.ensures.value at found.ports in
    let banks = rw c.deref_mut-2.ensures.value at found.banks in
    rw (put_back port_id _ c.audit-found.new.ports, put_back bank_id _ c.audit-found.new.banks)
    (record {
      same = same_still ran.same same;
      unmoved = tt;
      ports = ports_shown same_ports ports ran.ports;
      heard = ran.heard;
      cache = cache_shown same.cache found.cache ran.cache;
      banks = banks_shown same_banks banks ran.banks;
      audited = found.audited;
      clean = found.clean;
    })
