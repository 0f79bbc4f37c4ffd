-- To what turns keep a station: one that stood still, a run of its threads, a renewal, and one of these behind another.
use Rattle.std.proofs.Common.{◌≡◌, ℕ, ◌+◌, ◌<◌, ◌≤◌, List, [], ◌++◌, length, map, refl, sym, ap, ◌∙◌, arith, append_assoc}
use Rattle.std.proofs.Common.{length-append}
use Rattle.std.specs.Prelude.{Result, Ok, Err, IfOk, OnOk, IfErr}
use Rattle.std.specs.Global.{Vec}
use Rattle.std.proofs.lemmas.List.{append-nil}
use Rattle.station_journal.specs.declared.asks.Ask.{Ask}
use Rattle.station_journal.specs.declared.asks.Told.{Told}
use Rattle.station_journal.specs.declared.journal.Entry.{Entry}
use Rattle.station_parts.specs.declared.port.Port.{Port}
use Rattle.station_parts.specs.declared.parts.Station.{Station}
use Rattle.station_parts.specs.declared.renewal.RenewFault.{RenewFault}
use Rattle.station_parts.specs.declared.renewal.RenewFault.TheVariants.{WornOut, OutOfMemory, NotClean}
use Rattle.station_parts.specs.Audited.{LeavesBanks}
use Rattle.station_parts.specs.Renewed.{RenewsCache, ResumesPorts, IsRefused}
use Rattle.station_parts.specs.Words.{offered, taken, received_by, earlier_of, held_of, journal_of}
use Rattle.ring_station.specs.declared.thread_end.ThreadEnd.{ThreadEnd}
use Rattle.ring_station.specs.Ends.{not_begun}
use Rattle.ring_station.specs.PortRuns.{PortsRan}
use Rattle.ring_station.specs.PartRuns.{CacheRan, BanksRan}
use Rattle.ring_station.specs.Within.{KeepsTo}
use Rattle.ring_station.proofs.CrewRunning.{item_of}
use Rattle.ring_station.proofs.Ending.{shown_alike, long_alike}

pub keeps_self : (turns : ℕ) (station : Station) → KeepsTo turns station station
keeps_self turns station = record {
  ports = refl;
  banks = refl;
  moved = λ p d less. omega arith;
  took = λ p d less. ([], sym (append-nil _));
  noted = omega arith;
  served = λ b d less. omega arith;
}

pub run_keeps : {scripts : List (Vec Ask)} {count turns : ℕ} {old new : Station} {lists : List (Vec Told)}
    {port_ends : List ThreadEnd} {end : ThreadEnd} {bank_ends : List ThreadEnd} → length scripts ≡ length old.ports.items
    → PortsRan scripts turns old.ports.items new.ports.items lists port_ends → CacheRan count turns old.cache new.cache end
    → BanksRan turns old.banks.items new.banks.items bank_ends → KeepsTo turns old new
run_keeps {scripts} {count} {turns} {old} {new} {lists} scripted ports cache banks =
    let at = λ (p : ℕ) (d : Port) (less : p < length old.ports.items).
    ports.each p (item_of scripts scripted less) d (item_of lists ports.listed less) not_begun less in
    record {
      ports = ports.number;
      banks = banks.number;
      moved = λ p d less. omega (arith, (at p d less).moved, (at p d less).ended.within);
      took = λ p d less. (_, (at p d less).took);
      noted = omega (
        arith,
        ap length cache.earlier,
        cache.noted,
        cache.ended.within,
        length-append (earlier_of old.cache) (held_of old.cache),
        length-append (earlier_of new.cache) (held_of new.cache),
      );
      served = λ b d less. let one = banks.each b d not_begun less in omega (arith, one.served, one.ended.within);
    }

-- so many turns, and behind them so many more
pub keeps_on : {m n most : ℕ} {first old new : Station} → m + n ≤ most → KeepsTo m first old → KeepsTo n old new
    → KeepsTo most first new
keeps_on sum before more = record {
  ports = more.ports ∙ before.ports;
  banks = more.banks ∙ before.banks;
  moved = λ p d less. omega (arith, before.moved p d less, more.moved p d (rw before.ports less));
  took = λ p d less.
      let a = before.took p d less in
      let b = more.took p d (rw before.ports less) in
      (a.0 ++ b.0, rw (b.1, a.1, append_assoc));
  noted = omega (arith, before.noted, more.noted);
  served = λ b d less. omega (arith, before.served b d less, more.served b d (rw before.banks less));
}

-- a station that shows the same lists
shown_keeps : {turns : ℕ} {first old new : Station} → KeepsTo turns first old
    → map offered new.ports.items ≡ map offered old.ports.items → map taken new.ports.items ≡ map taken old.ports.items
    → journal_of new.cache ≡ journal_of old.cache → map received_by new.banks.items ≡ map received_by old.banks.items
    → KeepsTo turns first new
shown_keeps {old = old} {new = new} before same_offered same_taken journal received =
    let took = shown_alike taken new.ports.items old.ports.items same_taken in
    record {
      ports = long_alike offered new.ports.items old.ports.items same_offered ∙ before.ports;
      banks = long_alike received_by new.banks.items old.banks.items received ∙ before.banks;
      moved = λ p d less.
          let offer = shown_alike offered new.ports.items old.ports.items same_offered p d in
          omega (arith, before.moved p d less, ap length offer, ap length (took p d));
      took = λ p d less. let list = before.took p d less in (list.0, took p d ∙ list.1);
      noted = omega (arith, before.noted, ap length journal);
      served = λ b d less.
          omega (arith, before.served b d less, ap length (shown_alike received_by new.banks.items old.banks.items received b d));
    }

-- what kept to its turns before a renewal does so behind it, however that ended
pub renewal_keeps : {turns : ℕ} {first old new : Station} (result : Result (Vec Entry) RenewFault)
    → IfOk result (λ segment. RenewsCache old.cache new.cache segment.items)
    → OnOk result (ResumesPorts old.ports.items new.ports.items)
    → IfErr result (λ fault. IsRefused fault old.cache new.cache old.ports.items new.ports.items old.banks.items new.banks.items)
    → LeavesBanks old.banks.items new.banks.items → KeepsTo turns first old → KeepsTo turns first new
renewal_keeps (Ok segment) renewed resumed refused banks before =
    shown_keeps before resumed.offered resumed.taken renewed.journal banks.received
renewal_keeps (Err (NotClean found)) renewed resumed refused banks before =
    shown_keeps before refused.4.offered refused.4.taken refused.3.journal banks.received
renewal_keeps (Err WornOut) renewed resumed refused banks before = shown_keeps before (cc) (cc) (cc) banks.received
renewal_keeps (Err OutOfMemory) renewed resumed refused banks before = shown_keeps before (cc) (cc) (cc) banks.received
