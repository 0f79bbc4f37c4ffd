use Rattle.std.proofs.Common.{arith, rules, ◌≡◌, List, map, length, refl, ap, ◌∙◌}
use Rattle.std.specs.Global.{Vec}
use Rattle.std.proofs.lemmas.List.{length-map}
use Rattle.station_parts.specs.declared.port.Port.{Port}
use Rattle.station_parts.specs.declared.bank.BankSide.{BankSide}
use Rattle.station_parts.specs.declared.parts.CacheSide.{CacheSide}
use Rattle.station_parts.specs.Station.{AreUnmoved}
use Rattle.station_parts.proofs.SameParts.{same_parts, still_same}
use Rattle.ring_station.specs.declared.crew.PortRun.{PortRun}
use Rattle.ring_station.specs.declared.crew.BankRun.{BankRun}
use Rattle.ring_station.proofs.CrewRunning.{map_same, ports_back, banks_back, port_ids, bank_ids, enlisted_count, lists_heard}
use Rattle.ring_station.proofs.run.run_parts.Goals as goal

pub run_crew-end-requires-clause-scripts : goal.run_crew-end-requires-clause-scripts
run_crew-end-requires-clause-scripts g c =
    let ports = c.args.ports.now in
    let port_count =
    enlisted_count (λ (r : PortRun). r.port) c.enlist_ports.new.runs ports
    (c.enlist_ports.ensures.ports ∙ ap (λ (v : Vec Port). v.items) c.replace.ensures.value) in
    omega (arith, c.requires.scripts, port_count)

pub run_crew-end-requires-clause-few_ports : goal.run_crew-end-requires-clause-few_ports
run_crew-end-requires-clause-few_ports g c =
    let ports = c.args.ports.now in
    let port_count =
    enlisted_count (λ (r : PortRun). r.port) c.enlist_ports.new.runs ports
    (c.enlist_ports.ensures.ports ∙ ap (λ (v : Vec Port). v.items) c.replace.ensures.value) in
    omega (arith, port_count, ports.ok.0, simp length-map at (ap length c.requires.one.asks), c.args.cache.now.few_ports)

pub run_crew-end-requires-clause-few_banks : goal.run_crew-end-requires-clause-few_banks
run_crew-end-requires-clause-few_banks g c =
    let cache = c.args.cache.now in
    let banks = c.args.banks.now in
    let bank_count =
    enlisted_count (λ (r : BankRun). r.bank) c.enlist_banks.new.runs banks
    (c.enlist_banks.ensures.banks ∙ ap (λ (v : Vec BankSide). v.items) c.replace-2.ensures.value) in
    omega
    (arith, bank_count, banks.ok.0, simp length-map at (ap length c.requires.one.commands), cache.lines, cache.in_range.few_banks)

-- what came back, and how
pub returns : goal.returns
returns g c =
    let all_ports = c.args.ports.now in
    let went : map (λ (r : PortRun). r.port) c.enlist_ports.new.runs.items ≡ all_ports.items =
    cc in
    let ran = c.in_ok-cache.ensures in
    let back = c.dismiss_ports.ensures in
    let ports = ports_back _ c.args.turns _ c.run_crew-end.new.ports.items _ _ _ _ went
    ran.ports back.ports back.lists back.ends in
    let banks = banks_back _ _ c.run_crew-end.new.banks.items _ _ _
    (c.enlist_banks.ensures.banks ∙ ap (λ (v : Vec BankSide). v.items) c.replace-2.ensures.value)
    ran.banks c.dismiss_banks.ensures.banks c.dismiss_banks.ensures.ends in
    record {
      same = same_parts ran.cache.same (port_ids (c.requires.scripts ∙ all_ports.ok.0) ports) (bank_ids banks) c.requires.one;
      unmoved = tt;
      ports = ports;
      heard = lists_heard (g.G.Gate.has_heard _) c.run_crew-end.new.ports.items _ back.lists ran.heard;
      cache = rw (← all_ports.ok.0, ← enlisted_count (λ (r : PortRun). r.port) c.enlist_ports.new.runs all_ports went) ran.cache;
      banks = banks;
    }

unmoved : (c : CacheSide) (ps : List Port) (bs : List BankSide) → AreUnmoved c c ps ps bs bs
unmoved c ps bs = record { cache = refl; ports = refl; banks = refl }

-- want of memory leaves all as it was
pub returns-in_err-cache : goal.returns-in_err-cache
returns-in_err-cache g c =
    let err = c.in_err-cache.ensures in
    let same = err.unmoved_ports in
    let ports =
    c.dismiss_ports.ensures.ports ∙ map_same (λ (r : PortRun). r.port) _ _ same.number (λ p d less. (same.each p d less).port)
    ∙ c.enlist_ports.ensures.ports ∙ ap (λ (v : Vec Port). v.items) c.replace.ensures.value in
    let banks =
    c.dismiss_banks.ensures.banks ∙ ap (λ (v : Vec BankRun). map (λ r. r.bank) v.items) err.unmoved_banks
    ∙ c.enlist_banks.ensures.banks ∙ ap (λ (v : Vec BankSide). v.items) c.replace-2.ensures.value in
    let old = c.args in
    let same = still_same {cache = old.cache.now} {ports = old.ports.now.items} {banks = old.banks.now.items} c.requires.one in
    rw (ports, banks, err.unmoved_cache) (search (rules, same, unmoved old.cache.now old.ports.now.items old.banks.now.items))
