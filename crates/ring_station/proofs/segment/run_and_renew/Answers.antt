use Rattle.std.proofs.Common.{sym, ◌∙◌, inr}
use Rattle.std.proofs.lemmas.Result.{err_from_is_err_and}
use Rattle.ring_station.proofs.Ending.{is_good, have_run, have_run_on, comes_to_renewal}
use Rattle.ring_station.proofs.Within.{run_keeps, renewal_keeps}
use Rattle.ring_station.proofs.segment.run_and_renew.Goals as goal

pub returns-clause-lists : goal.returns-clause-lists
returns-clause-lists g c =
    let ran = c.in_ok-run.ensures.ports in
    have_run_on ran.number (have_run ran (is_good c.in_ok-run.run' (sym c.fault.ensures ∙ c.in_default.is)).ports)
    c.in_ok-journal.ensures.ports

pub returns-in-Some-clause-within : goal.returns-in-Some-clause-within
returns-in-Some-clause-within g c =
    let ran = c.in_ok-run.ensures in run_keeps (c.requires.scripts ∙ c.args.station.now.ports.ok.0) ran.ports ran.cache ran.banks

pub returns-in_err-journal-clause-within : goal.returns-in_err-journal-clause-within
returns-in_err-journal-clause-within g c =
    let ran = c.in_ok-run.ensures in
    let renewed = c.renew_station.ensures in
    renewal_keeps _ renewed.cache renewed.ports renewed.refused renewed.banks
    (run_keeps {new = c.run_and_audit.new.station} (c.requires.scripts ∙ c.args.station.now.ports.ok.0) ran.ports ran.cache ran.banks)

pub returns-clause-within : goal.returns-clause-within
returns-clause-within g c =
    let ran = c.in_ok-run.ensures in
    let renewed = c.renew_station.ensures in
    renewal_keeps _ renewed.cache renewed.ports renewed.refused renewed.banks
    (run_keeps {new = c.run_and_audit.new.station} (c.requires.scripts ∙ c.args.station.now.ports.ok.0) ran.ports ran.cache ran.banks)

pub returns-in_err-journal-clause-ran : goal.returns-in_err-journal-clause-ran
returns-in_err-journal-clause-ran g c =
    let told = c.from_residual-in_err-journal in
    let fault = err_from_is_err_and told.result told.ensures.1 in
    rw (fault.1, fault.2)
    (comes_to_renewal _ _ _ _ _ (have_run c.in_ok-run.ensures.ports
    (is_good c.in_ok-run.run' (sym c.fault.ensures ∙ c.in_default.is)).ports)
    c.in_err-journal.ensures.refused)

pub returns-in-Some-clause-run : goal.returns-in-Some-clause-run
returns-in-Some-clause-run g c =
    let ran = c.in_ok-run.ensures in
    inr (
      c.in_ok-run.run',
      record { ports = ran.ports; cache = ran.cache; banks = ran.banks; audited = ran.audited },
      sym c.fault.ensures ∙ c.in-Some.is,
    )
