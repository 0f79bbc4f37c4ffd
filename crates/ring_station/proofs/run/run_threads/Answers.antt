use Rattle.std.proofs.Common.{arith, sym, ◌∙◌, inr}
use Rattle.ring_station.proofs.CrewRunning.{have_conversed}
use Rattle.ring_station.proofs.Ending.{is_good, over, have_run, have_finished}
use Rattle.ring_station.proofs.Within.{run_keeps}
use Rattle.ring_station.proofs.run.run_threads.Goals as goal

pub returns-clause-lists : goal.returns-clause-lists
returns-clause-lists g c = have_run c.in_ok-run.ensures.ports (is_good c.in_ok-run.run' (sym c.fault.ensures ∙ c.in_default.is)).ports

pub returns-clause-conversed : goal.returns-clause-conversed
returns-clause-conversed g c =
    have_conversed _ _ _ _ (c.requires.scripts ∙ c.args.station.now.ports.ok.0) c.run_and_audit.ensures.same.ports
    (returns-clause-lists g c)

pub returns-clause-rests : goal.returns-clause-rests
returns-clause-rests g c =
    (over (is_good c.in_ok-run.run' (sym c.fault.ensures ∙ c.in_default.is)).cache c.in_ok-run.ensures.cache.ended).1.rests

pub returns-clause-banks : goal.returns-clause-banks
returns-clause-banks g c = have_finished c.in_ok-run.ensures.banks (is_good c.in_ok-run.run' (sym c.fault.ensures ∙ c.in_default.is)).banks

pub returns-clause-no_turn : goal.returns-clause-no_turn
returns-clause-no_turn g c none =
    let cache = over (is_good c.in_ok-run.run' (sym c.fault.ensures ∙ c.in_default.is)).cache c.in_ok-run.ensures.cache.ended in
    absurd (omega (arith, cache.0, none))

pub returns-clause-clean : goal.returns-clause-clean
returns-clause-clean g c = c.in_ok-run.ensures.clean (is_good c.in_ok-run.run' (sym c.fault.ensures ∙ c.in_default.is)).audit

pub returns-clause-within : goal.returns-clause-within
returns-clause-within g c =
    let ran = c.in_ok-run.ensures in run_keeps (c.requires.scripts ∙ c.args.station.now.ports.ok.0) ran.ports ran.cache ran.banks

pub returns-in-Some-clause-within : goal.returns-in-Some-clause-within
returns-in-Some-clause-within g c =
    let ran = c.in_ok-run.ensures in run_keeps (c.requires.scripts ∙ c.args.station.now.ports.ok.0) ran.ports ran.cache ran.banks

pub returns-in-Some-clause-fault : goal.returns-in-Some-clause-fault
returns-in-Some-clause-fault g c =
    let ran = c.in_ok-run.ensures in
    inr (
      c.in_ok-run.run',
      record { ports = ran.ports; cache = ran.cache; banks = ran.banks; audited = ran.audited },
      sym c.fault.ensures ∙ c.in-Some.is,
    )
