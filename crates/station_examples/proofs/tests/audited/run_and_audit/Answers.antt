-- The ports that are audited are those that have run.
use Rattle.std.proofs.Common.{◌≡◌, List, sym, subst}
use Rattle.std.specs.Global.{Vec}
use Rattle.station_journal.specs.declared.asks.Ask.{Ask}
use Rattle.station_journal.specs.declared.asks.Told.{Told}
use Rattle.station_parts.specs.declared.port.Port.{Port}
use Rattle.station_parts.specs.Runs.{HaveConversed}
use Rattle.station_examples.proofs.tests.audited.run_and_audit.Goals as goal

conversed_alike : (scripts : List (Vec Ask)) (ran looked : List Port) (lists : List (Vec Told)) → looked ≡ ran
    → HaveConversed scripts ran lists → HaveConversed scripts looked lists
conversed_alike scripts ran looked lists same h = subst (λ x. HaveConversed scripts x lists) (sym same) h

pub returns-clause-answered : goal.returns-clause-answered
returns-clause-answered g c =
    let talked = c.in_ok-lists.ensures.conversed c.in_ok-all.ensures.ok.ports in
    c.audit-found.ensures.answered _ _ (conversed_alike _ _ _ _ c.deref_mut.ensures.value talked)
