use Rattle.std.proofs.Common.{subst, sym, ◌∙◌, arith}
use Rattle.station_parts.specs.declared.parts.Audit.{Audit}
use Rattle.station_parts.specs.Promises.{IsAudited}
use Rattle.station_parts.specs.Runs.{AreAnswered}
use Rattle.station_parts.specs.Words.{journal_of}
use Rattle.station_parts.proofs.Auditing.{ask_number, bank_number, audited_here, clean_here, answered_here, conversed_still}
use Rattle.station_parts.proofs.inspect.audit.Goals as goal

pub found-requires : goal.found-requires
found-requires c =
    let n = c.look_everywhere.new in
    let e = c.look_everywhere.ensures in
    record {
      ports = omega (arith, ask_number n.cache n.ports n.banks e.seen e.same.one);
      banks = omega (arith, bank_number n.cache n.ports n.banks e.seen e.same.one);
    }

pub returns-clause-audited : goal.returns-clause-audited
returns-clause-audited c =
    let n = c.look_everywhere.new in
    let e = c.look_everywhere.ensures in
    subst (λ (found : Audit). IsAudited n.cache n.ports n.banks found) (sym c.found.ensures) (audited_here _ _ _ e.seen e.same.one)

pub returns-clause-clean : goal.returns-clause-clean
returns-clause-clean c clean =
    let e = c.look_everywhere.ensures in
    clean_here _ _ _ e.seen e.same.one (sym c.found.ensures ∙ clean)

pub returns-clause-answered : goal.returns-clause-answered
returns-clause-answered c scripts lists talked =
    let e = c.look_everywhere.ensures in
    subst (λ (found : Audit). AreAnswered found (journal_of c.look_everywhere.new.cache) lists) (sym c.found.ensures)
    (answered_here _ _ _ e.seen e.same.one scripts lists
    (conversed_still scripts _ _ lists e.same.ports e.ports.offered e.ports.taken talked))
