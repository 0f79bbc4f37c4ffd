use Rattle.std.proofs.Common.{◌≡◌, refl, arith, append-nil}
use Rattle.station_parts.specs.declared.parts.Audit.TheVariants.{Clean}
use Rattle.station_parts.specs.Audited.{IsSeen, audit_of}
use Rattle.station_parts.specs.Ids.{cache_id}
use Rattle.station_parts.proofs.Auditing.{clean_here}
use Rattle.station_parts.proofs.Renewing.{told_alike}
use Rattle.station_parts.proofs.SameParts.{same_parts, same_still}
use Rattle.station_parts.proofs.renewal.renew.Goals as goal

pub returns-in-Clean-clause-cache : goal.returns-in-Clean-clause-cache
returns-in-Clean-clause-cache c = grind (arith, append-nil)

pub returns-in-Clean-clause-ports : goal.returns-in-Clean-clause-ports
returns-in-Clean-clause-ports c = grind arith

pub returns-in-Clean-clause-same : goal.returns-in-Clean-clause-same
returns-in-Clean-clause-same c =
    let looked = c.audit.ensures.same in
    let goes_on : cache_id c.hand_out.new.cache ≡ cache_id c.audit.new.cache = grind arith in
    same_still looked (same_parts goes_on c.resume_all.ensures.same refl looked.one)

-- what the audit found of the station is so of the renewed one
pub returns-in-Clean-clause-clean : goal.returns-in-Clean-clause-clean
returns-in-Clean-clause-clean c =
    let seen : IsSeen c.hand_out.new.cache c.resume_all.new.ports c.audit.new.banks = grind arith in
    let clean : audit_of c.hand_out.new.cache c.resume_all.new.ports c.audit.new.banks ≡ Clean = grind (arith, told_alike) in
    clean_here _ _ _ seen (returns-in-Clean-clause-same c).one clean
