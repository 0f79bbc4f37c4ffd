use Rattle.std.proofs.Common.{ap₂, ◌∙◌}
use Rattle.station_parts.specs.Audited.{audit_of}
use Rattle.station_parts.specs.Ids.{bank_id, port_id}
use Rattle.station_parts.specs.Words.{offered, taken}
use Rattle.station_examples.proofs.Following.{followed_still, same_of_one, still_one}
use Rattle.station_examples.proofs.chain.follow_chain.Goals as goal

pub returns-clause-followed : goal.returns-clause-followed
returns-clause-followed g c first h =
    let left = c.audit.ensures.ports in
    followed_still first _ _ _ _ _ (c.run_threads.ensures.followed first h)
    (same_of_one offered _ _ _ _ left.offered c.from_mut.ensures.value) (same_of_one taken _ _ _ _ left.taken c.from_mut.ensures.value)

pub returns-clause-exact : goal.returns-clause-exact
returns-clause-exact g c =
    c.audit.ensures.audited.exact
    ∙ ap₂ (λ ports banks. audit_of c.audit.new.cache ports banks)
    (still_one port_id _ _ _ _ c.audit.ensures.same.ports c.from_mut.ensures.value)
    (still_one bank_id _ _ _ _ c.audit.ensures.same.banks c.from_mut-2.ensures.value)
