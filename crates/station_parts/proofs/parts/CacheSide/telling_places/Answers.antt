use Rattle.std.proofs.Common.{refl}
use Rattle.station_parts.proofs.Porting.{ports_looked}
use Rattle.station_parts.proofs.parts.CacheSide.telling_places.Goals as goal

pub invariant_of-self-clause-ports : goal.invariant_of-self-clause-ports
invariant_of-self-clause-ports c =
    ports_looked _ _ _ _ _ refl c.look_at.ensures.looks.rings c.args.self.now.ports (λ p. refl) c.look_at.ensures.looks.pushed
