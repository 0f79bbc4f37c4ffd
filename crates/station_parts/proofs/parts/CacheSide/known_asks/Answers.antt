use Rattle.std.proofs.Common.{arith, refl}
use Rattle.station_parts.proofs.SideMakes.{popped_none, asks_looked}
use Rattle.station_parts.proofs.Porting.{ports_looked}
use Rattle.station_parts.proofs.parts.CacheSide.known_asks.Goals as goal

pub invariant_of-self-clause-ports : goal.invariant_of-self-clause-ports
invariant_of-self-clause-ports c =
    ports_looked _ _ _ _ _ c.count_at.ensures.looks.rings refl c.args.self.now.ports (popped_none _ _ _ c.count_at.ensures.looks)
    (λ p. refl)

pub returns-clause-looks : goal.returns-clause-looks
returns-clause-looks c = asks_looked c.args.self.now _ _ _ c.count_at.ensures.looks (grind arith)
