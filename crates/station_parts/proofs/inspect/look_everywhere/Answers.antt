use Rattle.std.proofs.Common.{[], slice_index_or, ap, arith}
use Rattle.station_parts.proofs.Porting.{ports_looked}
use Rattle.station_parts.proofs.SameParts.{same_parts}
use Rattle.station_parts.proofs.inspect.look_everywhere.Goals as goal

pub invariant_of-cache-clause-tells : goal.invariant_of-cache-clause-tells
invariant_of-cache-clause-tells c = rw (c.look_commands.ensures.sent, c.look_answers.ensures.received) c.args.cache.now.tells

pub invariant_of-cache-clause-counted : goal.invariant_of-cache-clause-counted
invariant_of-cache-clause-counted c = rw (c.look_commands.ensures.taken, c.look_answers.ensures.received) c.args.cache.now.counted

pub invariant_of-cache-clause-ports : goal.invariant_of-cache-clause-ports
invariant_of-cache-clause-ports c =
    ports_looked _ _ _ _ _ c.look_asks.ensures.rings c.look_tellings.ensures.rings c.args.cache.now.ports
    (λ p. ap (λ l. slice_index_or l p []) c.look_asks.ensures.received) (λ p. ap (λ l. slice_index_or l p []) c.look_tellings.ensures.sent)

pub returns-clause-same : goal.returns-clause-same
returns-clause-same c = same_parts (grind arith) (grind arith) (grind arith) c.requires
