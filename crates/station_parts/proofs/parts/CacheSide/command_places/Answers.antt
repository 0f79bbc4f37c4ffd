use Rattle.std.proofs.Common.{◌∙◌}
use Rattle.std.proofs.Math.Logic.{∥∥₁_map}
use Rattle.station_journal.proofs.Sides.{side_looked}
use Rattle.station_parts.proofs.parts.CacheSide.command_places.Goals as goal

pub invariant_of-self-clause-tells : goal.invariant_of-self-clause-tells
invariant_of-self-clause-tells c = ∥∥₁_map c.args.self.now.tells (side_looked _ _ _ _ _ _ c.look.ensures.looks.sent)

pub invariant_of-self-clause-counted : goal.invariant_of-self-clause-counted
invariant_of-self-clause-counted c sound b = c.look.ensures.looks.kept.taken b ∙ c.args.self.now.counted sound b
