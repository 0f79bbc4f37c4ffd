use Rattle.std.proofs.Common.{arith}
use Rattle.station_checks.proofs.Asking.{front, left_behind}
use Rattle.station_checks.proofs.drawing.ScriptParts.next.Goals as goal

pub returns-clause-asks : goal.returns-clause-asks
returns-clause-asks c = grind (arith, front)

pub returns-clause-rest : goal.returns-clause-rest
returns-clause-rest c =
    left_behind c.draw_scripts.result _ _ _ _ _ c.args.most c.min-count.result c.min-count.ensures c.draw_scripts.ensures.rest
