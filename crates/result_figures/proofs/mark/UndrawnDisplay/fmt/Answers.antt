use Rattle.std.proofs.Common.{rules, append_assoc}
use Rattle.result_figures.specs.Marks.{undrawn_text}
use Rattle.result_figures.proofs.mark.UndrawnDisplay.fmt.Goals as goal

pub returns-clause-writes : goal.returns-clause-writes
unfolding undrawn_text
returns-clause-writes g c plain done = search (rules, append_assoc, c.write.ensures.writes)
