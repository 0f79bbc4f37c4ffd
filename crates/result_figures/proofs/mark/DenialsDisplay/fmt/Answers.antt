use Rattle.std.proofs.Common.{rules, append_assoc}
use Rattle.result_figures.specs.Marks.{denials_text}
use Rattle.result_figures.proofs.mark.DenialsDisplay.fmt.Goals as goal

pub returns-clause-writes : goal.returns-clause-writes
unfolding denials_text
returns-clause-writes g c plain done = search (rules, append_assoc, c.write.ensures.writes)
