use Rattle.std.proofs.Common.{arith}
use Rattle.std.proofs.lemmas.Bool.Decides.{Decides-eqb}
use Rattle.std.proofs.lemmas.Slice.Eq.{strip_prefix_is}
use Rattle.trace_text.proofs.lines.behind.Goals as goal

pub returns-clause-some : goal.returns-clause-some
returns-clause-some c =
    grind (arith, strip_prefix_is Decides-eqb c.args.text.now c.args.name.now c.strip_prefix.result c.strip_prefix.ensures.cases)

pub returns-clause-none : goal.returns-clause-none
returns-clause-none c =
    grind (arith, strip_prefix_is Decides-eqb c.args.text.now c.args.name.now c.strip_prefix.result c.strip_prefix.ensures.cases)
