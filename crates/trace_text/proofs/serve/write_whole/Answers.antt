use Rattle.std.proofs.Common.{arith, ◌<◌}
use Rattle.std.proofs.lemmas.Bool.Decides.{nat_tests}
use Rattle.std.proofs.lemmas.Grind.{common_steps}
use Rattle.trace_text.proofs.Serving.{partly_more, partly_all}
use Rattle.trace_text.proofs.serve.write_whole.Goals as goal

pub returns-in_default-clause-ok : goal.returns-in_default-clause-ok
returns-in_default-clause-ok g c =
    let some : 0 < c.in_ok-n.n = grind (arith, nat_tests, c.loop-rest-test.ensures, c.if-n-rest.true) in
    partly_all c.in_ok-n.n c.loop-rest.invariant (c.in_ok-n.ensures.took some) (omega (arith, c.if-n-rest.true))

pub loop-rest-preserved : goal.loop-rest-preserved
loop-rest-preserved g c =
    let some : 0 < c.in_ok-n.n = omega (arith, c.in_default-2) in
    partly_more c.in_ok-n.n _ c.loop-rest.invariant (c.in_ok-n.ensures.took some) (grind (arith, common_steps))
