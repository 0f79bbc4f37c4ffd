use Rattle.register_sweeps.proofs.Begun.{each_begun}
use Rattle.register_sweeps.proofs.threads.all_answers.Goals as goal

pub returns-clause-begins : goal.returns-clause-begins
returns-clause-begins g c =
    each_begun _ c.args.turns (g.G.SweepGate.is_open c.args.gate.now) _ _ c.map_indices.result c.map_indices.ensures.each
    (λ v i d says. says.met.1)
