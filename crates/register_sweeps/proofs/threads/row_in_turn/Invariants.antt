use Rattle.std.proofs.Common.{◌≡◌, true}
use Rattle.register_sweeps.proofs.threads.row_in_turn.Given as goal

-- an open gate lets its row begin in the first turn
abbrev pub invariant-loop-turn : goal.invariant-loop-turn
invariant-loop-turn g l = g.G.SweepGate.is_open l.gate ≡ true → l._turn ≡ 0
