use Rattle.std.proofs.Common.{◌≡◌, take, map, Ok}
use Rattle.register_sweeps.proofs.threads.all_rows.Given as goal

-- the answers so far are these rows
abbrev pub invariant-loop-answer : goal.invariant-loop-answer
invariant-loop-answer g l = map Ok l.rows.items ≡ take l.answer-index l.answers
