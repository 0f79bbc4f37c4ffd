use Rattle.std.proofs.Common.{◌≡◌, ◌-◌}
use Rattle.round_driver.specs.Rounds.{first_with_answer}
use Rattle.round_driver.proofs.round.first_with_answer.Given as goal

-- the banks that are left have the first answer
abbrev pub invariant-loop-bank : goal.invariant-loop-bank
invariant-loop-bank l =
    first_with_answer l.machine (l.to - l.fn.from) l.fn.from ≡ first_with_answer l.machine (l.to - l.bank) l.bank
