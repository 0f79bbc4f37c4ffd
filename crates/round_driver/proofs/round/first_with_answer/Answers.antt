use Rattle.std.proofs.Common.{arith}
use Rattle.round_driver.proofs.Turns.{answer_here, no_answer_here, no_answer_left}
use Rattle.round_driver.proofs.round.first_with_answer.Goals as goal

pub returns-then-has_answer-clause-bank : goal.returns-then-has_answer-clause-bank
returns-then-has_answer-clause-bank c = grind (arith, answer_here, c.loop-bank.bank)

pub loop-bank-preserved : goal.loop-bank-preserved
loop-bank-preserved c = grind (arith, no_answer_here, c.loop-bank.bank)

pub returns-clause-bank : goal.returns-clause-bank
returns-clause-bank c = grind (arith, no_answer_left, c.loop-bank.bank)
