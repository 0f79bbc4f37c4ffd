use Rattle.std.proofs.Common.{arith}
use Rattle.round_driver.proofs.Turns.{bank_more, no_bank_left}
use Rattle.round_driver.proofs.round.bank_turns.Goals as goal

pub loop-bank-preserved : goal.loop-bank-preserved
loop-bank-preserved c = grind (
  arith,
  c.loop-bank.machine,
  c.loop-bank.schedule,
  c.loop-bank.notes.items,
  bank_more,
  c.loop-bank.bank,
  c.serve_due.ensures.course,
)

pub returns-clause-course : goal.returns-clause-course
returns-clause-course c = grind (
  arith,
  c.loop-bank.machine,
  c.loop-bank.schedule,
  c.loop-bank.notes.items,
  no_bank_left,
  c.loop-bank.bank,
  c.args.machine.now,
  c.args.schedule.now,
)
