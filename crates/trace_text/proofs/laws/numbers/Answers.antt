use Rattle.trace_text.proofs.Numbers.{number_read, number_written}
use Rattle.trace_text.proofs.laws.numbers.Goals as goal

pub returns-clause-read : goal.returns-clause-read
returns-clause-read c most n text small e = (number_read most n text small e).0

pub returns-clause-bound : goal.returns-clause-bound
returns-clause-bound c most n text small e = (number_read most n text small e).1

pub returns-clause-written : goal.returns-clause-written
returns-clause-written c = number_written
