use Rattle.std.proofs.Common.{arith}
use Rattle.station_checks.specs.Asked.{drawn_on, own_word}
use Rattle.station_checks.proofs.Asking.{is_drawn}
use Rattle.station_checks.proofs.plan.own_ask.Goals as goal

pub returns-clause-asked : goal.returns-clause-asked
returns-clause-asked c =
    is_drawn (own_word c.args.port) c.args.random.now c.next_word-pick.new.self c.next_word.new.self c.args.number _ _
    c.bytes_of-word.result
    c.next_word-pick.ensures c.next_word.ensures c.bytes_of-word.ensures _ (rw (c.from.ensures) at c.ask_by.ensures.asked)

pub returns-clause-rest : goal.returns-clause-rest
unfolding drawn_on
returns-clause-rest c = grind arith
