use Rattle.std.proofs.Common.{ap, ◌∙◌}
use Rattle.rand_pcg.specs.Pcg.{pcg32}
use Rattle.station_checks.specs.Asked.{drawn_on}
use Rattle.station_checks.proofs.Asking.{is_drawn}
use Rattle.station_tour.specs.Asked.{any_word}
use Rattle.station_tour.proofs.rates.next_request.Goals as goal

pub returns-clause-asked : goal.returns-clause-asked
returns-clause-asked c =
    is_drawn any_word c.args.random.now c.next_word-pick.new.self c.next_word.new.self c.args.number _ _ c.bytes_of-word.result
    c.next_word-pick.ensures c.next_word.ensures c.bytes_of-word.ensures _ (rw (c.from.ensures) at c.ask_by.ensures.asked)

pub returns-clause-rest : goal.returns-clause-rest
unfolding drawn_on
returns-clause-rest c = ap (λ p. p.1) c.next_word.ensures ∙ ap (λ g. (pcg32 g).1) (ap (λ p. p.1) c.next_word-pick.ensures)
