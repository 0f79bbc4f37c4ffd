use Rattle.std.proofs.Common.{sym, ap, ◌∙◌, zero-add}
use Rattle.station_checks.specs.Asked.{ask_drawn}
use Rattle.station_checks.proofs.Asking.{asks_more}
use Rattle.station_tour.specs.Asked.{any_word, request_draws}
use Rattle.station_tour.proofs.rates.requests.Goals as goal

pub loop-number-preserved : goal.loop-number-preserved
loop-number-preserved c =
    let before = c.loop-number.invariant in
    let number = c.loop-number.number in
    let asked = c.next_request.ensures.asked ∙ ap (ask_drawn any_word c.loop-number.random) (sym (zero-add number)) in
    let more = asks_more any_word (request_draws c.args.plan.now) c.loop-number.random c.next_request.new.random 0 number
    _ _ _ before.rest asked c.next_request.ensures.rest before.asks c.in_ok-push.ensures.items in
    record { asks = more.0; rest = more.1 }
