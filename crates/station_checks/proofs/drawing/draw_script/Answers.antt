use Rattle.std.proofs.Common.{◌≡◌, true, arith}
use Rattle.std.proofs.lemmas.List.Elements.{All-push}
use Rattle.station_journal.specs.Conversation.{is_request}
use Rattle.station_checks.specs.Asked.{own_word}
use Rattle.station_checks.proofs.Asking.{asks_more}
use Rattle.station_checks.proofs.drawing.draw_script.Goals as goal

pub loop-place-preserved : goal.loop-place-preserved
loop-place-preserved c =
    let before = c.loop-place.invariant in
    let adds = c.in_ok-push.ensures.items in
    let more = asks_more (own_word c.args.port) _ _ c.own_ask.new.random c.args.begun c.loop-place.place _ _ _ before.rest
    c.own_ask.ensures.asked c.own_ask.ensures.rest before.asks adds in
    record {
      requests = rw adds (All-push (λ ask. is_request ask ≡ true) _ c.own_ask.result before.requests c.own_ask.ensures.request);
      count = grind (arith, c.in_ok-push.ensures.len);
      asks = more.0;
      rest = more.1;
    }
