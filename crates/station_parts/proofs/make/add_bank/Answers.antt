use Rattle.std.proofs.Common.{rules, ◌≡◌, ◌+◌, ◌-◌, ◌/◌, length, arith, replicate}
use Rattle.rtrb.specs.Ring.{IsPair}
use Rattle.flat_model.specs.Words.{zero_word}
use Rattle.station_parts.proofs.Making.{one_more_bank, zero_words}
use Rattle.station_parts.proofs.make.add_bank.Goals as goal

pub returns-clause-new : goal.returns-clause-new
returns-clause-new c =
    let s = c.args.sizes.now in
    let to = c.in_ok-to_bank.ensures in
    let from = c.in_ok-answers.ensures in
    let count = (s.words + (s.banks - 1 - c.args.bank)) / s.banks in
    let zeros : c.in_ok-words.words.items ≡ replicate count zero_word = search rules in
    let number : length c.in_ok-words.words.items ≡ (s.words + s.banks - 1 - length _) / s.banks =
    grind arith in
    let pair : IsPair c.new-3.result.ring c.in_ok-to_bank.commands = grind arith in
    let made = one_more_bank s _ _ _ _ c.new-3.result c.in_ok-answers.from_bank c.requires.new pair from.pair
    (record {
      received = to.consumer.0;
      sent = from.producer.0;
      words = zero_words c.in_ok-words.words.items count zeros;
      commands = to.consumer.1;
      places = from.producer.1;
    })
    (record { ring = rw c.new-3.ensures.ring (to.producer.0, to.producer.1); taken = c.new-3.ensures.taken })
    (from.consumer.0, from.consumer.1)
    number in
    rw (c.in_ok-push.ensures.items, c.in_ok-push-2.ensures.items, c.in_ok-push-3.ensures.items) made
