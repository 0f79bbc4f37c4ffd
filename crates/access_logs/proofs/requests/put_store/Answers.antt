use Rattle.std.specs.Prelude.{decimal}
use Rattle.flat_model.specs.Texts.{lanes_text, word_text}
use Rattle.access_logs.proofs.Asked.{store_built}
use Rattle.access_logs.proofs.requests.put_store.Goals as goal

pub returns : goal.returns
returns c =
    store_built c.clear.new.self c.push_bytes.new.self c.push_decimal.new.self c.push.new.self c.push_lanes.new.self c.push-2.new.self
    c.push_word.new.self c.push-3.new.self (decimal c.args.at) (lanes_text c.args.lanes) (word_text c.args.word)
    c.clear.ensures c.push_bytes.ensures.text c.push_decimal.ensures.text c.push.ensures.text c.push_lanes.ensures.text
    c.push-2.ensures.text c.push_word.ensures.text c.push-3.ensures.text
