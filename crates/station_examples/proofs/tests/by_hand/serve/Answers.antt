use Rattle.std.proofs.Math.Seq.{map-set_same}
use Rattle.station_parts.specs.Ids.{bank_id}
use Rattle.station_examples.proofs.tests.by_hand.serve.Goals as goal

pub returns : goal.returns
returns c = map-set_same bank_id c.args.banks.now c.args.bank c.step.new.self c.index-banks-bank.result c.step.ensures.same
