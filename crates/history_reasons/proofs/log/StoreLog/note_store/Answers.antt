use Rattle.std.proofs.Common.{arith, refl}
use Rattle.history_reasons.proofs.StoreLemmas.{requested_count}
use Rattle.history_reasons.proofs.log.StoreLog.note_store.Goals as goal

pub push_store-requires-clause-count : goal.push_store-requires-clause-count
push_store-requires-clause-count c = grind (arith, requested_count)

pub returns : goal.returns
returns c = record {
  image = refl;
  rest = refl;
  moment = refl;
  is_whole = refl;
  stores = (c.kept_store-store.result, (c.kept_store-store.ensures.number, (c.kept_store-store.ensures.bytes, c.push_store.ensures)));
  byte_count = grind arith;
  places = grind arith;
  loads = refl;
}
