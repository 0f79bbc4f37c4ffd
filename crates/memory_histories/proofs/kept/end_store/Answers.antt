use Rattle.memory_histories.proofs.Pieces.{filter_others}
use Rattle.memory_histories.proofs.kept.end_store.Goals as goal

pub returns : goal.returns
returns c = cc (filter_others c.args.number c.args.stores.now.items)
