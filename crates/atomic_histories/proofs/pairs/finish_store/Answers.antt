use Rattle.std.proofs.Common.{[], false}
use Rattle.atomic_histories.proofs.Loops.{finished}
use Rattle.atomic_histories.proofs.pairs.finish_store.Goals as goal

pub returns : goal.returns
returns c = λ d. finished _ _ d (record { number = 0; bytes = []; is_done = false }) c.requires
