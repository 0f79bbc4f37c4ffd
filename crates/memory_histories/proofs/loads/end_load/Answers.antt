use Rattle.memory_histories.proofs.Opened.{filter_ended}
use Rattle.memory_histories.proofs.loads.end_load.Goals as goal

pub returns-in-Some : goal.returns-in-Some
returns-in-Some c = let h = (rw c.in-Some.is at c.requires) in
    cc (filter_ended c.args.number c.args.loads.now.items, c.remove-ended.ensures.by_index.2)

pub returns-in-None : goal.returns-in-None
returns-in-None c = cc (filter_ended c.args.number c.args.loads.now.items)
