use Rattle.history_reasons.proofs.GiverLemmas.{each_source, some_source}
use Rattle.history_reasons.proofs.givers.sources.Goals as goal

pub returns-clause-each : goal.returns-clause-each
returns-clause-each c x =
    rw (c.in_ok-add_givers.ensures, c.in_ok-found.ensures)
    (each_source c.args.image.now c.args.rest c.args.stores.now c.args.load.now c.args.byte x)

pub returns-clause-allowed : goal.returns-clause-allowed
returns-clause-allowed c =
    rw (c.in_ok-add_givers.ensures, c.in_ok-found.ensures)
    (some_source c.args.image.now c.args.rest c.args.stores.now c.args.load.now c.args.byte)
