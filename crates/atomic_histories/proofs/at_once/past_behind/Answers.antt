use Rattle.std.proofs.Common.{sym}
use Rattle.atomic_histories.specs.Followed.{loads_without}
use Rattle.atomic_histories.proofs.AtOnce.{behind_none, cut_none}
use Rattle.atomic_histories.proofs.at_once.past_behind.Goals as goal

pub returns-in-None-clause-some : goal.returns-in-None-clause-some
returns-in-None-clause-some c =
    sym (behind_none (loads_without c.args.number c.args.loads.now) c.args.moment c.args.word (sym c.in-None.ensures))

pub returns-in-None-clause-cut : goal.returns-in-None-clause-cut
returns-in-None-clause-cut c = cut_none (loads_without c.args.number c.args.loads.now) c.args.moment c.args.word (sym c.in-None.ensures)
