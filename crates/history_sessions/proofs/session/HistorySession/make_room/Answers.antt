use Rattle.std.proofs.Common.{◌∙◌}
use Rattle.history_sessions.proofs.session.HistorySession.make_room.Goals as goal

pub returns-clause-same : goal.returns-clause-same
returns-clause-same c s k = record {
  law = k.law;
  judge = k.judge;
  loads = c.make_room.ensures.open.loads ∙ k.loads;
  stores = c.make_room.ensures.open.stores ∙ k.stores;
  undecided = k.undecided;
  log = λ few. c.make_room.ensures.same s.seen (k.log few);
}
