use Rattle.std.proofs.Common.{◌∙◌, arith}
use Rattle.history_sessions.proofs.session.HistorySession.pass.Goals as goal

pub returns-clause-kept : goal.returns-clause-kept
returns-clause-kept c s k = record {
  law = k.law;
  judge = k.judge;
  loads = c.pass.ensures.open.loads ∙ k.loads;
  stores = c.pass.ensures.open.stores ∙ k.stores;
  undecided = k.undecided;
  log = λ few. c.pass.ensures.counted s.seen (omega (arith, few)) (k.log (omega (arith, few)));
}
