use Rattle.std.proofs.Common.{refl}
use Rattle.history_sessions.proofs.session.HistorySession.new.Goals as goal

pub returns-clause-kept : goal.returns-clause-kept
returns-clause-kept c =
    let none = c.in_ok-log.ensures.none_open refl in
    record {
      law = refl;
      judge = c.in_ok-judge.ensures;
      loads = none.loads;
      stores = none.stores;
      undecided = refl;
      log = λ few. c.in_ok-log.ensures;
    }
