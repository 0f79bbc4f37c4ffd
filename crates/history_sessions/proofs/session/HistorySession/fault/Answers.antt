use Rattle.history_sessions.proofs.Plain.{found_is}
use Rattle.history_sessions.proofs.session.HistorySession.fault.Goals as goal

pub returns : goal.returns
returns c s k = found_is c.args.self.now.judge s.history c.args.event c.fault.result (c.fault.ensures s.history k.judge)
