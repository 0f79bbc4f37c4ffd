use Rattle.std.proofs.Common.{arith}
use Rattle.history_reasons.proofs.Logs.{noted, event_noted, passed_over}
use Rattle.history_reasons.proofs.OpenLemmas.{noted_open, still_open}
use Rattle.history_reasons.proofs.log.StoreLog.note.Goals as goal

pub returns-clause-within : goal.returns-clause-within
returns-clause-within c w few inside k =
    let its = c.note_bytes.ensures.within inside in
    noted c.note_bytes.new.self _ c.count.new.self w _ (omega arith) (event_noted c.args.self.now _ w c.args.event inside k its)
    c.forget.ensures c.count.ensures

pub returns-clause-beyond : goal.returns-clause-beyond
returns-clause-beyond c w few outside k =
    noted c.args.self.now _ c.count.new.self w _ (omega arith) (passed_over c.args.self.now w k)
    (rw (c.note_bytes.ensures.beyond outside) at c.forget.ensures) c.count.ensures

pub returns-clause-open : goal.returns-clause-open
returns-clause-open c inside = noted_open _ _ _ _ c.args.event (c.note_bytes.ensures.within inside) c.forget.ensures c.count.ensures

pub returns-clause-still_open : goal.returns-clause-still_open
returns-clause-still_open c outside = still_open _ _ _ _ (c.note_bytes.ensures.beyond outside) c.forget.ensures c.count.ensures
