use Rattle.ring_station.proofs.Turning.{served_at_first}
use Rattle.ring_station.proofs.bank_thread.run_bank_thread.Goals as goal

pub returns-clause-served : goal.returns-clause-served
returns-clause-served g c = c.serve_on.ensures.on _ (served_at_first _ c.requires.begun)
