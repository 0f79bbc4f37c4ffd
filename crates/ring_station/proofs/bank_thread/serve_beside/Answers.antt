use Rattle.ring_station.proofs.Turning.{served_more}
use Rattle.ring_station.proofs.bank_thread.serve_beside.Goals as goal

pub returns-clause-on : goal.returns-clause-on
returns-clause-on g c = λ first h. served_more c.turn_of_banks-made.ensures.on h
