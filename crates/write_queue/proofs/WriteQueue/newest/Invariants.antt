use Rattle.write_queue.proofs.Newest.{Found}
use Rattle.write_queue.proofs.WriteQueue.newest.Given as goal

abbrev pub invariant-loop-q : goal.invariant-loop-q
invariant-loop-q l = Found l.word l.lanes l.q-iterator l.self.entries l.at
