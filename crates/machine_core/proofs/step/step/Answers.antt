use Rattle.cache_law.proofs.Silent.{evict_silent, process_silent, take_silent}
use Rattle.machine_core.proofs.Whole.{joins_silent}
use Rattle.machine_core.proofs.step.step.Goals as goal

pub returns-in-Evict : goal.returns-in-Evict
returns-in-Evict c = rw c.in-Evict.is (joins_silent _ _ _ _ _ (evict_silent _ _ _) c.evict.ensures)

pub returns-in-Process : goal.returns-in-Process
returns-in-Process c = rw c.in-Process.is (joins_silent _ _ _ _ _ (process_silent _ _) c.process.ensures)

pub returns-in-Take : goal.returns-in-Take
returns-in-Take c = rw c.in-Take.is (joins_silent _ _ _ _ _ (take_silent _ _) c.take.ensures)
