use Rattle.atomic_histories.proofs.Returns.{byte_law}
use Rattle.atomic_histories.proofs.memory.AtomicMemory.byte_may_return.Goals as goal

pub returns-clause-ok : goal.returns-clause-ok
returns-clause-ok c = byte_law _ _ _ _ c.kept_byte.ensures.ok
