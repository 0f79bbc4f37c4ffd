use Rattle.memory_banks.proofs.Sending.{one_more_bank}
use Rattle.memory_banks.proofs.memory.opening_banks.Goals as goal

pub loop-bank-preserved : goal.loop-bank-preserved
loop-bank-preserved c = one_more_bank _ _ c.loop-bank.bank _ _ c.in_ok-new.field-0 c.loop-bank.invariant c.in_ok-new.ensures
    c.in_ok-push.ensures.items
