use Rattle.std.proofs.Common.{◌<◌, length, ap, ◌∙◌, arith}
use Rattle.memory_banks.specs.Banks.{bank_at, words_after, pending}
use Rattle.memory_banks.specs.Memory.{Memory}
use Rattle.memory_banks.proofs.Sending.{served-memory, served-words_after, served-pending}
use Rattle.memory_banks.proofs.memory.Banks.serve.Goals as goal

pub invariant_of-self : goal.invariant_of-self
invariant_of-self c =
    let here : c.args.bank < length _ = omega arith in
    served-memory _ _ c.index_mut-bank.result.now _ here c.index_mut-bank.ensures.value c.serve.ensures.bank _ _ c.self.invariant

pub returns-then-bank-len-clause-words_stay : goal.returns-then-bank-len-clause-words_stay
returns-then-bank-len-clause-words_stay c b =
    let here : c.args.bank < length _ = omega arith in
    served-words_after _ _ c.index_mut-bank.result.now _ here c.index_mut-bank.ensures.value c.serve.ensures.bank b
    ∙ ap (λ (m : Memory). words_after (bank_at m.banks b)) c.self.view_is

pub returns-then-bank-len-clause-pending_stay : goal.returns-then-bank-len-clause-pending_stay
returns-then-bank-len-clause-pending_stay c b =
    let here : c.args.bank < length _ = omega arith in
    served-pending _ _ c.index_mut-bank.result.now _ here c.index_mut-bank.ensures.value c.serve.ensures.bank b
    ∙ ap (λ (m : Memory). pending (bank_at m.banks b)) c.self.view_is
