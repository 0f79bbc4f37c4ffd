use Rattle.std.proofs.Common.{Some, sym, ◌∙◌, ap, append-nil}
use Rattle.memory_banks.proofs.Sending.{first_served}
use Rattle.memory_banks.proofs.bank.MemoryBank.serve.Goals as goal

pub returns-in-Some-Write-clause-bank : goal.returns-in-Some-Write-clause-bank
returns-in-Some-Write-clause-bank c =
    let w = c.in-Some-Write in
    let front = ap Some (sym w.field-0-is) ∙ w.ensures.value in
    ap (λ q. record { words = c.store.new.words.items; queue = q; answers = c.self.inside.answers.items })
    (ap (λ q. q.items) c.pop_front.ensures.items) ∙ first_served _ _ _ _ _ _ _ c.self.view_is front c.store.ensures (sym (append-nil _))
