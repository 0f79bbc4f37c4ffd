use Rattle.std.proofs.Common.{◌<◌, set, sym, subst}
use Rattle.memory_banks.specs.Banks.{room_in}
use Rattle.memory_banks.specs.Memory.{Memory, SameButQueues}
use Rattle.memory_banks.proofs.Sending.{sent-memory, sent-same, sent-queue, sent-room}
use Rattle.memory_banks.proofs.memory.BanksLines.send.Goals as goal

pub invariant_of-self : goal.invariant_of-self
invariant_of-self c =
    let room = subst (λ (m : Memory). 0 < room_in m.limit m.banks c.args.bank) (sym c.self.view_is) c.requires in
    sent-memory _ _ _ _ c.index_mut-bank.result.now _ room (λ h. c.index_mut-bank.ensures.value) c.send.ensures _ c.self.invariant

pub returns-clause-same : goal.returns-clause-same
returns-clause-same c =
    let room = subst (λ (m : Memory). 0 < room_in m.limit m.banks c.args.bank) (sym c.self.view_is) c.requires in
    let same = sent-same _ _ _ _ c.index_mut-bank.result.now _ room (λ h. c.index_mut-bank.ensures.value) c.send.ensures _ in
    let sent : Memory = record { words = c.self.inside.words; limit = c.self.inside.limit; banks = set _ _ _ } in
    subst (λ (m : Memory). SameButQueues m sent) c.self.view_is same

pub returns-clause-sent : goal.returns-clause-sent
returns-clause-sent c =
    let room = subst (λ (m : Memory). 0 < room_in m.limit m.banks c.args.bank) (sym c.self.view_is) c.requires in
    cc (sent-queue _ _ _ _ c.index_mut-bank.result.now _ room (λ h. c.index_mut-bank.ensures.value) c.send.ensures, c.self.view_is)

pub returns-clause-room : goal.returns-clause-room
returns-clause-room c =
    let room = subst (λ (m : Memory). 0 < room_in m.limit m.banks c.args.bank) (sym c.self.view_is) c.requires in
    cc (sent-room _ _ _ _ c.index_mut-bank.result.now _ room (λ h. c.index_mut-bank.ensures.value) c.send.ensures, c.self.view_is)
