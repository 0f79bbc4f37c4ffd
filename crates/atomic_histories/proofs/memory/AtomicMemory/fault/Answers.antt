use Rattle.std.proofs.Common.{◌++◌, ◌∷◌, []}
use Rattle.atomic_histories.specs.Judge.{held, limit_of}
use Rattle.atomic_histories.proofs.Whole.{atomic_after}
use Rattle.atomic_histories.proofs.Verdict.{to_atomic, fault_law, fault_law_but}
use Rattle.atomic_histories.proofs.memory.AtomicMemory.fault.Goals as goal

pub returns-in-Ok-clause-none : goal.returns-in-Ok-clause-none
returns-in-Ok-clause-none c =
    let h = held c.args.self.now in
    let told = c.in-Ok.ensures.told in
    λ history s. to_atomic h.image h.rest h.size (history ++ c.args.event ∷ [])
    (atomic_after h [] history c.args.event s told.0 (limit_of c.args.self.now) told.1.0)

pub returns-in-Ok-clause-none_but : goal.returns-in-Ok-clause-none_but
returns-in-Ok-clause-none_but c =
    let told = c.in-Ok.ensures.told in
    λ lost history s. atomic_after (held c.args.self.now) lost history c.args.event s told.0 (limit_of c.args.self.now) told.1.0

pub returns-in-Err-clause-some : goal.returns-in-Err-clause-some
returns-in-Err-clause-some c =
    fault_law (limit_of c.args.self.now) (held c.args.self.now) c.args.event c.in-Err.fault c.in-Err.ensures.told

pub returns-in-Err-clause-some_but : goal.returns-in-Err-clause-some_but
returns-in-Err-clause-some_but c =
    fault_law_but (limit_of c.args.self.now) (held c.args.self.now) c.args.event c.in-Err.fault c.in-Err.ensures.told
