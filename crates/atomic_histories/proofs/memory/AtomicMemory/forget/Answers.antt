use Rattle.std.proofs.Common.{◌/◌, OnOk, subst}
use Rattle.atomic_histories.specs.Judge.{held, IsForgotten}
use Rattle.atomic_histories.proofs.Whole.{forgotten_law}
use Rattle.atomic_histories.proofs.Verdict.{same_kept}
use Rattle.atomic_histories.proofs.memory.AtomicMemory.forget.Goals as goal

pub returns-clause-ok : goal.returns-clause-ok
returns-clause-ok c =
    let h = held c.args.self.now in
    let next = held c.kept_forget.new.self in
    forgotten_law _ h next _
    (subst (λ n. OnOk c.kept_forget.result (IsForgotten h (c.args.address / n) next)) c.bytes.ensures.bytes c.kept_forget.ensures.ok)

pub returns-clause-memory : goal.returns-clause-memory
returns-clause-memory c =
    same_kept _ _ _ c.kept_forget.ensures.ok c.kept_forget.ensures.unchanged (λ t. (t.image, t.rest, t.size))
