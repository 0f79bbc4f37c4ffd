use Rattle.std.proofs.Common.{◌/◌, ap, rules}
use Rattle.atomic_histories.specs.Judge.{held}
use Rattle.atomic_histories.proofs.Ranges.{told_from}
use Rattle.atomic_histories.proofs.memory.AtomicMemory.changes.Goals as goal

pub returns-clause-told : goal.returns-clause-told
returns-clause-told c =
    told_from _ _ (held c.args.self.now) _
    _ c.units_of-count.result c.covered-address.result.0 c.covered-address.result.1
    c.covered-address.ensures (ap (λ n. c.covered-address.result.0 / n) c.bytes.ensures.bytes) c.units_of-count.ensures.counts
    (search rules) c.changes_from.ensures.told c.changes_from.ensures.words c.changes_from.ensures.halt
