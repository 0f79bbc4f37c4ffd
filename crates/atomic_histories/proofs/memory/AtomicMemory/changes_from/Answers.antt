use Rattle.std.proofs.Common.{◌+◌, ◌++◌, map, length, ap, ◌∙◌, length-append, arith}
use Rattle.atomic_histories.specs.Held.{ways_from}
use Rattle.atomic_histories.specs.Judge.{held, limit_of}
use Rattle.atomic_histories.specs.Shown.{shown_unit}
use Rattle.atomic_histories.proofs.Ranges.{ways_more, halt_step, halt_at}
use Rattle.atomic_histories.proofs.Few.{few_more}
use Rattle.atomic_histories.proofs.Parts.{pass_on}
use Rattle.atomic_histories.proofs.memory.AtomicMemory.changes_from.Goals as goal

pub loop-j-preserved : goal.loop-j-preserved
loop-j-preserved c =
    let h = held c.args.self.now in
    let items = c.in_ok-add_unit.ensures in
    let many = ap length items in
    let sum = length-append c.loop-j.changes.items _ in
    let before = c.loop-j.invariant.many in
    let rest = ways_from h _ _ _ in
    record {
      ways = ap (λ us. map shown_unit us ++ rest) items
          ∙ (ways_more h _ c.loop-j.changes.items c.in_ok-unit.unit _ _ c.loop-j.j c.loop-j-test.true
          c.in_ok-unit.ensures.unit ∙ c.loop-j.invariant.ways);
      halt = halt_step _ h _ _ _ c.loop-j.j c.loop-j-test.true
          c.in_ok-unit.ensures.left c.in_ok-unit.ensures.few
          ∙ c.loop-j.invariant.halt;
      few = few_more h _ _ _ _ (omega arith) c.loop-j.invariant.few
          c.in_ok-unit.ensures.words;
      many = many ∙ (sum ∙ ap (λ n. n + 1) before);
    }

pub returns-in_err-unit-clause-halt : goal.returns-in_err-unit-clause-halt
returns-in_err-unit-clause-halt c =
    let m = c.args.self.now in
    pass_on _ c.in_err-unit.field-0.0
    _ c.from_residual.ensures.1
    (halt_at c.in_err-unit.field-0.0 (limit_of m) (held m) c.args.event c.args.from c.args.count c.loop-j.j
    (omega arith) c.loop-j.invariant.halt c.loop-j.invariant.few c.in_err-unit.ensures.fault)

pub returns-clause-words : goal.returns-clause-words
returns-clause-words c = λ i l m. c.loop-j.invariant.few i l (omega arith)
