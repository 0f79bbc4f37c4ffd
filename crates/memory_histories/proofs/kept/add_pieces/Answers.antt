use Rattle.std.proofs.Common.{◌≡◌, ◌+◌, ◌-◌, ◌∙◌, ◌++◌, [], sym, ap, append-nil, arith, nat_eq}
use Rattle.std.specs.HashMap.{get}
use Rattle.memory_histories.specs.Shown.{answered_in}
use Rattle.memory_histories.proofs.ShownSets.{unit_more, sets_of, from_unit}
use Rattle.memory_histories.proofs.kept.add_pieces.Goals as goal

pub loop-unit-preserved : goal.loop-unit-preserved
loop-unit-preserved c =
    let a = c.args.address in
    let n = c.args.length in
    let u = c.loop-unit.unit in
    let here : from_unit a n u ≡ c.max-from.result = omega arith in
    record {
      items = unit_more c.args.memory.0.now c.args.memory.1 (answered_in (get nat_eq c.args.memory.2.now)) u c.max-from.result
          c.min-count.result (from_unit a n (u + 1)) (a + n) c.loop-unit.sets.items c.add_piece.new.sets.items _ (omega arith)
          (omega arith) (omega arith) (omega arith) (rw c.parts_in.ensures at c.add_piece.ensures.items)
          (rw here at c.loop-unit.invariant.items);
      room = omega arith;
    }

pub returns : goal.returns
returns c =
    let a = c.args.address in
    let n = c.args.length in
    let sets = sets_of c.args.memory.0.now c.args.memory.1 (answered_in (get nat_eq c.args.memory.2.now)) in
    let from = from_unit a n c.loop-unit.unit in
    let done : a + n - from ≡ 0 = omega arith in
    let none : sets from (a + n - from) ≡ [] = ap (sets from) done in
    sym (append-nil c.loop-unit.sets.items) ∙ (ap (λ ys. c.loop-unit.sets.items ++ ys) (sym none) ∙ c.loop-unit.invariant.items)
