use Rattle.std.proofs.Common.{append_assoc, arith, append-nil}
use Rattle.memory_histories.proofs.Pieces.{parts-append, all_shown_more, none_shown}
use Rattle.memory_histories.proofs.Lanes.{store_from, store_whole, store_over}
use Rattle.memory_histories.proofs.kept.add_parts.Goals as goal

pub loop-unit-init : goal.loop-unit-init
loop-unit-init c = grind (
  arith,
  store_whole c.args.number c.unit_of-first.result c.args.address c.args.bytes.now c.args.enables
      c.args.moment,
)

pub loop-unit-preserved : goal.loop-unit-preserved
loop-unit-preserved c =
    let more = store_from c.args.number c.loop-unit.unit c.args.address c.args.bytes.now c.args.enables c.args.moment _
    c.empty_part-part.ensures in
    record { stores = grind (arith, parts-append, append-nil, append_assoc); loads = grind (arith, all_shown_more); room = omega arith }

pub returns-clause-stores : goal.returns-clause-stores
returns-clause-stores c = grind (
  arith,
  append-nil,
  store_over c.args.number c.loop-unit.unit c.args.address c.args.bytes.now c.args.enables
      c.args.moment,
)

pub returns-clause-loads : goal.returns-clause-loads
returns-clause-loads c = grind (
  arith,
  none_shown,
  store_over c.args.number c.loop-unit.unit c.args.address c.args.bytes.now c.args.enables
      c.args.moment,
)
