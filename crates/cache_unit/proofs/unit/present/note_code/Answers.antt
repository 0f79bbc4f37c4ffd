use Rattle.std.proofs.Common.{◌<◌, length, sym, arith}
use Rattle.std.proofs.lemmas.Bool.{and_parts}
use Rattle.cache_law.proofs.Present.{live_for-some}
use Rattle.cache_unit.proofs.Findings.{missing_parts}
use Rattle.miss_registers.specs.Registers as regs
use Rattle.cache_unit.proofs.unit.present.note_code.Goals as goal

pub missing_code-requires : goal.missing_code-requires
missing_code-requires c =
    (live_for-some _ _ c.in-Some.slot (sym c.in-Some.ensures.answer)).0

pub note_store-requires : goal.note_store-requires
note_store-requires c =
    let rs = c.args.registers.now in
    let p = live_for-some rs _ c.in-Some.slot (sym c.in-Some.ensures.answer) in
    let n = (c.requires.whole.sound.each c.in-Some.slot).fields_there (and_parts _ _ p.1).0 in
    let there : c.args.i < length (regs.register_at rs c.in-Some.slot).fields = omega (arith, c.requires.there) in
    record {
      slot = p.0;
      live = p.1;
      there = there;
      unprocessed = (missing_parts (regs.field_at rs c.in-Some.slot _) _ (sym
          c.in-Some-missing_code.ensures)).0;
    }

pub returns-in_default-missing_code-clause-noted : goal.returns-in_default-missing_code-clause-noted
returns-in_default-missing_code-clause-noted c = grind arith

pub returns-clause-noted : goal.returns-clause-noted
returns-clause-noted c = grind arith

pub returns-clause-whole : goal.returns-clause-whole
returns-clause-whole c = c.note_store.ensures.whole _ _ c.requires.whole
