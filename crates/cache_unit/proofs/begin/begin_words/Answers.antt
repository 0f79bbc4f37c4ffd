use Rattle.std.proofs.Common.{length, set, ap, ap₂, ◌∙◌, arith, length-set}
use Rattle.cache_directory.specs.Frames.{frame_at, with_frame, filled}
use Rattle.miss_registers.specs.Registers.{register_at, field_of, is_live, noted, clear_field}
use Rattle.cache_unit.proofs.Begins.{begun-length, frame_first, register_first, frame_next, register_next, register_now, field_waits}
use Rattle.cache_unit.proofs.Begins.{frame_whole, register_whole}
use Rattle.cache_unit.proofs.begin.begin_words.Goals as goal

pub loop-i-init : goal.loop-i-init
loop-i-init c = (
  frame_first _ _ c.args.queue.now.entries _ _ c.requires.fresh,
  c.requires.whole,
  c.requires.whole_file,
  register_first _ _ c.args.queue.now.entries _ _ _ c.requires.allocated,
)

pub note_store-requires : goal.note_store-requires
note_store-requires c =
    let rs = c.args.registers.now in
    let entries = c.args.queue.now.entries in
    let now = register_now rs c.loop-i.registers _ entries _ _ _ c.loop-i.i c.requires.slot c.loop-i.invariant.3 in
    let sized = ap length c.loop-i.invariant.3 ∙ length-set rs _ _ in
    let sized_fields = ap (λ r. length r.fields) now ∙ begun-length _ clear_field _ c.loop-i.i _ (omega arith) in
    record {
      slot = omega arith;
      live = ap is_live now;
      there = grind arith;
      unprocessed = ap (λ r. (field_of r c.loop-i.i).processed) now
          ∙ field_waits _ entries _ c.args.frame c.loop-i.i c.loop-i-test.true;
    }

pub loop-i-preserved : goal.loop-i-preserved
loop-i-preserved c =
    let entries = c.args.queue.now.entries in (
      frame_next c.args.directory.now c.loop-i.directory _ _ entries _ _ c.loop-i.i c.requires.frame c.loop-i-test.true
          c.loop-i.invariant.0 (c.fill.ensures.filled ∙ ap₂ (λ w m. with_frame c.loop-i.directory c.args.frame (filled (frame_at
          c.loop-i.directory.frames c.args.frame) c.loop-i.i w m)) (ap (λ f. f.word) c.newest-newest.ensures) c.none.ensures),
      c.fill.ensures.whole _ _ c.loop-i.invariant.1,
      c.note_store.ensures.whole _ _ c.loop-i.invariant.2,
      register_next c.args.registers.now c.loop-i.registers _ _ entries _ _ _ c.loop-i.i c.requires.slot c.loop-i-test.true
          c.loop-i.invariant.3 (c.note_store.ensures.registers ∙ ap (λ f. set c.loop-i.registers c.args.slot (noted (register_at
          c.loop-i.registers c.args.slot) c.loop-i.i f.lanes)) c.newest-newest.ensures),
    )

pub returns-clause-directory : goal.returns-clause-directory
returns-clause-directory c = grind (arith, c.args.directory.now, c.args.frame, frame_whole, c.args.queue.now.entries, c.loop-i.i)

pub returns-clause-registers : goal.returns-clause-registers
returns-clause-registers c =
    c.loop-i.invariant.3 ∙ ap (set _ _) (register_whole _ _ _ _ c.loop-i.i (omega arith))
