use Rattle.std.proofs.Common.{◌+◌, ◌<◌, true, false, [], ◌∷◌, length, take, get_or, sym, ap, ◌∙◌, arith, length-append, append-nil}
use Rattle.flat_model.specs.Words.{has_any}
use Rattle.cache_directory.specs.Frames.{frame_at, zero_cell}
use Rattle.cache_law.specs.Causes.{dirty_from}
use Rattle.std.proofs.lemmas.List.{take_all}
use Rattle.cache_unit.proofs.Begins.{queued_cell, held-cells, dirty_more, dirty-length}
use Rattle.cache_unit.proofs.victim.dirty_words.Goals.{then-has_any, else-has_any}
use Rattle.cache_unit.proofs.victim.dirty_words.Goals as goal

pub dirty-requires : goal.dirty-requires
dirty-requires c = grind arith

pub loop-i-preserved : goal.loop-i-preserved
loop-i-preserved c =
    let cells = (frame_at _ c.args.frame).cells in
    let n = held-cells c.args.sizes.now.ways c.args.sizes.now.block_words c.args.directory.now c.args.frame c.requires.whole.sound
    c.requires.held in
    let there : c.loop-i.i < length cells = omega arith in
    let test = sym (ap has_any c.dirty.ensures.dirty) ∙ sym c.has_any.ensures in
    let front = dirty_from 0 0 (take c.loop-i.i cells) in
    elim c.if-has_any.branch [
      | then-has_any w ↦ (let e = ap length (dirty_more 0 0 cells c.loop-i.i true there (test ∙ w.if-has_any.true))
          ∙ length-append front (queued_cell 0 (0 + c.loop-i.i) (get_or cells c.loop-i.i zero_cell) ∷ []) in (omega arith, omega arith))
      | else-has_any w ↦
          (let e = ap length (dirty_more 0 0 cells c.loop-i.i false there (test ∙ w.if-has_any.false)) ∙ ap length (append-nil front) in
          (omega arith, omega arith))
    ]

pub returns-clause-count : goal.returns-clause-count
returns-clause-count c block at =
    grind (arith, c.args.directory.now.frames, held-cells, c.requires.whole, c.requires.held, take_all, c.loop-i.i, dirty-length)
