use Rattle.std.proofs.Common.{◌≡◌, ◌+◌, ◌*◌, ◌<◌, ◌++◌, true, false, length, sym, ap, ◌∙◌, arith, length-append, append-nil}
use Rattle.flat_model.specs.Words.{has_any, zero_word}
use Rattle.cache_directory.specs.Frames.{frame_at}
use Rattle.write_queue.specs.Queue.{queue as queue_of}
use Rattle.cache_law.specs.Causes.{dirty_from}
use Rattle.std.proofs.lemmas.List.{take_all}
use Rattle.cache_unit.proofs.Begins.{queue_one_more, held-cells, dirty_more, dirty_within}
use Rattle.cache_unit.proofs.victim.queue_dirty_words.Goals.{then-has_any, else-has_any}
use Rattle.cache_unit.proofs.victim.queue_dirty_words.Goals as goal

pub dirty-lanes-requires : goal.dirty-lanes-requires
dirty-lanes-requires c = grind arith

pub word-requires : goal.word-requires
word-requires c = grind arith

pub push-requires : goal.push-requires
push-requires c =
    let cells = (frame_at _ c.args.frame).cells in
    let first = c.args.block * c.args.sizes.now.block_words in
    let n = held-cells c.args.sizes.now.ways c.args.sizes.now.block_words _ _ c.requires.whole.sound c.requires.held in
    let there : c.loop-i.i < length cells = omega arith in
    let front = dirty_from c.args.block first _ in
    let more = ap length (dirty_more c.args.block first cells c.loop-i.i true there
    (cc (c.dirty-lanes.ensures.dirty, c.has_any.ensures, c.if-has_any.true))) ∙ length-append front _ in
    let within = dirty_within c.args.block first cells (c.loop-i.i + 1) in
    let entries = ap (λ q. length q.entries) c.loop-i.invariant ∙ length-append _ front in
    let limit = ap (λ q. q.limit) c.loop-i.invariant in
    omega arith

pub loop-i-preserved : goal.loop-i-preserved
loop-i-preserved c =
    let cells = (frame_at _ c.args.frame).cells in
    let first = c.args.block * c.args.sizes.now.block_words in
    let old = c.args.queue.now in
    let n = held-cells c.args.sizes.now.ways _ _ _ c.requires.whole.sound c.requires.held in
    let there : c.loop-i.i < length cells = omega arith in
    let test = sym (ap has_any c.dirty-lanes.ensures.dirty) ∙ sym c.has_any.ensures in
    elim c.if-has_any.branch [
      | then-has_any w ↦ queue_one_more c.loop-i.queue old c.if-has_any.queue c.args.block first c.loop-i.i cells
          w.merge.result c.dirty-lanes.result there (test ∙ w.if-has_any.true) c.dirty-lanes.ensures.dirty
          (let none : w.default.result ≡ zero_word = λ i. let d = w.default.ensures in
          record { b0 = d.0 i; b1 = d.1.0 i; b2 = d.1.1.0 i; b3 = d.1.1.1 i } in cc (w.merge.ensures, none, w.word.ensures.word))
          c.loop-i.invariant (w.queue-is ∙ w.push.ensures)
      | else-has_any w ↦ w.queue-is ∙ c.loop-i.invariant
          ∙ ap (λ l. queue_of (old.entries ++ l) old.limit)
          (sym (dirty_more c.args.block first cells c.loop-i.i false there (test ∙ w.if-has_any.false) ∙ append-nil (dirty_from
          c.args.block first _)))
    ]

pub returns : goal.returns
returns c = grind (arith, c.args.directory.now.frames, held-cells, c.requires.whole, c.requires.held, take_all, c.loop-i.i)
