use Rattle.std.proofs.Common.{◌≡◌, ◌+◌, List, ℕ, subst, arith}
use Rattle.flat_model.specs.declared.Event.TheVariants as event
use Rattle.trace_text.specs.Streams.{Moves, Stopped}
use Rattle.access_logs.specs.Accesses.{word_count_of}
use Rattle.access_logs.specs.Pages.{memory_word}
use Rattle.access_logs.specs.Requests.{tag_behind, load_of, request_text}
use Rattle.access_logs.proofs.Asked.{on_err, moved_next, stopped_at}
use Rattle.access_logs.proofs.requests.write_loads.Goals as goal

-- the line that was put together is the load's
same_line : (bytes line : List ℕ) (pages : List ℕ) (tag first i tag' at w : ℕ) → bytes ≡ line → line ≡ request_text (event.Load tag' at)
    → tag' ≡ tag_behind tag i → at ≡ memory_word pages (w + i) → w ≡ first
    → bytes ≡ request_text (event.Load (tag_behind tag i) (memory_word pages (first + i)))
same_line bytes line pages tag first i tag' at w e0 e1 e2 e3 e4 = grind arith

pub returns-in_err-write_whole-clause-err : goal.returns-in_err-write_whole-clause-err
returns-in_err-write_whole-clause-err g c =
    let a = c.args.access in
    let i = c.loop-i.i in
    let same = same_line c.as_bytes.result.now c.put_load.new.out c.args.pages.now c.args.tag _ i c.tag_behind.result
    c.memory_word-at.result c.first_word.result c.as_bytes.ensures.bytes c.put_load.ensures c.tag_behind.ensures
    c.memory_word-at.ensures c.first_word.ensures in
    let stops = subst (λ l. Stopped g.W.Sink.took g.W.Sink.refused c.loop-i.writer l c.write_whole.new.writer) same
    c.in_err-write_whole.ensures.err in
    on_err c.from_residual.result
    (stopped_at (load_of c.args.pages.now c.args.tag a) i (word_count_of a)
    (omega (arith, c.loop-i-test.true, c.word_count-i-end.ensures.count)) c.loop-i.invariant stops)

pub loop-i-preserved : goal.loop-i-preserved
loop-i-preserved g c =
    let i = c.loop-i.i in
    let same = same_line c.as_bytes.result.now c.put_load.new.out c.args.pages.now c.args.tag _ i c.tag_behind.result
    c.memory_word-at.result c.first_word.result c.as_bytes.ensures.bytes c.put_load.ensures c.tag_behind.ensures
    c.memory_word-at.ensures c.first_word.ensures in
    let moves = subst (λ l. Moves g.W.Sink.took c.loop-i.writer l c.write_whole.new.writer) same c.in_ok-write_whole.ensures.ok in
    moved_next (load_of c.args.pages.now c.args.tag c.args.access) i c.loop-i.invariant moves
