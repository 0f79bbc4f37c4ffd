use Rattle.std.proofs.Common.{◌≡◌, ◌+◌, List, ℕ, subst, arith}
use Rattle.flat_model.specs.declared.Event.TheVariants as event
use Rattle.flat_model.specs.declared.Lanes.{Lanes}
use Rattle.flat_model.specs.declared.Word.{Word}
use Rattle.trace_text.specs.Streams.{Moves, Stopped}
use Rattle.access_logs.specs.declared.access.Access.{Access}
use Rattle.access_logs.specs.Accesses.{first_word_of, word_count_of, lanes_at, word_at}
use Rattle.access_logs.specs.Pages.{memory_word}
use Rattle.access_logs.specs.Requests.{store_of, request_text}
use Rattle.access_logs.proofs.Asked.{on_err, moved_next, stopped_at}
use Rattle.access_logs.proofs.requests.write_stores.Goals as goal

-- the line that was put together is the store's
same_line : (bytes line : List ℕ) (pages : List ℕ) (number : ℕ) (a : Access) (i w at : ℕ) (lanes : Lanes) (word : Word) → bytes ≡ line
    → line ≡ request_text (event.Store at word lanes) → w ≡ first_word_of a → at ≡ memory_word pages (w + i) → lanes ≡ lanes_at a (w + i)
    → word ≡ word_at a number (w + i)
    → bytes ≡ request_text (store_of pages number a i)
same_line bytes line pages number a i w at lanes word e0 e1 e2 e3 e4 e5 = cc (e0, e1, e3, e4, e5, e2)

pub returns-in_err-write_whole-clause-err : goal.returns-in_err-write_whole-clause-err
returns-in_err-write_whole-clause-err g c =
    let a = c.args.access in
    let i = c.loop-i.i in
    let same = same_line c.as_bytes.result.now c.put_store.new.out c.args.pages.now c.args.number a i c.first_word.result
    c.memory_word-at.result c.lanes.result c.word.result c.as_bytes.ensures.bytes c.put_store.ensures c.first_word.ensures
    c.memory_word-at.ensures c.lanes.ensures c.word.ensures in
    let stops = subst (λ l. Stopped g.W.Sink.took g.W.Sink.refused c.loop-i.writer l c.write_whole.new.writer) same
    c.in_err-write_whole.ensures.err in
    on_err c.from_residual.result
    (stopped_at (store_of c.args.pages.now c.args.number a) i (word_count_of a)
    (omega (arith, c.loop-i-test.true, c.word_count-i-end.ensures.count)) c.loop-i.invariant stops)

pub loop-i-preserved : goal.loop-i-preserved
loop-i-preserved g c =
    let a = c.args.access in
    let i = c.loop-i.i in
    let same = same_line c.as_bytes.result.now c.put_store.new.out c.args.pages.now c.args.number a i c.first_word.result
    c.memory_word-at.result c.lanes.result c.word.result c.as_bytes.ensures.bytes c.put_store.ensures c.first_word.ensures
    c.memory_word-at.ensures c.lanes.ensures c.word.ensures in
    let moves = subst (λ l. Moves g.W.Sink.took c.loop-i.writer l c.write_whole.new.writer) same c.in_ok-write_whole.ensures.ok in
    moved_next (store_of c.args.pages.now c.args.number a) i c.loop-i.invariant moves
