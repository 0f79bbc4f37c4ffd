use Rattle.std.proofs.Common.{arith, ◌≡◌, ◌+◌, ◌-◌, ◌<◌, ◌∙◌, inl, inr, length, take, drop, sym, ap, length-take, length-drop}
use Rattle.std.proofs.lemmas.Result.{err_from_is_err_and}
use Rattle.trace_text.proofs.Readings.{reading_start, reading_still, reading_on, all_progress, misread_begun, reads_fault, reads_halted}
use Rattle.trace_text.proofs.Readings.{reads_unpaused}
use Rattle.trace_text.proofs.reading.read_lines_within.Goals as goal

pub pieces-init : goal.pieces-init
pieces-init g c = record {
  reading = reading_start c.args.reader.now c.args.collector.now c.requires.went;
  filled = omega arith;
  same = c.requires.same;
}

pub returns-in_err-pause-clause-reads : goal.returns-in_err-pause-clause-reads
returns-in_err-pause-clause-reads g c =
    let k = g.C.Collector in
    let halted = err_from_is_err_and c.from_residual.result c.from_residual.ensures.1 in
    rw (halted.1, halted.2) (reads_unpaused g.R.Source.failed k.stopped k.paused k.unpaused _ c.pieces.invariant.reading
    c.in_err-pause.ensures.err)

pub returns-in-Err-Halted-clause-reads : goal.returns-in-Err-Halted-clause-reads
returns-in-Err-Halted-clause-reads g c =
    let k = g.C.Collector in
    let fill = c.in-Ok.ensures.ok in
    let reading = reading_still c.pieces.invariant.reading c.in_ok-pause.ensures.kept in
    reads_halted g.R.Source.failed k.stopped k.paused k.unpaused c.collect_ended.new.collector fill.bytes _ reading
    (fill.gives, omega (arith, fill.count)) fill.front (rw c.in-Err-Halted.field-0-is at c.in-Err-Halted.ensures.err)

pub returns-in-Err-Fault-clause-reads : goal.returns-in-Err-Fault-clause-reads
returns-in-Err-Fault-clause-reads g c =
    let k = g.C.Collector in
    let fill = c.in-Ok.ensures.ok in
    let reading = reading_still c.pieces.invariant.reading c.in_ok-pause.ensures.kept in
    reads_fault g.R.Source.failed k.stopped k.paused k.unpaused c.collect_ended.new.collector c.told.new.collector fill.bytes _
    c.in-Err-Fault.fault c.told.result
    reading (fill.gives, omega (arith, fill.count)) fill.front (rw c.in-Err-Fault.field-0-is at c.in-Err-Fault.ensures.err)
    c.told.ensures.stop

pub returns-in-Some-clause-reads : goal.returns-in-Some-clause-reads
returns-in-Some-clause-reads g c =
    let k = g.C.Collector in
    let fill = c.in-Ok.ensures.ok in
    let reading = reading_still c.pieces.invariant.reading c.in_ok-pause.ensures.kept in
    let all = c.in-Ok-collect_ended.ensures.ok in
    let whole = take (c.pieces.filled + c.in-Ok.given) c.fill.new.buffer in
    let left = c.in-Ok-collect_ended.left in
    let begun = misread_begun k.stopped left c.in-Some.fault all.collected all.unfinished
    (omega (arith, all.enough, length-drop (length whole - left) whole)) c.in-Some.ensures.some in
    reads_fault g.R.Source.failed k.stopped k.paused k.unpaused c.collect_ended.new.collector c.told-in-Some.new.collector fill.bytes whole
    c.in-Some.fault c.told-in-Some.result
    reading (fill.gives, omega (arith, fill.count)) fill.front begun c.told-in-Some.ensures.stop

pub pieces-preserved : goal.pieces-preserved
pieces-preserved g c =
    let fill = c.in-Ok.ensures.ok in
    let reading = reading_still c.pieces.invariant.reading c.in_ok-pause.ensures.kept in
    let all = c.in-Ok-collect_ended.ensures.ok in
    let whole = take (c.pieces.filled + c.in-Ok.given) c.fill.new.buffer in
    let left = c.in-Ok-collect_ended.left in
    let end = c.pieces.filled + c.in-Ok.given in
    let new = c.keep_end.new.bytes in
    let len : length whole ≡ end = omega (arith, length-take end c.fill.new.buffer, fill.within, c.fill.auto.buffer) in
    let back : left ≡ end - (end - left) = omega (arith, all.enough, len) in
    let at_end : take left new ≡ drop (length whole - left) whole =
    ap (λ n. take n new) back ∙ c.keep_end.ensures ∙ ap (λ n. drop (n - left) whole) (sym len) in
    let short = c.in_default-begun_fault.ensures.short in
    let room : 0 < length (take left new) → c.collect_ended.new.count < c.args.limit =
    λ some. c.in_default-begun_fault.ensures.room (omega (arith, some, length-take left new)) in
    record {
      reading = reading_on fill.bytes whole (take left new) reading (fill.gives, omega (arith, fill.count)) fill.front all at_end
          (omega (arith, short, length-take left new)) room;
      filled = omega (arith, short);
      same = c.collect_ended.ensures.same _ (c.pause.ensures.same _ c.pieces.invariant.same);
    }

pub pieces-smaller : goal.pieces-smaller
pieces-smaller g c =
    let fill = c.in-Ok.ensures.ok in
    let all = c.in-Ok-collect_ended.ensures.ok in
    let end = c.pieces.filled + c.in-Ok.given in
    let len : length (take end c.fill.new.buffer) ≡ end =
    omega (arith, length-take end c.fill.new.buffer, fill.within, c.fill.auto.buffer) in
    let short = c.in_default-begun_fault.ensures.short in
    elim (all_progress all) [
      | inl h ↦ omega (arith, h, short, all.collected.within, c.requires.most)
      | inr h ↦ omega (arith, h, short, len, all.collected.number, c.requires.most)
    ]
