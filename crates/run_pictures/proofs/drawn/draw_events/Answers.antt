use Rattle.std.proofs.Common.{◌+◌, drop, length, subst, sym}
use Rattle.std.proofs.lemmas.List.{drop_more}
use Rattle.run_pictures.specs.Drawn.{Follows}
use Rattle.run_pictures.proofs.drawn.draw_events.Goals as goal

pub loop-k-preserved : goal.loop-k-preserved
loop-k-preserved c = λ last rest.
    let k = c.loop-k.k in
    let all = c.args.all.now in
    let next = c.draw_event.new.drawing in
    let behind = subst (λ t. Follows (length all) (k + 1 + 1) t (drop (k + 1) all) next last) c.draw_event.ensures.state rest in
    c.loop-k.invariant last (subst (λ es. Follows (length all) (k + 1) c.loop-k.machine es c.loop-k.drawing last)
    (sym (drop_more all k _ c.loop-k-test.true)) (next, c.in_ok-draw_event.ensures.step, behind))
