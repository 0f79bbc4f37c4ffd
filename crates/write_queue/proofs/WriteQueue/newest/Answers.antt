use Rattle.std.proofs.lemmas.Bool.{ne_eqb}
use Rattle.std.proofs.Common.{◌≡◌, ap, ◌∙◌, eq-eqb}
use Rattle.flat_model.specs.Words.{zero_word}
use Rattle.write_queue.proofs.Newest.{found-start, found-other, found-more, found-all}
use Rattle.write_queue.proofs.WriteQueue.newest.Goals as goal

pub loop-q-init : goal.loop-q-init
loop-q-init c =
    let none : c.default-word.result ≡ zero_word = λ i. let d = c.default-word.ensures in
    record { b0 = d.0 i; b1 = d.1.0 i; b2 = d.1.1.0 i; b3 = d.1.1.1 i } in
    found-start _ _ _ _ _ none c.none-lanes.ensures (c.into_iter-q-iterator.ensures.into_iter_gives ∙ c.iter-q-items.ensures.rest
    ∙ ap (λ q. q.entries) c.self.view_is)

pub loop-q-preserved : goal.loop-q-preserved
loop-q-preserved c =
    found-other _ _ c.in-Some.q.now _ _ _ _ c.loop-q.invariant c.in-Some.ensures.steps (ne_eqb c.in-Some.q.now.at c.args.at c.if-q-at.false)

pub loop-q-preserved-then-q-at : goal.loop-q-preserved-then-q-at
loop-q-preserved-then-q-at c =
    rw (c.merge-word.ensures, c.joined-lanes.ensures)
    (found-more _ _ c.in-Some.q.now _ _ _ _ c.loop-q.invariant c.in-Some.ensures.steps (eq-eqb c.in-Some.q.now.at c.args.at c.if-q-at.true))

pub returns : goal.returns
returns c = found-all _ _ _ _ _ c.loop-q.invariant c.in-None.ensures.steps.0
