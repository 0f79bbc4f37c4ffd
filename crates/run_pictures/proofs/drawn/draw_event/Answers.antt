use Rattle.std.proofs.Common.{subst}
use Rattle.trace_text.proofs.Held.{on_ok}
use Rattle.run_pictures.specs.Drawn.{Draws, is_whole}
use Rattle.run_pictures.proofs.drawn.draw_event.Goals as goal

pub returns-clause-step : goal.returns-clause-step
returns-clause-step c =
    let step = c.new-step.result in
    let d = c.args.drawing.now in
    let d' = c.draw.new.self in
    on_ok c.draw.result (λ drawn. (
      step,
      c.new-step.ensures.step,
      subst (λ t. Draws (is_whole c.args.count c.args.number) t step d d') c.new-step.ensures.state
          (subst (λ w. Draws w c.new-step.new.machine step d d') c.is_whole.ensures drawn),
    )) c.draw.ensures
