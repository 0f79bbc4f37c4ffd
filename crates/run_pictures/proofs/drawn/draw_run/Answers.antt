use Rattle.std.specs.Prelude.{Result, Ok, Err, IfOk}
use Rattle.run_pictures.proofs.drawn.draw_run.Goals as goal

if_made : {T E : Type 0} {P Q : T → Type 0} (r : Result T E) → IfOk r P → ((x : T) → P x → Q x) → IfOk r Q
if_made (Ok x) p f = f x p
if_made (Err x) p f = tt

pub returns : goal.returns
returns c = if_made c.finish.result c.finish.ensures (λ text whole. (
  c.in_ok-drawing.drawing,
  c.draw_events.new.drawing,
  c.in_ok-drawing.ensures,
  c.in_ok-draw_events.ensures,
  whole,
))
