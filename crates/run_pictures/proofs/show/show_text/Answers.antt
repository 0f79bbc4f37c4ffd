use Rattle.std.proofs.Common.{subst, ◌∙◌}
use Rattle.std.specs.String.{string_bytes}
use Rattle.run_pictures.specs.Asked.{all_asked, KeepsFew}
use Rattle.run_pictures.specs.Drawn.{IsDrawn}
use Rattle.run_pictures.proofs.show.show_text.Goals as goal

pub returns : goal.returns
returns g c =
    let read = c.in_ok-all.ensures.read in
    let kept = subst (KeepsFew (all_asked read.0)) c.in-Some.is read.2 in
    let text = c.in_ok-draw_run.field-0 in
    let drawn = subst (λ asked. IsDrawn c.args.form c.args.image.now c.args.machine asked (string_bytes text))
    (c.as_slice.ensures.value ∙ kept.1) c.in_ok-draw_run.ensures in
    (read.0, read.1, kept.0, drawn)
