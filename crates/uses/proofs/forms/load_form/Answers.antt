use Rattle.uses.proofs.forms.load_form.Goals as goal

pub returns : goal.returns
returns g c =
    let made = c.request.ensures.made in
    rw (made.answer, made.unit) ((c.each_step_makes_forms.ensures _ _ made.sound).request _ _)
