use Rattle.uses.proofs.forms.take_form.Goals as goal

pub returns : goal.returns
returns c =
    let made = c.take.ensures in
    rw (made.answer, made.unit) ((c.each_step_makes_forms.ensures _ _ made.sound).take _)
