use Rattle.register_sweeps.proofs.Shapes.{rows_of_answers, shown_by_answers}
use Rattle.register_sweeps.proofs.threads.rows_on_threads.Goals as goal

pub returns-clause-rows : goal.returns-clause-rows
returns-clause-rows g c =
    rows_of_answers (g.K.RowMaker.gives c.args.maker.now) (g.K.RowMaker.shows c.args.maker.now) c.args.machines.now
    c.in_ok-answers.answers.items c.as_slice.result.now c.all_rows.result c.all_rows.ensures.rows c.as_slice.ensures.value
    c.in_ok-answers.ensures.len c.in_ok-answers.ensures.each

pub returns-clause-shown : goal.returns-clause-shown
returns-clause-shown g c =
    shown_by_answers (g.K.RowMaker.gives c.args.maker.now) (g.K.RowMaker.shows c.args.maker.now) c.args.machines.now
    c.in_ok-answers.answers.items c.as_slice.result.now c.all_rows.result c.all_rows.ensures.rows c.as_slice.ensures.value
    c.in_ok-answers.ensures.len c.in_ok-answers.ensures.each
