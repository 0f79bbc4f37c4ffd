use Rattle.std.proofs.Common.{◌≡◌, List, map, true, IfOk, subst, ◌∙◌}
use Rattle.std.specs.List.{list_all}
use Rattle.round_driver.specs.Walks.{is_request}
use Rattle.machine_core.specs.Words.{Sizes}
use Rattle.register_sweeps.specs.Sweep.{EachCountsAll, row_of}
use Rattle.register_sweeps.proofs.Lawful.{rows_count_all}
use Rattle.register_sweeps.proofs.Shapes.{machines_good}
use Rattle.register_sweeps.proofs.sweeps.sweep.Goals as goal

pub rows_on_threads-requires-clause-good : goal.rows_on_threads-requires-clause-good
rows_on_threads-requires-clause-good g c κs outlives =
    machines_good c.args.shapes.now c.as_slice.result.now c.in_ok-all_good.ensures.good
    (c.as_slice.ensures.value ∙ c.in_ok-machines.ensures)

pub returns-clause-rows : goal.returns-clause-rows
returns-clause-rows g c =
    let of : List Sizes → Type 0 = λ zs. IfOk c.rows_on_threads.result (λ rows. rows.items ≡ map (row_of c.args.events.now) zs) in
    subst of (c.as_slice.ensures.value ∙ c.in_ok-machines.ensures) c.rows_on_threads.ensures.rows

pub returns-clause-counts : goal.returns-clause-counts
returns-clause-counts g c =
    let events = c.args.events.now in
    let made = c.as_slice.ensures.value ∙ c.in_ok-machines.ensures in
    let good = machines_good c.args.shapes.now c.as_slice.result.now c.in_ok-all_good.ensures.good made in
    let of : List Sizes → Type 0 = λ zs. IfOk c.rows_on_threads.result (λ rows. list_all is_request events ≡ true
    → EachCountsAll events zs rows.items) in
    subst of made (rows_count_all events c.as_slice.result.now c.rows_on_threads.result good c.rows_on_threads.ensures.rows)
