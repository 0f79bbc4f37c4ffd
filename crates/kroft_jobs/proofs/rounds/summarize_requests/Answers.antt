use Rattle.std.proofs.Common.{ap, ◌∙◌}
use Rattle.std.specs.List.{list_all}
use Rattle.round_driver.specs.Walks.{is_request}
use Rattle.register_sweeps.specs.Sweep.{machine_over}
use Rattle.kroft_jobs.proofs.Sweeping.{table_counted}
use Rattle.kroft_jobs.proofs.rounds.summarize_requests.Goals as goal

pub returns-clause-table : goal.returns-clause-table
returns-clause-table g c =
    let asked = c.in_ok-asked in
    let all = ap (list_all is_request) c.as_slice.ensures.value ∙ asked.ensures.requests in
    let made = c.in_ok-rounds_table in
    let counted = table_counted c.args.timing (machine_over c.args.image.now c.args.sizes.now) c.as_slice.result.now _ made.field-0
    c.as_slice.ensures.value all made.ensures.table made.ensures.over in
    (asked.asked.requests.items, asked.asked.groups.items, asked.ensures.said, counted)
