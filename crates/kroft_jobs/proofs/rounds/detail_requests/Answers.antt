use Rattle.std.proofs.Common.{ap, ap₂, ◌∙◌}
use Rattle.std.specs.List.{list_all}
use Rattle.round_driver.specs.Walks.{is_request}
use Rattle.register_sweeps.specs.Sweep.{machine_over}
use Rattle.kroft_jobs.specs.Asking.{accesses_of}
use Rattle.kroft_jobs.proofs.Sweeping.{all_detailed}
use Rattle.kroft_jobs.proofs.rounds.detail_requests.Goals as goal

pub returns-clause-counted : goal.returns-clause-counted
returns-clause-counted g c =
    let asked = c.in_ok-asked in
    let all = ap (list_all is_request) c.as_slice.ensures.value ∙ asked.ensures.requests in
    let made = c.in_ok-details in
    let detailed = all_detailed c.args.timing (machine_over c.args.image.now c.args.sizes.now) c.as_slice.result.now _ made.details
    c.as_slice.ensures.value all made.ensures.details made.ensures.over in
    let accesses = c.accesses_of-accesses.ensures ∙ ap₂ (accesses_of c.args.from) c.as_slice-2.ensures.value c.as_slice-3.ensures in
    (asked.asked.requests.items, asked.asked.groups.items, asked.ensures.said, detailed, accesses)
