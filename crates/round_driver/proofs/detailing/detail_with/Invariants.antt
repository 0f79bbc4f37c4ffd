use Rattle.std.proofs.Common.{◌≡◌, ◌*◌, ◌^◌, ◌≤◌, length}
use Rattle.flat_model.specs.declared.limits.TheConstants.{MAX_BANKS}
use Rattle.round_driver.specs.Rounds.{run_of, start_of, rounds_until_over}
use Rattle.round_driver.specs.Tables.{counting, nothing, counted_all, total}
use Rattle.round_driver.specs.Details.{told_of, ends_of, outcomes_in, told_total, told_rounds, ends_total}
use Rattle.round_driver.specs.Outcomes.{nothing_recorded, with_notes}
use Rattle.round_driver.specs.declared.round.TheConstants.{MOST_NOTES}
use Rattle.round_driver.specs.declared.table.TheConstants.{TAGS}
use Rattle.round_driver.proofs.detailing.detail_with.Given as goal

-- so many rounds were made, and what was told of them and how they ended is counted
abbrev pub invariant-loop-turn : goal.invariant-loop-turn
invariant-loop-turn l =
    let start = start_of l.fn.timing l.initial.machine l.requests in
    let so_far = rounds_until_over l._turn start in
    record {
      run : run_of l.machine l.schedule l.left so_far.told ≡ so_far;
      counts : counting l.counter ≡ counted_all nothing so_far.told;
      told : l.told ≡ told_of l.numbers so_far;
      ends : l.ends ≡ ends_of l._turn l.numbers start;
      outcomes : l.outcomes ≡ with_notes (nothing_recorded (length l.requests)) so_far.told;
      recorded : l.outcomes.ended ≡ outcomes_in (length l.requests) so_far;
      sizes : l.machine.sizes ≡ l.initial.machine.sizes;
      time : l.schedule.round ≡ l._turn;
      next : l.schedule.next ≤ MAX_BANKS;
      total : total l.counter.table ≤ 2 * MOST_NOTES * l._turn;
      waited : l.counter.table.waited ≤ MOST_NOTES * 2 ^ 64 * l._turn;
      tags : TAGS ≤ length l.counter.since.items;
      few_told : told_total l.told ≤ 4 * MOST_NOTES * l._turn;
      few_rounds : told_rounds l.told ≤ MOST_NOTES * 2 ^ 65 * l._turn;
      few_ends : ends_total l.ends ≤ 2 * l._turn;
    }
