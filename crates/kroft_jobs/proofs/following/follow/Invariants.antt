use Rattle.std.proofs.Common.{◌≡◌, ◌-◌}
use Rattle.round_driver.specs.declared.stepping.TheConstants.{MOST_ROUNDS}
use Rattle.round_driver.specs.Stepping.{Stepped}
use Rattle.result_figures.specs.Turns.{sight_of}
use Rattle.kroft_jobs.specs.Following.{followed, seen_along}
use Rattle.kroft_jobs.proofs.following.follow.Given as goal

-- so many rounds were made, and what was told of them is kept
abbrev pub invariant-loop-turn : goal.invariant-loop-turn
invariant-loop-turn l =
    let here : Stepped = record { state = l.machine; rounds = l.rounds; left = l.left } in
    record {
      told : followed l.fn.timing l.initial.machine l.requests ≡ seen_along (MOST_ROUNDS - l._turn) here (sight_of l.seen);
      time : l.rounds.schedule.round ≡ l._turn;
    }
