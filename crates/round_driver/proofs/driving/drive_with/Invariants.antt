use Rattle.std.proofs.Common.{◌≡◌, ◌≤◌}
use Rattle.flat_model.specs.declared.limits.TheConstants.{MAX_BANKS}
use Rattle.trace_text.specs.Streams.{Moves}
use Rattle.round_driver.specs.Rounds.{run_of, start_of, rounds_until_over}
use Rattle.round_driver.specs.Written.{run_text}
use Rattle.round_driver.proofs.driving.drive_with.Given as goal

-- so many rounds were made, and what was told of them is written
abbrev pub invariant-loop-turn : goal.invariant-loop-turn
invariant-loop-turn g l =
    let so_far = rounds_until_over l._turn (start_of l.fn.timing l.initial.machine l.requests) in
    record {
      run : run_of l.machine l.schedule l.left so_far.told ≡ so_far;
      written : Moves g.W.Sink.took l.fn.writer (run_text so_far.told) l.writer;
      sizes : l.machine.sizes ≡ l.initial.machine.sizes;
      time : l.schedule.round ≡ l._turn;
      next : l.schedule.next ≤ MAX_BANKS;
    }
