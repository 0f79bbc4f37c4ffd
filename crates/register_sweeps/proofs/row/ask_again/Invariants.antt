use Rattle.std.proofs.Common.{◌≡◌, ◌+◌, ◌-◌, ◌*◌, ◌≤◌, true}
use Rattle.register_sweeps.specs.Sweep.{course, total, ask_again}
use Rattle.register_sweeps.specs.Lacking.{has_no_room, lacks_room}
use Rattle.register_sweeps.proofs.row.ask_again.Given as goal

-- the turns that are left do what all turns do, and each has counted four at most
abbrev pub invariant-loop-turn : goal.invariant-loop-turn
invariant-loop-turn l =
    record {
      course : ask_again l._turn-end l.event (course l.initial.machine l.initial.row) ≡ ask_again (l._turn-end - l._turn) l.event
          (course l.machine l.row);
      total : total l.row ≤ total l.initial.row + 4 * l._turn;
      lacks : has_no_room l.asked ≡ true → lacks_room l.machine l.event ≡ true;
    }
