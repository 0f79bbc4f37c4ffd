use Rattle.std.proofs.Common.{◌≡◌, ◌+◌, ◌-◌, ◌*◌, ◌≤◌}
use Rattle.register_sweeps.specs.Sweep.{course, total, pump_times}
use Rattle.register_sweeps.proofs.row.run_dry.Given as goal

-- the turns that are left do what all turns do, and each has counted two at most
abbrev pub invariant-loop-turn : goal.invariant-loop-turn
invariant-loop-turn l =
    (pump_times l._turn-end (course l.initial.machine l.initial.row) ≡ pump_times (l._turn-end - l._turn) (course l.machine l.row)) ×
    (total l.row ≤ total l.initial.row + 2 * l._turn)
