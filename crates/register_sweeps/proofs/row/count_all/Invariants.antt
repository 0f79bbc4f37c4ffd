use Rattle.std.proofs.Common.{◌≡◌, ◌*◌, ◌^◌, ◌≤◌, drop}
use Rattle.machine_core.specs.Whole.{IsWholeState}
use Rattle.register_sweeps.specs.Sweep.{course, total, empty_row, serve_all}
use Rattle.register_sweeps.proofs.row.count_all.Given as goal

-- the requests that are left do what all of them do
abbrev pub invariant-loop-event : goal.invariant-loop-event
invariant-loop-event l =
    (serve_all l.events (course l.initial.machine (empty_row l.regs)) ≡ serve_all (drop l.event-index l.events) (course l.machine l.row)) ×
    (total l.row ≤ 2 ^ 35 * l.event-index) × (l.machine.sizes ≡ l.initial.machine.sizes) × IsWholeState l.machine
