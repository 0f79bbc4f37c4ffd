use Rattle.std.proofs.Common.{◌≡◌, ◌-◌, ◌≤◌}
use Rattle.arrayvec.specs.ArrayVec.{array_vec_len}
use Rattle.round_driver.specs.Rounds.{course, bank_turns}
use Rattle.round_driver.proofs.round.bank_turns.Given as goal

-- the turns that are left do what all of them do, and each has told of one event at most
abbrev pub invariant-loop-bank : goal.invariant-loop-bank
invariant-loop-bank l =
    record {
      same : bank_turns l.bank-end 0 (course l.initial.machine l.initial.schedule l.initial.notes.items)
          ≡ bank_turns (l.bank-end - l.bank) l.bank (course l.machine l.schedule l.notes.items);
      sizes : l.machine.sizes ≡ l.initial.machine.sizes;
      len : array_vec_len l.notes ≤ l.bank;
      time : l.schedule.round ≡ l.initial.schedule.round;
      next : l.schedule.next ≡ l.initial.schedule.next;
    }
