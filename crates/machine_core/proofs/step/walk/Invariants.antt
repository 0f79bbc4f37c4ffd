use Rattle.std.proofs.Common.{◌≡◌, take, vec_len, vec_capacity}
use Rattle.memory_banks.specs.Memory.{with_banks}
use Rattle.machine_core.specs.Machine.{walked, told}
use Rattle.machine_core.specs.Whole.{machine_of}
use Rattle.machine_core.proofs.step.walk.Given as goal

abbrev pub invariant-loop-event : goal.invariant-loop-event
invariant-loop-event l =
    let m = machine_of l.initial.unit l.initial.banks in
    let so_far = take l.event-index l.events in
    record {
      told : l.answers.items ≡ told l.initial.unit.sizes m so_far;
      count : vec_len l.answers ≡ l.event-index;
      room : vec_capacity l.answers ≡ vec_capacity l.initial.answers;
      unit : l.unit ≡ record l.initial.unit { cache = (walked l.initial.unit.sizes m so_far).cache };
      banks : l.banks ≡ with_banks l.initial.banks (walked l.initial.unit.sizes m so_far).banks;
    }
