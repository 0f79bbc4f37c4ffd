use Rattle.std.proofs.Common.{◌≡◌, ◌++◌}
use Rattle.std.specs.List.{flat_map, range_with_len}
use Rattle.run_pictures.specs.Waves.{register_signals}
use Rattle.run_pictures.proofs.signal.push_registers.Given as goal

-- the registers so far
abbrev pub invariant-loop-slot : goal.invariant-loop-slot
invariant-loop-slot l = l.signals.items ≡ l.initial.signals.items ++ flat_map register_signals (range_with_len 0 l.slot)
