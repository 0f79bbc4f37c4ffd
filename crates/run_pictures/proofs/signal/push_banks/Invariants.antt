use Rattle.std.proofs.Common.{◌≡◌, ◌++◌}
use Rattle.std.specs.List.{flat_map, range_with_len}
use Rattle.run_pictures.specs.Waves.{bank_signals}
use Rattle.run_pictures.proofs.signal.push_banks.Given as goal

-- the banks so far
abbrev pub invariant-loop-bank : goal.invariant-loop-bank
invariant-loop-bank l = l.signals.items ≡ l.initial.signals.items ++ flat_map bank_signals (range_with_len 0 l.bank)
