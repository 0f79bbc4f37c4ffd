use Rattle.std.proofs.Common.{◌≡◌, [], map}
use Rattle.std.specs.List.{range_with_len}
use Rattle.memory_banks.specs.Banks.{share_of}
use Rattle.memory_banks.proofs.memory.opening_banks.Given as goal

abbrev pub invariant-loop-bank : goal.invariant-loop-bank
invariant-loop-bank l = l.made.items ≡ map (λ b. record { words = share_of l.image l.banks b; queue = []; answers = [] })
    (range_with_len 0 l.bank)
