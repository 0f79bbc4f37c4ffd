use Rattle.std.proofs.Common.{◌≡◌, true, take}
use Rattle.std.specs.List.{list_all}
use Rattle.cache_law.specs.Views.{is_empty}
use Rattle.machine_core.proofs.drive.all_served.Given as goal

abbrev pub invariant-loop-bank : goal.invariant-loop-bank
invariant-loop-bank l = list_all (λ b. is_empty b.queue) (take l.bank l.banks.banks) ≡ true
