-- What is counted of rounds beside their table, one round after another.
use Rattle.std.proofs.Common.{◌≡◌, ℕ, zero, suc, ◌+◌, List, [], ◌∷◌, ◌++◌, replicate, refl, add-one, arith}
use Rattle.std.specs.List.{sum}
use Rattle.round_driver.specs.declared.machine.MachineNumbers.{MachineNumbers}
use Rattle.round_driver.specs.declared.note.Note.{Note}
use Rattle.round_driver.specs.declared.details.Told.{Told}
use Rattle.round_driver.specs.Machines.{used_registers}
use Rattle.round_driver.specs.Rounds.{Run, rounds_until_over}
use Rattle.round_driver.specs.Details.{counted, counted_all, nothing_told, no_ends, with_end, owed_of, told_of, ends_of, ends_total}
use Rattle.round_driver.specs.Details.{told_total}

-- ---- nothing was counted yet

sum_of_none : (n : ℕ) → sum (replicate n 0) ≡ 0
sum_of_none zero = refl
sum_of_none (suc n) = sum_of_none n

pub nothing_is_told : (z : MachineNumbers) → told_total (nothing_told z) ≡ 0
nothing_is_told z = grind (arith, sum_of_none)

pub nothing_has_ended : (z : MachineNumbers) → ends_total (no_ends z) ≡ 0
nothing_has_ended z = grind (arith, sum_of_none)

pub no_ends_yet : (z : MachineNumbers) (r : Run) → ends_of 0 z r ≡ no_ends z
unfolding ends_of
no_ends_yet z r = refl

-- ---- one round more

pub counted_then : (z : MachineNumbers) (t : Told) (xs ys : List Note) → counted_all z t (xs ++ ys) ≡ counted_all z (counted_all z t xs) ys
counted_then z t [] ys = refl
counted_then z t (x ∷ xs) ys = counted_then z (counted z t x) xs ys

pub ends_next : (n : ℕ) (z : MachineNumbers) (r : Run) → ends_of (n + 1) z r
    ≡ with_end (ends_of n z r) (used_registers (rounds_until_over (n + 1) r).state) (owed_of (told_of z (rounds_until_over (n + 1) r)))
unfolding ends_of
ends_next n z r = rw (add-one) refl
