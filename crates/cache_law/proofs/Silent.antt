-- Steps that send nothing.
use Rattle.std.proofs.Common.{◌≡◌, ℕ, [], arith}
use Rattle.cache_law.specs.declared.Sizes.{Sizes}
use Rattle.cache_law.specs.State.{Cache}
use Rattle.cache_law.specs.Steps.{evict_step, process_step, take_step}

pub evict_silent : (z : Sizes) (c : Cache) (block : ℕ) → (evict_step z c block).sent ≡ []
unfolding evict_step
evict_silent z c block = grind arith

pub process_silent : (c : Cache) (place : ℕ) → (process_step c place).sent ≡ []
unfolding process_step
process_silent c place = grind arith

pub take_silent : (c : Cache) (place : ℕ) → (take_step c place).sent ≡ []
unfolding take_step
take_silent c place = grind arith
