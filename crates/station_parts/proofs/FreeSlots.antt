-- What the unit shows of a register.
use Rattle.std.proofs.Common.{◌≡◌, ℕ, zero, suc, List, [], ◌∷◌, Some, slice_index_or}
use Rattle.miss_registers.specs.declared.RegisterView.{RegisterView}
use Rattle.cache_law.specs.State.{Register, free_register}
use Rattle.miss_registers.specs.Views.{register_view}

-- a register that is shown shows whether it is valid
pub shown_valid : (rs : List Register) (slot : ℕ) (v : RegisterView) → register_view rs slot ≡ Some v
    → v.valid ≡ (slice_index_or rs slot free_register).valid
shown_valid [] slot v e = cc
shown_valid (r ∷ rs) zero v e = cc
shown_valid (r ∷ rs) (suc slot) v e = shown_valid rs slot v e
