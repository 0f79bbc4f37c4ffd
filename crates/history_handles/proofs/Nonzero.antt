-- A number other than 0 is one.
use Rattle.std.proofs.Common.{◌≡◌, ◌≢◌, ℕ, ap}
use Rattle.std.specs.Prelude.{true, not}
use Rattle.std.proofs.lemmas.Bool.{ne_eqb}
use Rattle.history_handles.specs.Mark.{nonzero}

pub is_nonzero : (n : ℕ) → n ≢ 0 → nonzero n ≡ true
is_nonzero n p = ap not (ne_eqb n 0 p)
