-- Whether a handle is open.
use Rattle.std.specs.Prelude.{ℕ, Bool, not, ◌==◌}

abbrev pub nonzero : ℕ → Bool
nonzero n = not (n == 0)
