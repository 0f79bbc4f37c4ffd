-- Ranges of numbers.
use Rattle.std.specs.Prelude.{ℕ, Bool, ◌&&◌, nat_le}

-- whether a number lies between two others, these among them
abbrev pub is_between : ℕ → ℕ → ℕ → Bool
is_between n low high = nat_le low n && nat_le n high
