-- Quotients by a number that may be 0.
use native.Mathlib.Nat.{div-zero}

pub ruleset quotients = (div-zero)
