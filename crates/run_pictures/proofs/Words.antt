-- Quotients by a number that may be 0.
use native.Mathlib.Nat.{div-zero, mod-zero}

pub ruleset quotients = (div-zero, mod-zero)
