-- When a file of registers can't be made.
use Rattle.std.specs.Prelude.{ℕ, ◌≡◌, ◌&&◌, nat_le, if◌then◌else◌, Option, Some, None}
use Rattle.flat_model.specs.declared.limits.TheConstants.{MAX_BLOCK_WORDS, MAX_CONST_REGS}
use Rattle.flat_model.specs.declared.MakeFault.{MakeFault}
use Rattle.flat_model.specs.declared.MakeFault.TheVariants.{BadShape, OutOfMemory}
use Rattle.flat_model.specs.declared.ShapeField.{ShapeField}
use Rattle.flat_model.specs.declared.ShapeField.TheVariants.{BlockWords, Regs}

-- the first number that is out of its range
abbrev pub bad_field : (words regs : ℕ) → Option ShapeField
bad_field words regs =
    if nat_le 1 words && nat_le words MAX_BLOCK_WORDS
    then (if nat_le 1 regs && nat_le regs MAX_CONST_REGS then None else Some Regs)
    else Some BlockWords

-- a fault that names this field, or want of memory where there is none to name
abbrev pub IsFaultFor : Option ShapeField → MakeFault → Type 0
IsFaultFor bad (BadShape field) = bad ≡ Some field
IsFaultFor bad OutOfMemory = bad ≡ None
