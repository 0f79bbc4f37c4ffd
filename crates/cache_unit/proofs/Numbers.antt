-- Numbers of which none is out of its range are in their ranges.
use Rattle.std.proofs.Common.{◌≡◌, ℕ, ◌+◌, ◌-◌, ◌*◌, ◌/◌, ◌≤◌, Bool, true, false, not, cond, Option, Some, None, refl, arith}
use Rattle.std.proofs.lemmas.Bool.{eqb-true, and_parts}
use Rattle.flat_model.specs.declared.limits.TheConstants.{MAX_WAYS, MAX_CONST_WAYS, MAX_REGS, MAX_CONST_REGS, MAX_DEPTH, MAX_CONST_DEPTH}
use Rattle.flat_model.specs.declared.limits.TheConstants.{MAX_WORDS, MAX_MEMORY}
use Rattle.flat_model.specs.declared.ShapeField.{ShapeField}
use Rattle.flat_model.specs.Ranges.{is_between}
use Rattle.flat_model.proofs.Ranges.{between}
use Rattle.cache_law.specs.declared.Sizes.{Sizes}
use Rattle.cache_law.specs.Sound.{InRange}
use Rattle.cache_unit.specs.Limits.{bad_field, bad_size}

-- so many commands at each bank are enough for a block
enough : (words banks queue : ℕ) → 1 ≤ banks → (words + banks - 1) / banks ≤ queue → words ≤ queue * banks
enough words banks queue some l = grind arith

-- a test that is passed names no field
pub passed : (test : Bool) (field : ShapeField) (rest : Option ShapeField) → cond (not test) (Some field) rest ≡ None → (test ≡ true) ×
    (rest ≡ None)
passed true field rest e = (refl, e)
passed false field rest e = cc

pub in_size : (z : Sizes) → bad_size z ≡ None → InRange z
in_size z e = grind (arith, passed, and_parts, between, eqb-true, enough)

-- numbers that are in range for a type are so at run time, where some may be larger
pub looser : (z : Sizes) → bad_field z ≡ None → bad_size z ≡ None
looser z e =
    grind (
      arith,
      passed,
      wider z.ways MAX_CONST_WAYS MAX_WAYS (omega arith),
      wider z.regs MAX_CONST_REGS MAX_REGS (omega arith),
      wider z.depth MAX_CONST_DEPTH MAX_DEPTH (omega arith),
      wider z.words MAX_WORDS MAX_MEMORY (omega arith),
    )
  where
    -- a number in a range is in a wider one
    wider : (n most more : ℕ) → most ≤ more → is_between n 1 most ≡ true → is_between n 1 more ≡ true
    wider n most more le is = grind arith

pub in_range : (z : Sizes) → bad_field z ≡ None → InRange z
in_range z e = in_size z (looser z e)
