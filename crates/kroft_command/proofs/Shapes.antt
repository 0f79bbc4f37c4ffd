-- A text says no shape with a field out of its range.
use Rattle.std.proofs.Common.{◌≡◌, Bool, true, false, if◌then◌else◌, Option, Some, None, Result, Ok, Err, refl, ap, subst}
use Rattle.toml.specs.Data.{Members}
use Rattle.flat_model.specs.declared.ShapeField.{ShapeField}
use Rattle.shape_files.specs.ShapeFile.{and_then, bad_field, or_bad, shape_of, shape_said, numbers_of, has_other_key, text_says}
use Rattle.kroft_jobs.specs.Words.{ShapeFault, ToolShape}
use Rattle.shape_files.specs.declared.shape_file.ShapeFault.TheVariants.{UnknownKey}

not_ok : {X E : Type 0} {e : E} {x : X} → Err e ≡ Ok x → ⊥
not_ok h = cc

value_or : {X E : Type 0} → X → Result X E → X
value_or d (Ok x) = x
value_or d (Err e) = d

same_value : {X E : Type 0} (x y : X) → (let r : Result X E = Ok x in r) ≡ Ok y → x ≡ y
unfolding value_or
same_value {X} {E} x y h = ap (value_or {E = E} x) h

or_bad_good : (t u : ToolShape) (bad : Option ShapeField) → bad_field t ≡ bad → or_bad t bad ≡ Ok u → bad_field u ≡ None
or_bad_good t u None none h = subst (λ s. bad_field s ≡ None) (same_value t u h) none
or_bad_good t u (Some field) some h = absurd (not_ok h)

-- an answer that is made of numbers
made_good : {N : Type 0} (make : N → Result ToolShape ShapeFault)
    → ((n : N) (u : ToolShape) → make n ≡ Ok u → bad_field u ≡ None) → (numbers : Result N ShapeFault) (u : ToolShape)
    → and_then numbers make ≡ Ok u → bad_field u ≡ None
made_good make good (Ok n) u h = good n u h
made_good make good (Err f) u h = absurd (not_ok h)

keys_good : (ms : Members) (other : Bool) (u : ToolShape)
    → (if other then Err UnknownKey else and_then (numbers_of ms) shape_of) ≡ Ok u → bad_field u ≡ None
keys_good ms true u h = absurd (not_ok h)
keys_good ms false u h =
    made_good shape_of (λ n v e. or_bad_good (shape_said n) v (bad_field (shape_said n)) refl e) (numbers_of ms) u h

pub text_good : (table : Option Members) (u : ToolShape) → text_says table ≡ Ok u → bad_field u ≡ None
text_good None u h = absurd (not_ok h)
text_good (Some ms) u h = keys_good ms (has_other_key ms) u h
