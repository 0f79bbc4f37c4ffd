-- The keys of a table, one after another.
use Rattle.std.proofs.Common.{◌≡◌, ℕ, Bool, false, ◌||◌, not, if◌then◌else◌, Option, Some, None, List, [], ◌∷◌, String, Global}
use Rattle.std.proofs.Common.{string_bytes, refl, ap}
use Rattle.std.specs.Map.{keys_of}
use Rattle.toml.specs.declared.value.Value.{Value}
use Rattle.toml.specs.View.{members_view}
use Rattle.shape_files.specs.ShapeFile.{is_key, has_other_key}
use Rattle.shape_files.specs.MachineFile.{is_machine_key, other_key}

-- whether one of these keys is none of a shape file
abbrev pub others : List (String Global) → Bool
others [] = false
others (k ∷ ks) = not (is_key (string_bytes k)) || others ks

pub others-keys : (es : List (String Global × Value)) → has_other_key (members_view es) ≡ others (keys_of es)
others-keys [] = refl
others-keys (e ∷ es) = ap (λ b. not (is_key (string_bytes e.0)) || b) (others-keys es)

-- the first of these keys that no machine has
abbrev pub first_other : List (String Global) → Option (List ℕ)
first_other [] = None
first_other (k ∷ ks) = if is_machine_key (string_bytes k) then first_other ks else Some (string_bytes k)

pub first_other-keys : (es : List (String Global × Value)) → other_key (members_view es) ≡ first_other (keys_of es)
first_other-keys [] = refl
first_other-keys (e ∷ es) = ap (λ o. if is_machine_key (string_bytes e.0) then o else Some (string_bytes e.0)) (first_other-keys es)
