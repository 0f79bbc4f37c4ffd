-- A bank's turn.
use Rattle.std.proofs.Common.{◌≡◌, List, [], ◌∷◌}
use mathlib.Core.List.{IsPrefix}
use Rattle.memory_banks.specs.declared.Command.{Command}

-- what was seen in front is what was popped
pub front_is : (x y : Command) (xs known : List Command) → IsPrefix (x ∷ []) known → known ≡ y ∷ xs → y ≡ x
front_is x y xs known p e = cc
