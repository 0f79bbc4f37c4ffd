-- Worked reasons, each checked by computing.
use Rattle.std.specs.Prelude.{ℕ, ◌≡◌, true, [], ◌∷◌, Option, Some, None}
use Rattle.std.proofs.Common.{refl}
use Rattle.memory_histories.specs.declared.events.Rest.TheVariants.{Zeros}
use Rattle.memory_histories.specs.declared.windows.StoreByte.{StoreByte}
use Rattle.history_reasons.specs.declared.Reason.{Reason}
use Rattle.history_reasons.specs.declared.Reason.TheVariants.{NeverThere, InitialOverwritten, StoreOverwritten}
use Rattle.history_reasons.specs.Reasons.{last_reason}
use Rattle.history_reasons.specs.Log.{forgotten}

-- two stores to a byte, one behind the other, and a load behind both
abbrev first : StoreByte
first = record { number = 1; address = 4096; byte = 90; began = 0; ended = Some 1 }

abbrev second : StoreByte
second = record { number = 2; address = 4096; byte = 17; began = 2; ended = Some 3 }

abbrev reason : ℕ → Option Reason
reason b = last_reason [] Zeros (first ∷ second ∷ []) (record { number = 1; address = 4096; began = 4; enabled = true }) b

pub stale_byte : reason 90 ≡ Some (StoreOverwritten first second)
stale_byte = refl

pub zero_of_the_image : reason 0 ≡ Some (InitialOverwritten second)
zero_of_the_image = refl

pub byte_of_nowhere : reason 5 ≡ Some NeverThere
byte_of_nowhere = refl

pub right_byte : reason 17 ≡ None
right_byte = refl

-- the first byte is stored again, and overwritten again: of the stores that had it the last is told, and of those that overwrote it
abbrev third : StoreByte
third = record { number = 3; address = 4096; byte = 90; began = 4; ended = Some 5 }

abbrev fourth : StoreByte
fourth = record { number = 4; address = 4096; byte = 18; began = 6; ended = Some 7 }

abbrev later_reason : ℕ → Option Reason
later_reason b =
    last_reason [] Zeros (first ∷ second ∷ third ∷ fourth ∷ []) (record { number = 1; address = 4096; began = 8; enabled = true }) b

pub last_store : later_reason 90 ≡ Some (StoreOverwritten third fourth)
last_store = refl

pub last_overwriter : later_reason 17 ≡ Some (StoreOverwritten second fourth)
last_overwriter = refl

pub last_over_the_image : later_reason 0 ≡ Some (InitialOverwritten fourth)
last_over_the_image = refl

-- how many bytes are forgotten
pub fewest_that_are_not_all_left : forgotten 8192 ≡ 4096
fewest_that_are_not_all_left = refl

pub most_that_are_all_left : forgotten 8191 ≡ 0
most_that_are_all_left = refl

pub most_that_are_left : forgotten 12287 ≡ 4096
most_that_are_left = refl
