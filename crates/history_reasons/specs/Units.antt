-- Why an answer is wrong in a unit of memory.
use Rattle.std.specs.Prelude.{ℕ, ◌+◌, ◌-◌, ◌%◌, if◌then◌else◌, min, List, [], ◌∷◌, take, drop, Option, Some, None}
use Rattle.std.specs.List.{find}
use Rattle.std.specs.Option.{option_and_then}
use Rattle.memory_histories.specs.declared.windows.LoadByte.{LoadByte}
use Rattle.memory_histories.specs.Windows.{Windows, is_at}
use Rattle.history_reasons.specs.declared.Reason.{Reason}
use Rattle.history_reasons.specs.declared.units.FoundReason.{FoundReason}
use Rattle.history_reasons.specs.Log.{told_reason}

-- why a load may not return a byte, if it is enabled
abbrev pub enabled_reason : Windows → LoadByte → ℕ → Option Reason
enabled_reason w l b = if l.enabled then told_reason w l b else None

-- why the load that is open under a number may not return a byte at an address; nothing is told if no such load asks for it
abbrev pub reason_at : Windows → ℕ → ℕ → ℕ → Option Reason
reason_at w number address b = option_and_then (λ l. enabled_reason w l b) (find (is_at number address) w.loads)

-- the address of the byte at this place of an operation, none of which runs over the last address
abbrev pub address_at : ℕ → ℕ → ℕ
address_at address place = min (address + place) 18446744073709551615

abbrev pub found_or : ℕ → Option Reason → Option FoundReason → Option FoundReason
found_or place (Some why) later = Some (record { place = place; reason = why })
found_or place None later = later

-- of these bytes of an answer, which stand from this place on, the first for which there is a reason
abbrev pub reason_from : Windows → ℕ → ℕ → List ℕ → ℕ → Option FoundReason
reason_from w number address [] place = None
reason_from w number address (b ∷ bs) place =
    found_or place (reason_at w number (address_at address place) b) (reason_from w number address bs (place + 1))

-- the bytes of an answer from this place on that lie in the same unit as the one there
abbrev pub unit_part : ℕ → ℕ → List ℕ → ℕ → List ℕ
unit_part size address bytes place = take (size - address_at address place % size) (drop place bytes)

-- of the bytes of an answer from this place on that lie in one unit, the first for which there is a reason
abbrev pub unit_reason : Windows → ℕ → ℕ → ℕ → List ℕ → ℕ → Option FoundReason
unit_reason w size number address bytes place = reason_from w number address (unit_part size address bytes place) place
