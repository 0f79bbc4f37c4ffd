-- A fault that is told by its number is told as it should be.
use Rattle.std.proofs.Common.{◌≡◌, ℕ, ap, ◌∙◌}
use Rattle.std.specs.Prelude.{Option, Some, None}
use Rattle.machine_handles.specs.declared.made.OpenFault.{OpenFault}
use Rattle.machine_handles.specs.Made.{why}
use Rattle.machine_handles.specs.Opening.{fault_number, IsTold}

pub is_told : (found : Option OpenFault) (fault : OpenFault) (number : ℕ) → fault ≡ why found → number ≡ fault_number fault
    → IsTold number found
is_told None fault number is tells = λ other. absurd (other (tells ∙ ap fault_number is))
is_told (Some found) fault number is tells = tells ∙ ap fault_number is
