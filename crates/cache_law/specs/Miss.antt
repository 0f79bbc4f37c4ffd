-- What a miss may take.
use Rattle.std.specs.Prelude.{◌≡◌, ℕ, Option, Some, None}
use Rattle.cache_directory.specs.declared.directory.Choice.{Choice}
use Rattle.cache_directory.specs.declared.directory.Choice.TheVariants.{Free, Victim, AllPending}
use Rattle.cache_law.specs.declared.Sizes.{Sizes}
use Rattle.cache_law.specs.State.{Cache, free_slot}
use Rattle.cache_law.specs.Causes.{first_cause, miss_causes, choose}

-- no cause stands against the miss, and it takes this frame and this register
pub record MayTake (z : Sizes) (room : ℕ → ℕ) (c : Cache) (block frame slot : ℕ) : Type 0 where
  pub no_cause : first_cause (miss_causes z room c block) ≡ None
  pub chosen : choose z c block ≡ Some frame
  pub free : free_slot c ≡ Some slot

-- the frame of a choice, where there is one
abbrev pub chosen_frame : Choice → Option ℕ
chosen_frame (Free f) = Some f
chosen_frame (Victim f) = Some f
chosen_frame AllPending = None
