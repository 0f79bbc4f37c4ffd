-- An image that is too long ends the task before it begins.
use Rattle.std.proofs.Common.{◌≡◌, ◌⊎◌, ℕ, List, Option, Result, Ok, Err, IsErrAnd, refl, sym, subst, inr}
use Rattle.kroft_jobs.specs.Words.{Sizes, Image}
use Rattle.kroft_command.specs.Words.{CommandLine, ToolFault}
use Rattle.kroft_command.specs.Program.{IsMachineOf, IsBesideOf, IsImageOf, LacksRoom, LacksRoomBeside, Performs}

module _ {R W E : Type 0} (gave : R → List ℕ → R → Type 0) (failed : R → R → Type 0)
    (took : W → List ℕ → W → Type 0) (refused unflushed : W → W → Type 0)
    (noted : E → List ℕ → E → Type 0) (unnoted unsettled : E → E → Type 0)
    (asked : CommandLine) (errors : E) (input : R) (output : W) where
  pub long_image : (sizes : Sizes) (beside : Option Sizes) (image : Image) (fault : ToolFault) → IsMachineOf asked.machine sizes
      → IsBesideOf asked.beside beside → IsImageOf asked.image image
      → LacksRoom asked.task sizes image fault ⊎ LacksRoomBeside asked.task beside image fault → (result : Result ℕ ToolFault)
      → IsErrAnd result (λ told. told ≡ fault)
      → Performs gave failed took refused unflushed noted unnoted unsettled asked errors errors input input output output result
  unfolding Performs
  long_image sizes beside image fault is_machine is_beside is_image lacks (Ok status) told = absurd told
  long_image sizes beside image fault is_machine is_beside is_image lacks (Err said) told =
      let room = subst (λ f. LacksRoom asked.task sizes image f ⊎ LacksRoomBeside asked.task beside image f) (sym told) lacks in
      inr (said, refl, refl, refl, refl, inr (inr (inr (sizes, beside, image, is_machine, is_beside, is_image, room))))
