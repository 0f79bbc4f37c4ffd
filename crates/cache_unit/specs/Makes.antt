-- What a call makes of the unit, and of the lines.
use Rattle.std.specs.Prelude.{◌≡◌, ℕ, List}
use Rattle.flat_model.specs.declared.Answer.{Answer}
use Rattle.memory_banks.specs.declared.Command.{Command}
use Rattle.memory_banks.specs.Banks.{HasSent}
use Rattle.cache_law.specs.State.{UnitState}
use Rattle.cache_law.specs.Steps.{Stepped}
use Rattle.cache_law.specs.Sound.{IsSound}

-- a call of a sound unit answers and leaves what this step says
pub record Makes (step : Stepped) (old : UnitState) (told : Answer) (new : UnitState) : Type 0 where
  pub sound : IsSound old.sizes old.cache
  pub answer : told ≡ step.answer
  pub unit : new ≡ record old { cache = step.cache }

-- and its commands have gone over the lines
pub record MakesOver {L : Type 0} (sent_to : L → ℕ → List Command) (room_of : L → ℕ → ℕ) (same : L → L → Type 0)
    (step : Stepped) (old : UnitState) (before : L) (told : Answer) (new : UnitState) (after : L) : Type 0 where
  pub made : Makes step old told new
  pub lines : HasSent sent_to room_of same before after step.sent
