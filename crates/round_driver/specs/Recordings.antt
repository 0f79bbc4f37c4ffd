-- The outcomes of requests while a run goes on.
use Rattle.std.specs.Prelude.{ℕ, List}
use Rattle.round_driver.specs.declared.outcomes.Outcome.{Outcome}

-- the outcomes so far, and how many there is room for
pub record Recorded : Type 0 where
  pub ended : List Outcome
  pub room : ℕ
