-- What is told of the program's end, and by which status it ends.
use Rattle.std.specs.Prelude.{◌≡◌, ◌⊎◌, ℕ, List, Result, Ok, Err}
use Rattle.kroft_jobs.specs.Writing.{IsOffered}
use Rattle.kroft_command.specs.Words.{ToolFault}
use Rattle.kroft_command.specs.Tool.{IsLineOf, no_memory, status_of}

-- Of the errors: what they may take, and how they may refuse a write or a flush.
module _ {E : Type 0} (took : E → List ℕ → E → Type 0) (refused unflushed : E → E → Type 0) where
  -- A fault is told by its line and its status.
  abbrev pub IsTold : (fault : ToolFault) (old new : E) (status : ℕ) → Type 0
  IsTold fault old new status =
      (text : List ℕ) × IsLineOf fault text × IsOffered took refused unflushed old text new × (status ≡ status_of fault)

  -- If there is no memory for its line, that is told in its place.
  abbrev pub TellsFault : (fault : ToolFault) (old new : E) (status : ℕ) → Type 0
  TellsFault fault old new status = IsTold fault old new status ⊎ IsTold no_memory old new status

  -- How the program ends: by a status of its job, and then nothing is told, or by a fault that is told.
  abbrev pub EndsBy : (result : Result ℕ ToolFault) (old new : E) (status : ℕ) → Type 0
  EndsBy (Ok done) old new status = (status ≡ done) × (new ≡ old)
  EndsBy (Err fault) old new status = TellsFault fault old new status
