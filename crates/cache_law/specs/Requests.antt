-- What a request is answered, by where its block and its word are: why it may not be served, and what a load is given.
use Rattle.std.specs.Prelude.{ℕ, Bool, true, false, ◌&&◌, if◌then◌else◌, [], Option}
use Rattle.flat_model.specs.declared.Cause.{Cause}
use Rattle.flat_model.specs.declared.Cause.TheVariants.{TargetsFull}
use Rattle.flat_model.specs.declared.Answer.{Answer}
use Rattle.flat_model.specs.declared.Answer.TheVariants.{Accepted, Refused}
use Rattle.cache_law.specs.declared.Sizes.{Sizes}
use Rattle.cache_law.specs.State.{Cache, is_present, cell_of}
use Rattle.cache_law.specs.Steps.{loaded}
use Rattle.cache_law.specs.Causes.{first_cause, miss_causes, found, targets_full}

-- a block that is present takes no miss
abbrev pub absence_cause : Sizes → (ℕ → ℕ) → Cache → ℕ → Option Cause
absence_cause z room c block = first_cause (if is_present c block then [] else miss_causes z room c block)

-- a present block's word is awaited by as many loads as may await it
abbrev pub is_full_for : Cache → ℕ → ℕ → Bool
is_full_for c block i = is_present c block && targets_full c i (found c block i)

-- a load of a present block, by whether four loads wait for its word: the answer, and the unit after it
abbrev pub load_answer : Bool → Answer
load_answer true = Refused TargetsFull
load_answer false = Accepted

abbrev pub load_present : Cache → ℕ → ℕ → ℕ → Bool → Cache
load_present c tag block i true = c
load_present c tag block i false = loaded c tag i (cell_of c block i).word (found c block i)
