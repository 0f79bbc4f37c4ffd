-- What a `FlatMemory` shows, and what the faults of a replay say.
use Rattle.std.specs.Prelude.{ℕ, ⊤, ◌≡◌, ◌≢◌, Bool, true, false, List, length, Option, Some, None, IsSome, nat_eq, nat_lt}
use Rattle.std.specs.HashMap.{get}
use Rattle.flat_model.specs.declared.Word.{Word}
use Rattle.flat_model.specs.declared.Event.{Event}
use Rattle.flat_model.specs.declared.Event.TheVariants.{Load, Store, Prefetch, Take}
use Rattle.flat_model.specs.declared.Answer.{Answer}
use Rattle.flat_model.specs.declared.Answer.TheVariants.{Accepted, Value}
use Rattle.flat_model.specs.declared.memory.FlatMemory.{FlatMemory}
use Rattle.flat_model.specs.declared.memory.ReplayFault.{ReplayFault}
use Rattle.flat_model.specs.declared.memory.ReplayFault.TheVariants.{Lengths, Mismatch, OutOfMemory}
use Rattle.flat_model.specs.declared.memory.StepFault.{StepFault}
use Rattle.flat_model.specs.declared.memory.StepFault.TheVariants as step
use Rattle.flat_model.specs.Flat.{Flat, first_fault, flat_run, flat_step}

-- the flat memory that it stands for
unfoldable pub shown : FlatMemory → Flat
shown m = record { mem = m.words.items; due = get nat_eq m.due }

-- what an event and its answer find there: whether there is a word at the address that the event points at, and what
-- the tag of a load, or of a value that is taken, is owed
abbrev pub Finds : Flat → Event → Answer → Bool → Option Word → Type 0
Finds s (Load tag at) answer inside owed = (inside ≡ nat_lt at (length s.mem)) × (owed ≡ s.due tag)
Finds s (Store at word lanes) answer inside owed = inside ≡ nat_lt at (length s.mem)
Finds s (Prefetch at) answer inside owed = inside ≡ nat_lt at (length s.mem)
Finds s (Take place) (Value tag word) inside owed = owed ≡ s.due tag
Finds s event answer inside owed = ⊤

-- an event that points at no word of memory and takes no value
abbrev pub MovesOnly : Event → Type 0
MovesOnly (Load tag at) = ⊥
MovesOnly (Store at word lanes) = ⊥
MovesOnly (Prefetch at) = ⊥
MovesOnly (Take place) = ⊥
MovesOnly event = ⊤

-- whether an event is a load
abbrev pub is_load : Event → Bool
is_load (Load tag at) = true
is_load event = false

-- how many tags more are owed a word after a pair, at most
abbrev pub more_owed : Event → Answer → ℕ
more_owed (Load tag at) Accepted = 1
more_owed event answer = 0

-- what each fault says of the run that was replayed
abbrev pub FaultIs : Flat → List Event → List Answer → ReplayFault → Type 0
FaultIs s events answers Lengths = (length events ≢ length answers) × (flat_run s events answers ≡ None)
FaultIs s events answers (Mismatch place) = (first_fault s events answers ≡ Some place) × (length events ≡ length answers) ×
    (flat_run s events answers ≡ None)
FaultIs s events answers OutOfMemory = length events ≡ length answers

-- what each fault says of the step that was asked for: it is none, or a load was owed a word
abbrev pub StepFaultIs : Flat → Event → Answer → StepFault → Type 0
StepFaultIs s event answer step.Mismatch = flat_step s event answer ≡ None
StepFaultIs s event answer step.OutOfMemory = (more_owed event answer ≡ 1) × IsSome (flat_step s event answer)
