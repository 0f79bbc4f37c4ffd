-- What is so of every whole machine, and what its calls answer.
use Rattle.std.specs.Prelude.{◌≡◌, ℕ, ◌<◌, nat_lt, if◌then◌else◌, ◌==◌, IsTrue, Option, Some, None}
use Rattle.std.specs.Option.{option_or}
use Rattle.machine_core.specs.Words.{Word, Event, Load, Store, Prefetch, Evict, Answer, Accepted}
use Rattle.flat_model.specs.declared.ShapeField.{ShapeField}
use Rattle.flat_model.specs.declared.ShapeField.TheVariants.{Image}
use Rattle.flat_model.specs.Words.{has_any}
use Rattle.memory_banks.specs.Memory.{Memory, with_banks}
use Rattle.cache_law.specs.declared.Sizes.{Sizes}
use Rattle.cache_law.specs.State.{UnitState}
use Rattle.cache_law.specs.Shown.{sizes_of, shape_of}
use Rattle.cache_law.specs.Sound.{InRange}
use Rattle.cache_unit.specs.Limits as limits
use Rattle.machine_core.specs.Machine.{Machine, MachineState, Outcome, apply, bank_word}
use Rattle.machine_core.specs.Law.{serves_eviction}
use Rattle.machine_core.specs.Sound.{IsSound}

-- a unit and a memory together
abbrev pub machine_of : UnitState → Memory → Machine
machine_of unit memory = record { cache = unit.cache; banks = memory.banks }

-- what the parts of a machine show
abbrev pub state_of : UnitState → Memory → MachineState
state_of unit memory = record { sizes = unit.sizes; machine = machine_of unit memory }

-- an event on a unit and a memory answers and leaves what this outcome says
pub record Makes (o : Outcome) (old : UnitState) (before : Memory) (told : Answer) (new : UnitState) (after : Memory) : Type 0 where
  pub answer : told ≡ o.answer
  pub unit : new ≡ record old { cache = o.machine.cache }
  pub banks : after ≡ with_banks before o.machine.banks

-- the numbers of a machine whose type has four of them
abbrev pub IsOfType : ℕ → ℕ → ℕ → ℕ → Sizes → Type 0
IsOfType ways words regs depth z = z ≡ sizes_of ways words regs depth (shape_of z)

-- a unit and a memory of one shape, whose numbers are in their ranges
pub record IsWhole (unit : UnitState) (memory : Memory) : Type 0 where
  pub memory_words : memory.words ≡ unit.sizes.words
  pub limit : memory.limit ≡ unit.sizes.bank_queue
  pub in_range : InRange unit.sizes
  pub sound : IsSound unit.sizes (machine_of unit memory)

-- what each machine keeps, by its state alone: its numbers are in their ranges, and what is on its way is in order
pub record IsWholeState (s : MachineState) : Type 0 where
  pub in_range : InRange s.sizes
  pub sound : IsSound s.sizes s.machine

-- the first number of a machine that is out of its range, given the first one of its unit; the image's length comes last
abbrev pub or_image : Option ShapeField → Sizes → ℕ → Option ShapeField
or_image bad z image = option_or bad (if image == z.words then None else Some Image)

-- the same of a machine whose type has four of its numbers
abbrev pub bad_field : Sizes → ℕ → Option ShapeField
bad_field z image = or_image (limits.bad_field z) z image

-- and of one whose numbers are all given at run time
abbrev pub bad_size : Sizes → ℕ → Option ShapeField
bad_size z image = or_image (limits.bad_size z) z image

-- the word of memory at an address, where there is one
abbrev pub bank_word_view : Sizes → Machine → ℕ → Option Word
bank_word_view z m at = if nat_lt at z.words then Some (bank_word z m at) else None

-- an event, with its answer
abbrev pub with_answer : Sizes → Machine → Event → Event × Answer
with_answer z m event = record { 0 = event; 1 = (apply z m event).answer }

-- a request that points into memory is accepted, and an eviction is accepted or has no such block
abbrev pub Serves : Sizes → Event → Answer → Type 0
Serves z (Load tag at) answer = at < z.words → answer ≡ Accepted
Serves z (Store at word lanes) answer = at < z.words → IsTrue (has_any lanes) → answer ≡ Accepted
Serves z (Prefetch at) answer = at < z.words → answer ≡ Accepted
Serves z (Evict block) answer = IsTrue (serves_eviction answer)
Serves z event answer = Unit {0}
