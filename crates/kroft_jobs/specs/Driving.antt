-- What becomes of the requests of a trace that are driven in rounds.
use Rattle.std.specs.Prelude.{◌≡◌, ◌⊎◌, ◌+◌, ℕ, List, Result, Ok, Err}
use Rattle.kroft_jobs.specs.Words.{Event, TraceFault, Timing, LogFault, AccessGroup}
use Rattle.register_sweeps.specs.Machine.{MachineState}
use Rattle.trace_text.specs.Streams.{Moves, Stopped}
use Rattle.trace_text.specs.declared.fault.TraceFault.TheVariants.{Write, OutOfMemory}
use Rattle.round_driver.specs.Rounds.{start_of, whole_run}
use Rattle.round_driver.specs.Walks.{IsOverInTime}
use Rattle.round_driver.specs.Written.{text_of_rounds}
use Rattle.access_logs.specs.declared.fault.LogFault.TheVariants as log
use Rattle.kroft_jobs.specs.Asking.{Asks, AsksNothing}
use Rattle.kroft_jobs.specs.Lengths.{whole_text, TellsLength}
use Rattle.kroft_jobs.specs.declared.asked.RequestText.{RequestText}

-- The run of these requests is written, is over in time, and its rounds are told. Or a write of its text was refused, or for want
-- of memory the lines of some rounds alone are written, or nothing is.
abbrev pub IsDriven : {W : Type 0} (took : W → List ℕ → W → Type 0) (refused : W → W → Type 0) (timing : Timing)
    (s : MachineState) (requests : List Event) (old new : W) → Result ℕ TraceFault → Type 0
IsDriven took refused timing s requests old new (Ok rounds) =
    Moves took old (whole_text timing s requests) new × IsOverInTime timing s requests
    × (rounds ≡ (whole_run timing s requests).schedule.round + 1)
IsDriven took refused timing s requests old new (Err Write) =
    Stopped took refused old (whole_text timing s requests) new × IsOverInTime timing s requests
IsDriven took refused timing s requests old new (Err OutOfMemory) =
    (new ≡ old)
    ⊎ ((n : ℕ) × Moves took old (text_of_rounds n (start_of timing s requests)) new × IsOverInTime timing s requests)
IsDriven took refused timing s requests old new (Err fault) = ⊥

-- Of the output what it takes and how it may refuse a write, and of the errors, too, how they may refuse a flush.
module _ {W E : Type 0} (took : W → List ℕ → W → Type 0) (refused : W → W → Type 0)
    (noted : E → List ℕ → E → Type 0) (unnoted unsettled : E → E → Type 0) where
  -- The run of these requests is written, as if it weren't told of; and it is told of if it is too long for a check,
  -- whether or not its writing comes to an end. Or memory is missing before either.
  abbrev pub IsToldAndDriven : (timing : Timing) (s : MachineState) (requests : List Event) (output output' : W)
      (errors errors' : E) → Result ℕ TraceFault → Type 0
  IsToldAndDriven timing s requests output output' errors errors' result =
      (TellsLength noted unnoted unsettled (whole_text timing s requests) errors errors'
      × IsDriven took refused timing s requests output output' result)
      ⊎ ((result ≡ Err OutOfMemory) × (output' ≡ output) × (errors' ≡ errors))

-- The requests of the input are driven, or it couldn't be read to its end, and then nothing is written or told.
module _ {R W E : Type 0} (gave : R → List ℕ → R → Type 0) (failed : R → R → Type 0) (took : W → List ℕ → W → Type 0)
    (refused : W → W → Type 0) (noted : E → List ℕ → E → Type 0) (unnoted unsettled : E → E → Type 0) where
  abbrev pub DrivesAll : (from : RequestText) (room : ℕ) (timing : Timing) (s : MachineState) (input input' : R)
      (output output' : W) (errors errors' : E) → Result ℕ LogFault → Type 0
  DrivesAll from room timing s input input' output output' errors errors' (Ok rounds) =
      (requests : List Event) × (groups : List AccessGroup) × Asks gave from room input input' requests groups
      × IsToldAndDriven took refused noted unnoted unsettled timing s requests output output' errors errors' (Ok rounds)
  DrivesAll from room timing s input input' output output' errors errors' (Err fault) =
      (AsksNothing gave failed from room input input' fault × (output' ≡ output) × (errors' ≡ errors))
      ⊎ ((requests : List Event) × (groups : List AccessGroup) × (f : TraceFault) × Asks gave from room input input' requests groups
      × (fault ≡ log.Trace f)
      × IsToldAndDriven took refused noted unnoted unsettled timing s requests output output' errors errors' (Err f))
