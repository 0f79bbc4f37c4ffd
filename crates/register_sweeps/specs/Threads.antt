-- What the threads of a sweep answer.
use Rattle.std.specs.Prelude.{Bool, true, false, Result, Ok, Err}
use Rattle.register_sweeps.specs.declared.threads.Stop.{Stop}
use Rattle.register_sweeps.specs.declared.threads.Stop.TheVariants.{TurnLimit, OutOfMemory}

-- whether a thread had too little memory
abbrev pub lacks_memory : {A : Type 0} → Result A Stop → Bool
lacks_memory (Ok row) = false
lacks_memory (Err TurnLimit) = false
lacks_memory (Err OutOfMemory) = true
