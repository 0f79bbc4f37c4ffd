-- What a request that misses waits for, and when it needn't be asked again.
use Rattle.std.specs.Prelude.{ℕ, Bool, true, false, ◌&&◌, not, nat_lt, take, Option, None, Some, is_some}
use Rattle.machine_core.specs.Words.{Cause, NoRegister, SetPending, QueueFull, Event, Load, Store, Prefetch, Serve, Arrive, Take, Answer}
use Rattle.machine_core.specs.Words.{Refused, Sizes}
use Rattle.flat_model.specs.Words.{has_any}
use Rattle.machine_core.specs.State.{Cache, is_present, block_of}
use Rattle.machine_core.specs.Causes.{first_cause, miss_causes}
use Rattle.machine_core.specs.Machine.{MachineState}
use Rattle.register_sweeps.specs.declared.row.Asked.{Asked}
use Rattle.register_sweeps.specs.declared.row.Asked.TheVariants.{Ended, LacksRoom}

-- how a request stands once it was asked
abbrev pub has_ended : Asked → Bool
has_ended Ended = true
has_ended asked = false

abbrev pub has_no_room : Asked → Bool
has_no_room LacksRoom = true
has_no_room asked = false

-- whether it says that the cache has no register, frame or place in the write queue for a miss
abbrev pub is_lack : Cause → Bool
is_lack NoRegister = true
is_lack SetPending = true
is_lack QueueFull = true
is_lack cause = false

-- whether a request is of a word, so that a miss brings its block in
abbrev pub is_of_a_word : Event → Bool
is_of_a_word (Load tag at) = true
is_of_a_word (Store at word lanes) = true
is_of_a_word (Prefetch at) = true
is_of_a_word event = false

-- whether a request was refused for want of a register, a frame or places in the write queue
abbrev pub is_refused_room : Event → Answer → Bool
is_refused_room event (Refused cause) = is_of_a_word event && is_lack cause
is_refused_room event answer = false

-- a word that arrives, a command that is served and a reply that is taken leave frames, registers and write queue alone
abbrev pub leaves_room : Event → Bool
leaves_room (Serve bank) = true
leaves_room (Arrive bank place) = true
leaves_room (Take place) = true
leaves_room event = false

-- whether a pump may have made room for a miss
abbrev pub may_make_room : Option (Event × Answer) → Bool
may_make_room None = false
may_make_room (Some told) = not (leaves_room told.0)

-- whether the block of a word is absent, and there is no register, frame or place in the write queue for it
abbrev pub lacks_room_at : Sizes → Cache → ℕ → Bool
lacks_room_at z c at =
    nat_lt at z.words && (not (is_present c (block_of z at)) && is_some (first_cause (take 3 (miss_causes z (λ b. 0) c (block_of z at)))))

-- whether a request of a word lacks them
abbrev pub lacks_room_in : Sizes → Cache → Event → Bool
lacks_room_in z c (Load tag at) = lacks_room_at z c at
lacks_room_in z c (Store at word lanes) = has_any lanes && lacks_room_at z c at
lacks_room_in z c (Prefetch at) = lacks_room_at z c at
lacks_room_in z c event = false

abbrev pub lacks_room : MachineState → Event → Bool
lacks_room s event = lacks_room_in s.sizes s.machine.cache event
