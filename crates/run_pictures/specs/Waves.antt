-- The signals of a waveform: what is asked and answered, and the machine's state.
use Rattle.std.specs.Prelude.{◌≡◌, ℕ, Bool, true, false, not, List, [], ◌∷◌, ◌++◌, map, if◌then◌else◌, codes, decimal}
use Rattle.std.specs.Prelude.{length, Option, Some, None}
use Rattle.std.specs.Fmt.{digits}
use Rattle.std.specs.List.{flat_map, range_with_len, enumerate_from}
use Rattle.std.specs.Option.{is_some}
use Rattle.std.specs.String.{string_bytes}
use Rattle.machine_core.specs.Words.{Event, Load, Store, Prefetch, Evict, Drain, Serve, Arrive, Process, Take, Answer, Accepted, Moved}
use Rattle.machine_core.specs.Words.{Value, Nothing, Refused, RegisterView, Sizes}
use Rattle.flat_model.specs.Flat.{number}
use Rattle.machine_core.specs.Banks.{bank_at}
use Rattle.machine_core.specs.Machine.{MachineState}
use Rattle.machine_core.specs.AnyMachine.{register_shown}
use Rattle.run_pictures.specs.Cells.{is_valid}
use Rattle.run_pictures.specs.declared.step.Made.{Made}
use Rattle.run_pictures.specs.declared.waveform.Waveform.{Waveform}
use Rattle.run_pictures.specs.declared.level.Level.{Level}
use Rattle.run_pictures.specs.declared.level.Level.TheVariants.{Bit, Number, Unset}
use Rattle.run_pictures.specs.declared.level.Level.TheVariants as level
use Rattle.run_pictures.specs.declared.level.Kind.{Kind}
use Rattle.run_pictures.specs.declared.level.Kind.TheVariants as kind
use Rattle.run_pictures.specs.contracts.level.LevelPartialEq.TheImpl as level_eq
use Rattle.run_pictures.specs.declared.waveform.Wave.{Wave}
use Rattle.run_pictures.specs.declared.signal.Signal.{Signal}
use Rattle.run_pictures.specs.declared.signal.Signal.TheVariants.{EventKind, Tag, Address, AnswerKind, Cause, Differs, Valid, Obsolete}
use Rattle.run_pictures.specs.declared.signal.Signal.TheVariants.{Block, Stack, Queue, Commands, Answers, Replies}

abbrev pub name_text : Signal → List ℕ
name_text EventKind = codes "event"
name_text Tag = codes "tag"
name_text Address = codes "address"
name_text AnswerKind = codes "answer"
name_text Cause = codes "cause"
name_text Differs = codes "differs"
name_text (Valid slot) = codes "reg" ++ (decimal slot ++ codes "_valid")
name_text (Obsolete slot) = codes "reg" ++ (decimal slot ++ codes "_obsolete")
name_text (Block slot) = codes "reg" ++ (decimal slot ++ codes "_block")
name_text Stack = codes "input_stack"
name_text Queue = codes "write_queue"
name_text (Commands bank) = codes "bank" ++ (decimal bank ++ codes "_commands")
name_text (Answers bank) = codes "bank" ++ (decimal bank ++ codes "_answers")
name_text Replies = codes "ready"

-- what a signal is declared as: a word, or bits
abbrev pub type_text : Signal → List ℕ
type_text EventKind = codes "string"
type_text AnswerKind = codes "string"
type_text signal = codes "wire"

-- how many bits a signal has; a word is declared as one
abbrev pub width_of : Signal → ℕ
width_of EventKind = 1
width_of AnswerKind = 1
width_of Differs = 1
width_of (Valid slot) = 1
width_of (Obsolete slot) = 1
width_of Tag = 16
width_of signal = 32

-- ---- values, as they stand in front of a signal

abbrev pub kind_text : Kind → List ℕ
kind_text kind.Start = codes "start"
kind_text kind.Load = codes "load"
kind_text kind.Store = codes "store"
kind_text kind.Prefetch = codes "prefetch"
kind_text kind.Evict = codes "evict"
kind_text kind.Drain = codes "drain"
kind_text kind.Serve = codes "serve"
kind_text kind.Arrive = codes "arrive"
kind_text kind.Process = codes "process"
kind_text kind.Take = codes "take"
kind_text kind.Unanswered = codes "none"
kind_text kind.Accepted = codes "accepted"
kind_text kind.Moved = codes "moved"
kind_text kind.Value = codes "value"
kind_text kind.Nothing = codes "nothing"
kind_text kind.Refused = codes "refused"

abbrev pub level_text : Level → List ℕ
level_text (Bit is_set) = if is_set then codes "1" else codes "0"
level_text (Number n) = codes "b" ++ (digits 2 false n ++ codes " ")
level_text (level.Kind kind) = codes "s" ++ (kind_text kind ++ codes " ")
level_text Unset = codes "bx "

-- a number, or that there is none
abbrev pub known : Option ℕ → Level
known None = Unset
known (Some n) = Number n

-- ---- what is asked and answered, or before the first event

abbrev pub kind_of_event : Event → Kind
kind_of_event (Load tag at) = kind.Load
kind_of_event (Store at word lanes) = kind.Store
kind_of_event (Prefetch at) = kind.Prefetch
kind_of_event (Evict block) = kind.Evict
kind_of_event Drain = kind.Drain
kind_of_event (Serve bank) = kind.Serve
kind_of_event (Arrive bank place) = kind.Arrive
kind_of_event (Process place) = kind.Process
kind_of_event (Take place) = kind.Take

abbrev pub kind_of_answer : Answer → Kind
kind_of_answer Accepted = kind.Accepted
kind_of_answer Moved = kind.Moved
kind_of_answer (Value tag word) = kind.Value
kind_of_answer Nothing = kind.Nothing
kind_of_answer (Refused cause) = kind.Refused

abbrev pub event_kind : Option Made → Kind
event_kind None = kind.Start
event_kind (Some made) = kind_of_event made.event

abbrev pub answer_kind : Option Made → Kind
answer_kind None = kind.Unanswered
answer_kind (Some made) = kind_of_answer made.answer

-- the tag of a value
abbrev pub value_tag : Answer → Option ℕ
value_tag (Value tag word) = Some tag
value_tag answer = None

-- the tag under which is loaded, or of the value that is taken
abbrev pub tag_in : Event → Answer → Option ℕ
tag_in (Load tag at) answer = Some tag
tag_in event answer = value_tag answer

-- the address of the word that is asked for
abbrev pub address_in : Event → Option ℕ
address_in (Load tag at) = Some at
address_in (Store at word lanes) = Some at
address_in (Prefetch at) = Some at
address_in event = None

-- the number of the cause of a refusal
abbrev pub cause_in : Answer → Option ℕ
cause_in (Refused cause) = Some (number cause)
cause_in answer = None

abbrev pub tag_of : Option Made → Option ℕ
tag_of None = None
tag_of (Some made) = tag_in made.event made.answer

abbrev pub address_of : Option Made → Option ℕ
address_of None = None
address_of (Some made) = address_in made.event

abbrev pub cause_of : Option Made → Option ℕ
cause_of None = None
cause_of (Some made) = cause_in made.answer

-- whether another answer was recorded
abbrev pub is_other : Option Made → Bool
is_other None = false
is_other (Some made) = is_some made.other

-- ---- the machine

abbrev pub is_obsolete : Option RegisterView → Bool
is_obsolete None = false
is_obsolete (Some r) = r.obsolete

abbrev pub block_number : Option RegisterView → ℕ
block_number None = 0
block_number (Some r) = r.block

-- a signal's value behind an event, or before the first one, in a machine of this state
abbrev pub level_at : Option Made → MachineState → Signal → Level
level_at made s EventKind = level.Kind (event_kind made)
level_at made s Tag = known (tag_of made)
level_at made s Address = known (address_of made)
level_at made s AnswerKind = level.Kind (answer_kind made)
level_at made s Cause = known (cause_of made)
level_at made s Differs = Bit (is_other made)
level_at made s (Valid slot) = Bit (is_valid (register_shown s slot))
level_at made s (Obsolete slot) = Bit (is_obsolete (register_shown s slot))
level_at made s (Block slot) = Number (block_number (register_shown s slot))
level_at made s Stack = Number (length s.machine.cache.stack)
level_at made s Queue = Number (length s.machine.cache.queue)
level_at made s (Commands bank) = Number (length (bank_at s.machine.banks bank).queue)
level_at made s (Answers bank) = Number (length (bank_at s.machine.banks bank).answers)
level_at made s Replies = Number (length s.machine.cache.ready)

-- ---- all signals

-- those of an event
abbrev pub event_signals : List Signal
event_signals = EventKind ∷ Tag ∷ Address ∷ AnswerKind ∷ Cause ∷ Differs ∷ []

abbrev pub register_signals : ℕ → List Signal
register_signals slot = Valid slot ∷ (Obsolete slot ∷ (Block slot ∷ []))

abbrev pub bank_signals : ℕ → List Signal
bank_signals bank = Commands bank ∷ (Answers bank ∷ [])

-- the signals of a machine, in the order in which they are declared
abbrev pub signals_in : Sizes → List Signal
signals_in z =
    event_signals ++ flat_map register_signals (range_with_len 0 z.regs) ++ Stack ∷ [] ++ Queue ∷ []
    ++ flat_map bank_signals (range_with_len 0 z.banks) ++ Replies ∷ []

-- ---- waveforms

-- a signal before the first event, by its number and itself
abbrev pub first_wave : MachineState → (ℕ × Signal) → Wave
first_wave s one = record { number = one.0; signal = one.1; level = level_at None s one.1; is_changed = true }

-- the same signal behind an event that was made, in a machine that stands so now
abbrev pub wave_behind : Made → MachineState → Wave → Wave
wave_behind made s wave =
    let now = level_at (Some made) s wave.signal in
    record { number = wave.number; signal = wave.signal; level = now; is_changed = not ((level_eq.ghosts).eq wave.level now) }

abbrev pub declaration_text : Wave → List ℕ
declaration_text wave =
    codes "$var "
    ++ (type_text wave.signal
    ++ (codes " "
    ++ (decimal (width_of wave.signal)
    ++ (codes " s" ++ (decimal wave.number ++ (codes " " ++ (name_text wave.signal ++ codes " $end\n")))))))

-- a value, if it changed
abbrev pub change_text : Wave → List ℕ
change_text wave = if wave.is_changed then level_text wave.level ++ (codes "s" ++ (decimal wave.number ++ codes "\n")) else []

-- all signals, and their first values
abbrev pub opening_text : List Wave → List ℕ
opening_text waves =
    codes "$timescale 1 ns $end\n$scope module kroft $end\n" ++ flat_map declaration_text waves
    ++ codes "$upscope $end\n$enddefinitions $end\n#0\n$dumpvars\n" ++ flat_map change_text waves ++ codes "$end\n"

-- Before the first event: all signals are declared, and then stand their values.
pub record WaveOpens (s : MachineState) (w : Waveform) : Type 0 where
  pub waves : w.waves.items ≡ map (first_wave s) (enumerate_from 0 (signals_in s.sizes))
  pub text : string_bytes w.text ≡ opening_text w.waves.items

-- The step of an event that was made, of this number: the values that changed stand behind the others.
pub record WaveGoesOn (n : ℕ) (s : MachineState) (made : Made) (old new : Waveform) : Type 0 where
  pub waves : new.waves.items ≡ map (wave_behind made s) old.waves.items
  pub text : string_bytes new.text ≡ string_bytes old.text
      ++ (codes "#" ++ (decimal n ++ (codes "\n" ++ flat_map change_text new.waves.items)))
