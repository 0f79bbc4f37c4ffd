-- The lines of a trace.
use Rattle.std.specs.Prelude.{◌≢◌, ◌++◌, ℕ, ◌+◌, ◌-◌, ◌==◌, Bool, ◌&&◌, if◌then◌else◌, Option, None, Some, Result, Ok, Err, List, length}
use Rattle.std.specs.Prelude.{take, drop, position, nat_eq, nat_lt, codes, slice_index}
use Rattle.trace_text.specs.declared.fault.TheConstants.{MAX_LINE}
use Rattle.trace_text.specs.declared.fields.TheConstants.{MAX_NUMBER, MAX_TAG}
use Rattle.std.specs.Option.{option_map}
use Rattle.std.specs.Cmp.Lexicographic.{pointwise}
use Rattle.flat_model.specs.declared.Word.{Word}
use Rattle.flat_model.specs.declared.Lanes.{Lanes}
use Rattle.flat_model.specs.declared.Event.TheVariants.{Load, Store, Prefetch, Evict, Drain, Serve, Arrive, Process, Take}
use Rattle.trace_text.specs.Codes.{line_feed, space}
use Rattle.trace_text.specs.Fields.{number_of, lanes_of, word_of}
use Rattle.trace_text.specs.declared.lines.Command.{Command}
use Rattle.trace_text.specs.declared.lines.Command.TheVariants as command
use Rattle.trace_text.specs.declared.lines.Line.{Line}
use Rattle.trace_text.specs.declared.lines.Line.TheVariants as line
use Rattle.trace_text.specs.declared.lines.LineFault.{LineFault}
use Rattle.trace_text.specs.declared.lines.LineFault.TheVariants.{Unknown, Field, TooLong, NotEnded}

-- ---- words

-- the bytes up to a place, and those behind it; all of them, where there is no place
abbrev pub cut_at : List ℕ → Option ℕ → List ℕ × Option (List ℕ)
cut_at text (Some i) = (take i text, Some (drop (i + 1) text))
cut_at text None = (text, None)

-- the bytes up to the first space, and those behind it
abbrev pub cut_of : List ℕ → List ℕ × Option (List ℕ)
cut_of text = cut_at text (position (λ b. b == space) text)

abbrev pub same : List ℕ → List ℕ → Bool
same = pointwise nat_eq

-- the name of a command
abbrev pub name_of : Command → List ℕ
name_of command.Load = codes "load"
name_of command.Store = codes "store"
name_of command.Prefetch = codes "prefetch"
name_of command.Evict = codes "evict"
name_of command.Drain = codes "drain"
name_of command.Serve = codes "serve"
name_of command.Arrive = codes "arrive"
name_of command.Process = codes "process"
name_of command.Take = codes "take"
name_of command.Register = codes "reg"
name_of command.Bank = codes "bank"
name_of command.Settled = codes "settled"

-- no command's name stands at the front
abbrev pub BeginsNoCommand : List ℕ → Type 0
BeginsNoCommand text = (command : Command) (rest : List ℕ) → text ≢ name_of command ++ rest

-- the one command whose name may have these as its first and its third byte
unfoldable pub command_told : ℕ → ℕ → Option Command
command_told first third =
    if first == 108 then Some command.Load
    else if first == 115 then if third == 111 then Some command.Store else if third == 114 then Some command.Serve else Some command.Settled
    else if first == 112 then if third == 101 then Some command.Prefetch else Some command.Process
    else if first == 101 then Some command.Evict
    else if first == 100 then Some command.Drain
    else if first == 97 then Some command.Arrive
    else if first == 116 then Some command.Take
    else if first == 114 then Some command.Register
    else if first == 98 then Some command.Bank
    else None

-- the command of this name
unfoldable pub command_named : List ℕ → Option Command
command_named name =
    if same name (codes "load") then Some command.Load
    else if same name (codes "store") then Some command.Store
    else if same name (codes "prefetch") then Some command.Prefetch
    else if same name (codes "evict") then Some command.Evict
    else if same name (codes "drain") then Some command.Drain
    else if same name (codes "serve") then Some command.Serve
    else if same name (codes "arrive") then Some command.Arrive
    else if same name (codes "process") then Some command.Process
    else if same name (codes "take") then Some command.Take
    else if same name (codes "reg") then Some command.Register
    else if same name (codes "bank") then Some command.Bank
    else if same name (codes "settled") then Some command.Settled
    else None

-- ---- fields

-- a number of 32 bits
abbrev pub number_in : List ℕ → Option ℕ
number_in = number_of MAX_NUMBER

-- the one number that these fields are
abbrev pub one_number : Option (List ℕ) → Option ℕ
one_number None = None
one_number (Some field) = number_in field

-- no field stands behind the command
abbrev pub bare : Line → Option (List ℕ) → Option Line
bare line None = Some line
bare line (Some fields) = None

abbrev pub load_line : Option ℕ → Option ℕ → Option Line
load_line (Some tag) (Some at) = Some (line.Event (Load tag at))
load_line tag at = None

abbrev pub load_from : List ℕ × Option (List ℕ) → Option Line
load_from (tag, None) = None
load_from (tag, Some at) = load_line (number_of MAX_TAG tag) (number_in at)

-- `TAG AT`
abbrev pub load_of : Option (List ℕ) → Option Line
load_of None = None
load_of (Some fields) = load_from (cut_of fields)

abbrev pub store_line : Option ℕ → Option Lanes → Option Word → Option Line
store_line (Some at) (Some lanes) (Some word) = Some (line.Event (Store at word lanes))
store_line at lanes word = None

abbrev pub store_behind : List ℕ → List ℕ × Option (List ℕ) → Option Line
store_behind at (lanes, None) = None
store_behind at (lanes, Some word) = store_line (number_in at) (lanes_of lanes) (word_of word)

abbrev pub store_from : List ℕ × Option (List ℕ) → Option Line
store_from (at, None) = None
store_from (at, Some rest) = store_behind at (cut_of rest)

-- `AT MASK WORD`
abbrev pub store_of : Option (List ℕ) → Option Line
store_of None = None
store_of (Some fields) = store_from (cut_of fields)

abbrev pub arrive_line : Option ℕ → Option ℕ → Option Line
arrive_line (Some bank) (Some place) = Some (line.Event (Arrive bank place))
arrive_line bank place = None

abbrev pub arrive_from : List ℕ × Option (List ℕ) → Option Line
arrive_from (bank, None) = None
arrive_from (bank, Some place) = arrive_line (number_in bank) (number_in place)

-- `BANK PLACE`
abbrev pub arrive_of : Option (List ℕ) → Option Line
arrive_of None = None
arrive_of (Some fields) = arrive_from (cut_of fields)

-- what the fields behind a command make of it
unfoldable pub line_from : Command → Option (List ℕ) → Option Line
line_from command.Load fields = load_of fields
line_from command.Store fields = store_of fields
line_from command.Prefetch fields = option_map (λ at. line.Event (Prefetch at)) (one_number fields)
line_from command.Evict fields = option_map (λ block. line.Event (Evict block)) (one_number fields)
line_from command.Drain fields = bare (line.Event Drain) fields
line_from command.Serve fields = option_map (λ bank. line.Event (Serve bank)) (one_number fields)
line_from command.Arrive fields = arrive_of fields
line_from command.Process fields = option_map (λ place. line.Event (Process place)) (one_number fields)
line_from command.Take fields = option_map (λ place. line.Event (Take place)) (one_number fields)
line_from command.Register fields = option_map (λ slot. line.Register slot) (one_number fields)
line_from command.Bank fields = option_map (λ at. line.Bank at) (one_number fields)
line_from command.Settled fields = bare line.Settled fields

-- ---- lines

abbrev pub or_field : Option Line → Result Line LineFault
or_field (Some line) = Ok line
or_field None = Err Field

abbrev pub said_by : Option Command → Option (List ℕ) → Result Line LineFault
said_by None fields = Err Unknown
said_by (Some command) fields = or_field (line_from command fields)

-- what a line says, without its LF
unfoldable pub line_of : List ℕ → Result Line LineFault
line_of text = said_by (command_named (cut_of text).0) (cut_of text).1

-- whether the last byte is LF
abbrev pub is_ended : List ℕ → Bool
is_ended bytes = nat_lt 0 (length bytes) && (slice_index bytes (length bytes - 1) == line_feed)

abbrev pub without_end : List ℕ → List ℕ
without_end bytes = if is_ended bytes then take (length bytes - 1) bytes else bytes

-- what a line says, with its LF
abbrev pub ended_line_of : List ℕ → Result Line LineFault
ended_line_of bytes =
    if nat_lt MAX_LINE (length (without_end bytes)) then Err TooLong
    else if is_ended bytes then line_of (without_end bytes)
    else Err NotEnded

-- a fault of a line that is ended and not too long
abbrev pub IsSaid : LineFault → Type 0
IsSaid Unknown = Unit {0}
IsSaid Field = Unit {0}
IsSaid TooLong = ⊥
IsSaid NotEnded = ⊥
