-- The lines of a history.
use Rattle.std.specs.Prelude.{ℕ, ◌==◌, Bool, false, ◌||◌, if◌then◌else◌, Option, None, Some, Result, Ok, Err, List, [], ◌∷◌, length, codes}
use Rattle.std.specs.List.{list_all}
use Rattle.history_sessions.specs.Words.{HistoryEvent, ALL_ENABLED, LoadRequest, LoadResponse, StoreRequest, StoreResponse}
use Rattle.trace_text.specs.Lines.{cut_of, same}
use Rattle.history_sessions.specs.Events.{held}
use Rattle.history_text.specs.Fields.{value_of, bytes_of, enables_of}
use Rattle.trace_text.specs.declared.lines.LineFault.{LineFault}
use Rattle.trace_text.specs.declared.lines.LineFault.TheVariants.{Unknown, Field}
use Rattle.history_text.specs.declared.events.OwnedEvent.{OwnedEvent}
use Rattle.history_text.specs.declared.events.OwnedEvent.TheVariants as owned
use Rattle.history_text.specs.declared.lines.Command.{Command}
use Rattle.history_text.specs.declared.lines.Command.TheVariants as command

-- ---- events

-- the event that owns its bytes
abbrev pub seen : OwnedEvent → HistoryEvent
seen (owned.LoadRequest number address length) = LoadRequest number address length ALL_ENABLED
seen (owned.LoadResponse number bytes) = LoadResponse number (held bytes.items)
seen (owned.StoreRequest number address bytes enables) = StoreRequest number address (held bytes.items) enables
seen (owned.StoreResponse number) = StoreResponse number

-- ---- what the fields behind a command make of it

abbrev pub load_request_with : Option ℕ → Option ℕ → Option ℕ → Option HistoryEvent
load_request_with (Some number) (Some address) (Some length) = Some (LoadRequest number address length ALL_ENABLED)
load_request_with number address length = None

abbrev pub load_request_behind : List ℕ → List ℕ × Option (List ℕ) → Option HistoryEvent
load_request_behind number (address, None) = None
load_request_behind number (address, Some length) = load_request_with (value_of number) (value_of address) (value_of length)

abbrev pub load_request_from : List ℕ × Option (List ℕ) → Option HistoryEvent
load_request_from (number, None) = None
load_request_from (number, Some rest) = load_request_behind number (cut_of rest)

-- `ID ADDRESS LENGTH`
abbrev pub load_request_of : Option (List ℕ) → Option HistoryEvent
load_request_of None = None
load_request_of (Some fields) = load_request_from (cut_of fields)

abbrev pub load_response_with : Option ℕ → Option (List ℕ) → Option HistoryEvent
load_response_with (Some number) (Some bytes) = Some (LoadResponse number (held bytes))
load_response_with number bytes = None

abbrev pub load_response_from : List ℕ × Option (List ℕ) → Option HistoryEvent
load_response_from (number, None) = None
load_response_from (number, Some bytes) = load_response_with (value_of number) (bytes_of bytes)

-- `ID BYTES`
abbrev pub load_response_of : Option (List ℕ) → Option HistoryEvent
load_response_of None = None
load_response_of (Some fields) = load_response_from (cut_of fields)

abbrev pub store_request_with : ℕ → ℕ → List ℕ → Option ℕ → Option HistoryEvent
store_request_with number address bytes (Some enables) = Some (StoreRequest number address (held bytes) enables)
store_request_with number address bytes None = None

abbrev pub store_request_bytes : Option ℕ → Option ℕ → Option (List ℕ) → Option (List ℕ) → Option HistoryEvent
store_request_bytes (Some number) (Some address) (Some bytes) enables =
    store_request_with number address bytes (enables_of (length bytes) enables)
store_request_bytes number address bytes enables = None

abbrev pub store_request_behind : List ℕ → List ℕ → List ℕ × Option (List ℕ) → Option HistoryEvent
store_request_behind number address (bytes, enables) = store_request_bytes (value_of number) (value_of address) (bytes_of bytes) enables

abbrev pub store_request_address : List ℕ → List ℕ × Option (List ℕ) → Option HistoryEvent
store_request_address number (address, None) = None
store_request_address number (address, Some rest) = store_request_behind number address (cut_of rest)

abbrev pub store_request_from : List ℕ × Option (List ℕ) → Option HistoryEvent
store_request_from (number, None) = None
store_request_from (number, Some rest) = store_request_address number (cut_of rest)

-- `ID ADDRESS BYTES` or `ID ADDRESS BYTES ENABLES`
abbrev pub store_request_of : Option (List ℕ) → Option HistoryEvent
store_request_of None = None
store_request_of (Some fields) = store_request_from (cut_of fields)

abbrev pub store_response_with : Option ℕ → Option HistoryEvent
store_response_with (Some number) = Some (StoreResponse number)
store_response_with None = None

-- `ID`
abbrev pub store_response_of : Option (List ℕ) → Option HistoryEvent
store_response_of None = None
store_response_of (Some number) = store_response_with (value_of number)

unfoldable pub event_from : Command → Option (List ℕ) → Option HistoryEvent
event_from command.LoadRequest fields = load_request_of fields
event_from command.LoadResponse fields = load_response_of fields
event_from command.StoreRequest fields = store_request_of fields
event_from command.StoreResponse fields = store_response_of fields

-- ---- lines

-- the command of this name
unfoldable pub command_named : List ℕ → Option Command
command_named name =
    if same name (codes "load-request") then Some command.LoadRequest
    else if same name (codes "load-response") then Some command.LoadResponse
    else if same name (codes "store-request") then Some command.StoreRequest
    else if same name (codes "store-response") then Some command.StoreResponse
    else None

abbrev pub is_comment : List ℕ → Bool
is_comment [] = false
is_comment (b ∷ bs) = b == 35

abbrev pub is_blank : List ℕ → Bool
is_blank text = list_all (λ b. b == 32) text

-- whether a line is passed over: it is blank, or begins with `#`
abbrev pub is_passed_over : List ℕ → Bool
is_passed_over text = is_blank text || is_comment text

abbrev pub event_or_field : Option HistoryEvent → Result (Option HistoryEvent) LineFault
event_or_field (Some event) = Ok (Some event)
event_or_field None = Err Field

abbrev pub said_by : Option Command → Option (List ℕ) → Result (Option HistoryEvent) LineFault
said_by None fields = Err Unknown
said_by (Some command) fields = event_or_field (event_from command fields)

-- what a line says, without its LF: an event, or nothing
unfoldable pub line_of : List ℕ → Result (Option HistoryEvent) LineFault
line_of text = if is_passed_over text then Ok None else said_by (command_named (cut_of text).0) (cut_of text).1

-- ---- what was read

abbrev pub seen_by : Option OwnedEvent → Option HistoryEvent
seen_by None = None
seen_by (Some event) = Some (seen event)

abbrev pub seen_in : Result (Option OwnedEvent) LineFault → Result (Option HistoryEvent) LineFault
seen_in (Ok event) = Ok (seen_by event)
seen_in (Err fault) = Err fault
