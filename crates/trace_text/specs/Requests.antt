-- The requests of a trace.
use Rattle.std.specs.Prelude.{ℕ, Option, Some, None, Result, Ok, Err, List, [], ◌∷◌, ◌++◌}
use Rattle.std.specs.Option.{option_to_list}
use Rattle.flat_model.specs.declared.Event.{Event}
use Rattle.flat_model.specs.declared.Event.TheVariants.{Load, Store, Prefetch, Evict, Drain, Serve, Arrive, Process, Take}
use Rattle.trace_text.specs.Lines.{line_of}
use Rattle.trace_text.specs.declared.lines.Line.{Line}
use Rattle.trace_text.specs.declared.lines.Line.TheVariants as line
use Rattle.trace_text.specs.declared.lines.LineFault.{LineFault}

-- a load, a store, a prefetch or an eviction
abbrev pub IsRequest : Event → Type 0
IsRequest (Load tag at) = Unit {0}
IsRequest (Store at word lanes) = Unit {0}
IsRequest (Prefetch at) = Unit {0}
IsRequest (Evict block) = Unit {0}
IsRequest Drain = ⊥
IsRequest (Serve bank) = ⊥
IsRequest (Arrive bank place) = ⊥
IsRequest (Process place) = ⊥
IsRequest (Take place) = ⊥

abbrev pub request_event : Event → Option Event
request_event (Load tag at) = Some (Load tag at)
request_event (Store at word lanes) = Some (Store at word lanes)
request_event (Prefetch at) = Some (Prefetch at)
request_event (Evict block) = Some (Evict block)
request_event Drain = None
request_event (Serve bank) = None
request_event (Arrive bank place) = None
request_event (Process place) = None
request_event (Take place) = None

-- the event of a line, where it is a request
abbrev pub request_in : Line → Option Event
request_in (line.Event event) = request_event event
request_in (line.Register slot) = None
request_in (line.Bank at) = None
request_in line.Settled = None

abbrev pub request_of : Result Line LineFault → Option Event
request_of (Ok line) = request_in line
request_of (Err fault) = None

-- the requests of these lines, in order
abbrev pub requests_of : List (List ℕ) → List Event
requests_of [] = []
requests_of (text ∷ texts) = option_to_list (request_of (line_of text)) ++ requests_of texts
