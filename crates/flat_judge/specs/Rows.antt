-- What rows of plain numbers say of events and answers.
use Rattle.std.specs.Prelude.{ℕ, if◌then◌else◌, ◌==◌, Option, Some, None, bit_and}
use Rattle.std.specs.Option.{option_map}
use Rattle.flat_model.specs.declared.Lanes.{Lanes}
use Rattle.flat_model.specs.declared.Event.{Event}
use Rattle.flat_model.specs.declared.Event.TheVariants.{Load, Store, Prefetch, Evict, Drain, Serve, Arrive, Process, Take}
use Rattle.flat_model.specs.declared.Answer.{Answer}
use Rattle.flat_model.specs.declared.Answer.TheVariants.{Accepted, Moved, Value, Nothing, Refused}
use Rattle.flat_judge.specs.declared.rows.EventRow.{EventRow}
use Rattle.flat_model.specs.Words.{zero_word}
use Rattle.flat_model.specs.Flat.{number, cause_of}
use Rattle.flat_judge.specs.declared.rows.AnswerRow.{AnswerRow}

-- the lanes that a byte names: bits 4 to 7 are dropped
abbrev pub lanes_of : ℕ → Lanes
lanes_of byte = record { 0 = bit_and byte 15 }

-- the event that a row says: none, where its kind is past the last
abbrev pub event_of : EventRow → Option Event
event_of r =
    if r.kind == 0 then Some (Load r.tag r.at) else
    if r.kind == 1 then Some (Store r.at r.word (lanes_of r.lanes)) else
    if r.kind == 2 then Some (Prefetch r.at) else
    if r.kind == 3 then Some (Evict r.at) else
    if r.kind == 4 then Some Drain else
    if r.kind == 5 then Some (Serve r.at) else
    if r.kind == 6 then Some (Arrive r.at r.place) else
    if r.kind == 7 then Some (Process r.place) else
    if r.kind == 8 then Some (Take r.place) else None

-- the answer that a row says: none, where its kind is past the last or no cause has its number
abbrev pub answer_of : AnswerRow → Option Answer
answer_of r =
    if r.kind == 0 then Some Accepted else
    if r.kind == 1 then Some Moved else
    if r.kind == 2 then Some (Value r.tag r.word) else
    if r.kind == 3 then Some Nothing else
    if r.kind == 4 then option_map (λ c. Refused c) (cause_of r.cause) else None

-- ---- what C is passed

-- an answer as a row
abbrev pub answer_row : Answer → AnswerRow
answer_row Accepted = record { kind = 0; cause = 0; tag = 0; word = zero_word }
answer_row Moved = record { kind = 1; cause = 0; tag = 0; word = zero_word }
answer_row (Value tag word) = record { kind = 2; cause = 0; tag = tag; word = word }
answer_row Nothing = record { kind = 3; cause = 0; tag = 0; word = zero_word }
answer_row (Refused cause) = record { kind = 4; cause = number cause; tag = 0; word = zero_word }

-- an event as a row
abbrev pub plain_event : ℕ → ℕ → ℕ → EventRow
plain_event kind at place = record { kind = kind; tag = 0; lanes = 0; at = at; place = place; word = zero_word }

abbrev pub event_row : Event → EventRow
event_row (Load tag at) = record { kind = 0; tag = tag; lanes = 0; at = at; place = 0; word = zero_word }
event_row (Store at word lanes) = record { kind = 1; tag = 0; lanes = lanes.0; at = at; place = 0; word = word }
event_row (Prefetch at) = plain_event 2 at 0
event_row (Evict block) = plain_event 3 block 0
event_row Drain = plain_event 4 0 0
event_row (Serve bank) = plain_event 5 bank 0
event_row (Arrive bank place) = plain_event 6 bank place
event_row (Process place) = plain_event 7 0 place
event_row (Take place) = plain_event 8 0 place
