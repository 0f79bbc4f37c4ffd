-- The events of a trace.
use Rattle.std.specs.Prelude.{◌≡◌, ℕ, ◌+◌, ◌<◌, ◌≤◌, Option, Some, None, Result, Ok, Err, List, [], ◌∷◌, ◌++◌, length, Vec}
use Rattle.std.specs.Global.{Global}
use Rattle.std.specs.Option.{option_to_list}
use Rattle.flat_model.specs.declared.Event.{Event}
use Rattle.trace_text.specs.Lines.{line_of}
use Rattle.trace_text.specs.Serving.{event_in}
use Rattle.trace_text.specs.declared.lines.Line.{Line}
use Rattle.trace_text.specs.declared.lines.LineFault.{LineFault}
use Rattle.trace_text.specs.declared.events.Events.{Events}

abbrev pub event_of : Result Line LineFault → Option Event
event_of (Ok line) = event_in line
event_of (Err fault) = None

-- the events of these lines, in order
abbrev pub trace_events : List (List ℕ) → List Event
trace_events [] = []
trace_events (text ∷ texts) = option_to_list (event_of (line_of text)) ++ trace_events texts

-- all events, or nothing of more events than so many
abbrev pub KeepsUpTo : ℕ → List Event → Option (Vec Event Global) → Type 0
KeepsUpTo most events (Some kept) = (length events ≤ most) × (kept.items ≡ events)
KeepsUpTo most events None = most < length events

-- ---- in the middle of a reading

-- the events of these lines are counted, and kept as long as there aren't too many
pub record Gathered (most : ℕ) (texts : List (List ℕ)) (e : Events) : Type 0 where
  pub limit : e.most ≡ most
  pub number : e.count ≡ length (trace_events texts)
  pub kept : e.count ≤ e.most → e.events.items ≡ trace_events texts

-- one more, if the line has one
pub record GathersOne (old : Events) (event : Option Event) (new : Events) : Type 0 where
  pub limit : new.most ≡ old.most
  pub number : new.count ≡ old.count + length (option_to_list event)
  pub kept : new.count ≤ new.most → new.events.items ≡ old.events.items ++ option_to_list event
