-- The events of the lines so far.
use Rattle.std.proofs.Common.{◌≡◌, ℕ, ◌≤◌, Option, Ok, List, [], ◌∷◌, ◌++◌, length, length-append}
use Rattle.std.proofs.Common.{append_assoc, arith}
use Rattle.std.specs.Option.{option_to_list}
use Rattle.flat_model.specs.declared.Event.{Event}
use Rattle.trace_text.specs.Lines.{line_of}
use Rattle.trace_text.specs.Serving.{event_in}
use Rattle.trace_text.specs.Events.{event_of, trace_events, Gathered, GathersOne}
use Rattle.trace_text.specs.declared.events.Events.{Events}
use Rattle.trace_text.specs.declared.lines.Line.{Line}

events_more : (texts : List (List ℕ)) (text : List ℕ) → trace_events (texts ++ text ∷ []) ≡ trace_events texts
    ++ option_to_list (event_of (line_of text))
events_more [] text = grind arith
events_more (t ∷ ts) text = grind (arith, events_more ts text, append_assoc)

pub events_few : (texts : List (List ℕ)) → length (trace_events texts) ≤ length texts
events_few [] = omega arith
events_few (t ∷ ts) = grind (arith, events_few ts, length-append)

-- one line more
pub gathered_more : (most : ℕ) (old new : Events) (event : Option Event) (said : Line) (texts : List (List ℕ)) (text : List ℕ)
    → event ≡ event_in said → Ok said ≡ line_of text → GathersOne old event new → Gathered most texts old
    → Gathered most (texts ++ text ∷ []) new
gathered_more most old new event said texts text is read one held = grind (arith, events_more, length-append)
