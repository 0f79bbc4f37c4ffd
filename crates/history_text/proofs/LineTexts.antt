-- How lines become events.
use Rattle.std.proofs.Common.{◌≡◌, ℕ, ◌≤◌, Option, None, Some, Result, Ok, Err, List, [], ◌∷◌, ◌++◌, length}
use Rattle.std.proofs.Common.{length-append, append-nil, append_assoc, sym, ◌∙◌, ap, arith}
use Rattle.history_sessions.specs.Words.{HistoryEvent}
use Rattle.trace_text.specs.declared.lines.LineFault.{LineFault}
use Rattle.history_text.specs.Lines.{line_of}
use Rattle.history_text.specs.Histories.{events_in, events_of}

-- one line more
pub events_more : (texts : List (List ℕ)) (text : List ℕ) → events_of (texts ++ text ∷ []) ≡ events_of texts ++ events_in (line_of text)
events_more [] text = append-nil _
events_more (t ∷ ts) text = ap (λ l. events_in (line_of t) ++ l) (events_more ts text)
    ∙ sym (append_assoc (events_in (line_of t)) (events_of ts) (events_in (line_of text)))

one_event : (r : Result (Option HistoryEvent) LineFault) → length (events_in r) ≤ 1
one_event (Ok None) = omega arith
one_event (Ok (Some event)) = omega arith
one_event (Err f) = omega arith

-- there are no more events than lines
pub events_few : (texts : List (List ℕ)) → length (events_of texts) ≤ length texts
events_few [] = omega arith
events_few (t ∷ ts) = omega (arith, events_few ts, one_event (line_of t), length-append (events_in (line_of t)) (events_of ts))
