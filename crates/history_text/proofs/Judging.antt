-- One line more of a history.
use Rattle.std.proofs.Common.{◌≡◌, ℕ, ◌+◌, ◌^◌, ◌<◌, Option, Some, None, Result, Ok}
use Rattle.std.proofs.Common.{List, [], ◌∷◌, ◌++◌, length, length-append, refl, sym, ◌∙◌, ap, subst, arith}
use Rattle.std.proofs.lemmas.List.Sums.{fold-append}
use Rattle.history_sessions.specs.Words.{HistoryEvent}
use Rattle.trace_text.specs.declared.lines.LineFault.{LineFault}
use Rattle.trace_text.specs.declared.fault.TraceFault.TheVariants as fault
use Rattle.history_sessions.specs.Kept.{IsKept}
use Rattle.history_sessions.specs.Session.{Session, session_after, session_passing, IsTimely}
use Rattle.history_sessions.specs.History.{Passes}
use Rattle.history_sessions.proofs.Timely.{one_moment, timely_after, timely_passing, too_long}
use Rattle.history_text.specs.Lines.{line_of}
use Rattle.history_text.specs.Refusals.{IsRefusal, StepStops}
use Rattle.history_text.specs.Histories.{events_in, events_of, line_then, session_of, PassesLine, AreOfLaw, HasJudged, LineStops}
use Rattle.history_text.specs.declared.reading.Judging.{Judging}
use Rattle.history_text.specs.declared.refusals.Stop.{Stop}
use Rattle.history_text.specs.declared.refusals.Stop.TheVariants as stop
use Rattle.history_text.proofs.LineTexts.{events_more}

session_more : (start : Session) (texts : List (List ℕ)) (text : List ℕ)
    → session_of start (texts ++ text ∷ []) ≡ line_then (session_of start texts) (line_of text)
session_more start texts text = fold-append (λ s x. line_then s (line_of x)) start texts (text ∷ [])

of_law_more : (start : Session) (texts : List (List ℕ)) (text : List ℕ) → AreOfLaw start texts
    → PassesLine (session_of start texts) (line_of text) → AreOfLaw start (texts ++ text ∷ [])
of_law_more start [] text h passes = (passes, tt)
of_law_more start (x ∷ xs) text h passes = (h.0, of_law_more (line_then start (line_of x)) xs text h.1 passes)

module _ {start : Session} {texts : List (List ℕ)} (j j' : Judging) (text : List ℕ) (h : HasJudged start texts j)
    (more : j'.lines ≡ j.lines + 1) where
  judged_more : (said : Result (Option HistoryEvent) LineFault) → line_of text ≡ said
      → IsKept j'.session (line_then (session_of start texts) said) → IsTimely (line_then (session_of start texts) said)
      → (line_then (session_of start texts) said).seen.moment ≡ (session_of start texts).seen.moment + 1
      → PassesLine (session_of start texts) said → j'.events ≡ j.events + length (events_in said) → HasJudged start (texts ++ text ∷ []) j'
  judged_more said says kept timely moment passes events =
      let same : line_then (session_of start texts) said ≡ session_of start (texts ++ text ∷ []) =
      ap (line_then (session_of start texts)) (sym says) ∙ sym (session_more start texts text) in
      let longer = length-append texts (text ∷ []) in
      record {
        kept = subst (IsKept j'.session) same kept;
        timely = subst IsTimely same timely;
        moment = omega (arith, ap (λ (s : Session). s.seen.moment) same, moment, h.moment, longer);
        of_law = of_law_more start texts text h.of_law (subst (PassesLine (session_of start texts)) (sym says) passes);
        events = omega (
          arith,
          events,
          h.events,
          ap length (events_more texts text),
          length-append (events_of texts) (events_in (line_of text)),
          ap (λ r. length (events_in r)) says,
        );
        lines = omega (arith, more, h.lines, longer);
      }

  -- a line that is passed over
  pub judged_passed : line_of text ≡ Ok None → IsKept j'.session (session_passing (session_of start texts)) → j'.events ≡ j.events
      → HasJudged start (texts ++ text ∷ []) j'
  judged_passed says kept events =
      judged_more (Ok None) says kept (timely_passing _ h.timely) refl tt (omega (arith, events))

  -- an event of the law
  pub judged_event : (event : HistoryEvent) → line_of text ≡ Ok (Some event)
      → Passes (session_of start texts).history event × IsKept j'.session (session_after (session_of start texts) event)
      → j'.events ≡ j.events + 1 → HasJudged start (texts ++ text ∷ []) j'
  judged_event event says taken events =
      judged_more (Ok (Some event)) says taken.1 (timely_after _ event h.timely) (one_moment (session_of start texts).seen event) taken.0
      events

-- a line that isn't taken
pub line_stops : (start : Session) (texts : List (List ℕ)) (text : List ℕ) (number : ℕ) (event : HistoryEvent) (why : Stop)
    → line_of text ≡ Ok (Some event) → number ≡ length texts + 1 → number < 2 ^ 64 → IsTimely (session_of start texts)
    → (session_of start texts).seen.moment ≡ length texts → StepStops (session_of start texts) number event why
    → LineStops start texts text why
line_stops start texts text number event (stop.Refused refusal) said at fits timely moment stops =
    (event, said, subst (λ n. IsRefusal (session_of start texts) n event refusal) at stops)
line_stops start texts text number event (stop.Undecided n address) said at fits timely moment stops =
    (event, said, stops.0, omega (arith, at, stops.1))
line_stops start texts text number event (stop.Fault fault.OutOfMemory) said at fits timely moment stops = tt
line_stops start texts text number event (stop.Fault fault.TooManyLines) said at fits timely moment (j, kept, says) =
    absurd (omega (arith, at, fits, moment, timely.events, too_long j (session_of start texts).history event says))
line_stops start texts text number event (stop.Fault (fault.Line n f)) said at fits timely moment stops = absurd stops
line_stops start texts text number event (stop.Fault fault.Read) said at fits timely moment stops = absurd stops
line_stops start texts text number event (stop.Fault fault.Write) said at fits timely moment stops = absurd stops
