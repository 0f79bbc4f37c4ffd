-- How the judging of a history ends.
use Rattle.std.proofs.Common.{◌≡◌, ℕ, Result, Ok, Err, List, [], ◌∷◌, ◌++◌, sym, subst, inl, inr, arith}
use Rattle.std.specs.Prelude.{min}
use Rattle.trace_text.specs.Reading.{FirstLine, ReadIntoWithin, ReadWholeWithin, ReadStopsWithin}
use Rattle.trace_text.specs.Collecting.{ReadsWithin}
use Rattle.trace_text.specs.declared.reading.Stop.{Stop as ReadStop}
use Rattle.trace_text.specs.declared.reading.Stop.TheVariants.{Fault, Halted}
use Rattle.trace_text.specs.declared.fault.TheConstants.{MAX_PAIR}
use Rattle.trace_text.specs.declared.fault.TraceFault.{TraceFault}
use Rattle.trace_text.specs.declared.fault.TraceFault.TheVariants as fault
use Rattle.history_sessions.specs.Kept.{IsKept}
use Rattle.history_sessions.specs.Session.{Session}
use Rattle.history_text.specs.Histories.{most_lines, history_fault, session_of, AreOfLaw, open_in, LineEnds, JudgesWith, Judges}
use Rattle.history_text.specs.Histories.{ended_by, HasJudged, WereJudged, LineStops}
use Rattle.history_text.specs.declared.answers.HistoryEnd.{HistoryEnd}
use Rattle.history_text.specs.declared.answers.HistoryEnd.TheVariants as history
use Rattle.history_text.specs.declared.reading.Judging.{Judging}
use Rattle.history_text.specs.declared.refusals.Stop.{Stop}
use Rattle.history_text.specs.declared.refusals.Stop.TheVariants as stop

module _ {R : Type 0} (gave : R → List ℕ → R → Type 0) (failed : R → R → Type 0) (r r' : R) where
  module _ (start : Session) (told : List (List ℕ) → Type 0) where
    pub ends_fault : (texts : List (List ℕ)) (f : TraceFault) → ReadStopsWithin gave failed history_fault MAX_PAIR most_lines r r' texts f
        → AreOfLaw start texts → told texts → JudgesWith gave failed start told r r' (Err f)
    ends_fault texts fault.OutOfMemory stops of_law tells = tt
    ends_fault texts f stops of_law tells = (texts, stops, of_law, tells)

    ends_line : (texts : List (List ℕ)) (rest : List ℕ) (end : HistoryEnd)
        → ReadIntoWithin gave history_fault MAX_PAIR most_lines r r' texts rest → AreOfLaw start texts
        → FirstLine history_fault MAX_PAIR (λ text. LineEnds start texts text end × told (texts ++ text ∷ [])) rest
        → JudgesWith gave failed start told r r' (Ok end)
    ends_line texts rest (history.OfLaw events still_open) into of_law (text, more, is, good, ends) = absurd ends.0
    ends_line texts rest end into of_law first = (texts, rest, into, of_law, first)

    pub ends_stopped : (texts : List (List ℕ)) (rest : List ℕ) (why : Stop)
        → ReadIntoWithin gave history_fault MAX_PAIR most_lines r r' texts rest → AreOfLaw start texts
        → FirstLine history_fault MAX_PAIR (λ text. LineStops start texts text why × told (texts ++ text ∷ [])) rest
        → JudgesWith gave failed start told r r' (ended_by why)
    ends_stopped texts rest (stop.Refused refusal) into of_law first = ends_line texts rest (history.Refused refusal) into of_law first
    ends_stopped texts rest (stop.Undecided line address) into of_law first =
        ends_line texts rest (history.Undecided line address) into of_law first
    ends_stopped texts rest (stop.Fault fault.OutOfMemory) into of_law first = tt
    ends_stopped texts rest (stop.Fault f) into of_law (text, more, is, good, stops) = absurd stops.0

    pub ends_whole : {texts : List (List ℕ)} (j : Judging) (end : HistoryEnd)
        → ReadWholeWithin gave history_fault MAX_PAIR most_lines r r' texts → HasJudged start texts j → told texts
        → end ≡ history.OfLaw j.events (min (open_in (session_of start texts)) 18446744073709551615)
        → JudgesWith gave failed start told r r' (Ok end)
    ends_whole {texts = texts} j end whole h tells is =
        let still_open : min (open_in (session_of start texts)) 18446744073709551615 ≡ open_in (session_of start texts) =
        omega (arith, h.timely.open_, h.moment, whole.1.within) in
        subst (λ e. JudgesWith gave failed start told r r' (Ok e)) (sym is)
        (texts, whole, h.of_law, tells, h.events, still_open)

-- ---- what is judged alone

module _ {R : Type 0} (gave : R → List ℕ → R → Type 0) (failed : R → R → Type 0) (start : Session) (r r' : R) (c c' : Judging) where
  abbrev JudgingReads : Result (Unit {0}) ReadStop → Type 0
  JudgingReads = ReadsWithin gave failed history_fault WereJudged
      (λ s text t. (other : Session) (texts : List (List ℕ)) → HasJudged other texts s → LineStops other texts text t.stop)
      (λ s t. t ≡ s) (λ s t. ⊥) MAX_PAIR most_lines r r' c c'

  -- (what `end` gives, of any session that is kept)
  pub judges_whole : (end : HistoryEnd) → HasJudged start [] c → JudgingReads (Ok tt)
      → ((s : Session) → IsKept c'.session s → end ≡ history.OfLaw c'.events (min (open_in s) 18446744073709551615))
      → Judges gave failed start r r' (Ok end)
  judges_whole end begun reads is =
      let h = subst (HasJudged start reads.0) (sym reads.4) (reads.3.each start begun) in
      ends_whole gave failed r r' start (λ texts. Unit {0}) c' end reads.2 h tt (is _ h.kept)

  fault_judged : (f : TraceFault) → HasJudged start [] c → JudgingReads (Err (Fault f)) → Judges gave failed start r r' (Err f)
  fault_judged f begun reads =
      ends_fault gave failed r r' start (λ texts. Unit {0}) reads.0 f reads.2 (reads.3.each start begun).of_law tt

  pub judges_fault : (s : ReadStop) (f : TraceFault) → HasJudged start [] c → s ≡ Fault f → JudgingReads (Err s)
      → Judges gave failed start r r' (Err f)
  judges_fault s f begun is reads = fault_judged f begun (subst (λ x. JudgingReads (Err x)) is reads)

  halted_judged : HasJudged start [] c → JudgingReads (Err Halted) → Judges gave failed start r r' (ended_by c'.stop)
  halted_judged begun (texts, rest, v, were, ends) =
      let h = were.each start begun in
      elim ends [
        | inl before ↦ absurd before.1
        | inr into ↦ elim into.1 [
          | inl stays ↦ absurd stays
          | inr line ↦
              let first = line.1 in
              ends_stopped gave failed r r' start (λ l. Unit {0}) texts rest c'.stop into.0 h.of_law
              (first.0, first.1, first.2, first.3, (first.4 start texts h, tt))
        ]
      ]

  pub judges_halted : (s : ReadStop) → HasJudged start [] c → s ≡ Halted → JudgingReads (Err s)
      → Judges gave failed start r r' (ended_by c'.stop)
  judges_halted s begun is reads = halted_judged begun (subst (λ x. JudgingReads (Err x)) is reads)
