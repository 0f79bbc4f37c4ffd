-- What is written of the lines of a history.
use Rattle.std.proofs.Common.{◌≡◌, ℕ, ◌+◌, ◌<◌, ◌⊎◌, Bool, true, false, Option, Result, Ok, Err, List, [], ◌∷◌, ◌++◌, length}
use Rattle.std.proofs.Common.{refl, sym, subst}
use Rattle.std.proofs.Common.{inl, inr, arith}
use Rattle.std.specs.Prelude.{min}
use Rattle.history_sessions.specs.Words.{ByteSet, OpenOperation}
use Rattle.trace_text.specs.Reading.{FirstLine, ReadSoFarWithin, ReadIntoWithin, ReadStopsWithin}
use Rattle.trace_text.specs.Collecting.{ReadsWithin}
use Rattle.trace_text.specs.declared.reading.Stop.{Stop as ReadStop}
use Rattle.trace_text.specs.declared.reading.Stop.TheVariants.{Fault, Halted}
use Rattle.trace_text.specs.declared.fault.TheConstants.{MAX_PAIR}
use Rattle.trace_text.specs.declared.fault.TraceFault.{TraceFault}
use Rattle.trace_text.specs.declared.fault.TraceFault.TheVariants as fault
use Rattle.history_sessions.specs.History.{History}
use Rattle.history_sessions.specs.Kept.{IsKept}
use Rattle.history_sessions.specs.Session.{Session}
use Rattle.history_text.specs.Notes.{byte_address}
use Rattle.history_text.specs.Histories.{most_lines, history_fault, session_of, AreOfLaw, open_in, ended_by, HasJudged, WereJudged}
use Rattle.history_text.specs.Values.{IsReturned, AreSetsFrom, Told, nothing, one_more, TellStops, Flushes, WereTold, WriteStops, Writes}
use Rattle.history_text.specs.Values.{write_stop}
use Rattle.history_text.specs.declared.answers.HistoryEnd.{HistoryEnd}
use Rattle.history_text.specs.declared.answers.HistoryEnd.TheVariants as history
use Rattle.history_text.specs.declared.values.Writing.{Writing}
use Rattle.history_text.specs.declared.refusals.Stop.{Stop}
use Rattle.history_text.specs.declared.refusals.Stop.TheVariants as stop
use Rattle.trace_text.proofs.Serving.{moved_still}
use Rattle.history_text.proofs.Ends.{ends_whole, ends_fault, ends_stopped}

-- the set of one byte more
pub sets_more : (h : History) (load : OpenOperation) (place at : ℕ) (sets : List (Option ByteSet)) (set : Option ByteSet)
    → AreSetsFrom h load place sets → at ≡ place + length sets → IsReturned h load.number (byte_address load at) set
    → AreSetsFrom h load place (sets ++ set ∷ [])
sets_more h load place at [] set are is returned =
    let here : at ≡ place = omega (arith, is) in
    (subst (λ k. IsReturned h load.number (byte_address load k) set) here returned, tt)
sets_more h load place at (s ∷ ss) set are is returned =
    (are.0, sets_more h load (place + 1) at ss set are.1 (omega (arith, is)) returned)

-- a flush behind lines
pub told_flushed : {W : Type 0} {took : W → List ℕ → W → Type 0} {start : Session} {w v u : W} {texts : List (List ℕ)}
    → Told took start w texts v → 0 < length texts → took v [] u → Told took start w texts u
told_flushed nothing some flush = absurd (omega (arith, some))
told_flushed (one_more texts text out v u told is moves) some flush = one_more texts text out v _ told is (moved_still moves flush)

-- a line that wasn't written
pub tell_stops : {W : Type 0} (took : W → List ℕ → W → Type 0) (refused : W → W → Type 0) (start : Session) (w v u : W)
    (texts : List (List ℕ)) (text : List ℕ) (why : Stop)
    → Told took start w texts v → TellStops took refused (session_of start texts) text v u why
    → WriteStops took refused start w texts text u why
tell_stops took refused start w v u texts text (stop.Fault fault.OutOfMemory) told stops = tt
tell_stops took refused start w v u texts text (stop.Fault fault.Write) told (out, is, stopped) = grind arith
tell_stops took refused start w v u texts text (stop.Fault (fault.Line n f)) told stops = absurd stops
tell_stops took refused start w v u texts text (stop.Fault fault.TooManyLines) told stops = absurd stops
tell_stops took refused start w v u texts text (stop.Fault fault.Read) told stops = absurd stops
tell_stops took refused start w v u texts text (stop.Refused refusal) told stops = absurd stops
tell_stops took refused start w v u texts text (stop.Undecided line address) told stops = absurd stops

-- a pause behind lines
pub told_after : {W : Type 0} {took : W → List ℕ → W → Type 0} {start : Session} {w v u : W} {texts : List (List ℕ)} (due : Bool)
    → Told took start w texts v → (due ≡ true → 0 < length texts) → Flushes took due v u → Told took start w texts u
told_after true told some flush = told_flushed told (some refl) flush
told_after {took = took} {start = start} {w = w} {texts = texts} false told some same = subst (Told took start w texts) (sym same) told

-- ---- how a reading ends

module _ {R W : Type 0} (gave : R → List ℕ → R → Type 0) (failed : R → R → Type 0) (took : W → List ℕ → W → Type 0)
    (refused unflushed : W → W → Type 0) (start : Session) (r r' : R) (w w' : W) (texts : List (List ℕ)) where
  pub writes_fault : (f : TraceFault) → ReadStopsWithin gave failed history_fault MAX_PAIR most_lines r r' texts f → AreOfLaw start texts
      → Told took start w texts w' → Writes gave failed took refused unflushed start r r' w w' (Err f)
  writes_fault fault.Write stops of_law told = absurd stops
  writes_fault f stops of_law told = ends_fault gave failed r r' start (λ l. Told took start w l w') texts f stops of_law told

  -- a flush was refused
  pub writes_unflushed : (rest : List ℕ) (v : W) (why : Stop) → AreOfLaw start texts → Told took start w texts v → unflushed v w'
      → why ≡ stop.Fault fault.Write → (ReadSoFarWithin gave history_fault MAX_PAIR most_lines r r' texts rest
      ⊎ ReadIntoWithin gave history_fault MAX_PAIR most_lines r r' texts rest)
      → Writes gave failed took refused unflushed start r r' w w' (ended_by why)
  writes_unflushed rest v why of_law told stays is read = rw is (texts, rest, of_law, inl (v, told, stays, read))

  -- a line wasn't taken
  pub writes_stopped : (rest : List ℕ) (why : Stop) → ReadIntoWithin gave history_fault MAX_PAIR most_lines r r' texts rest
      → AreOfLaw start texts → FirstLine history_fault MAX_PAIR (λ text. WriteStops took refused start w texts text w' why) rest
      → Writes gave failed took refused unflushed start r r' w w' (ended_by why)
  writes_stopped rest (stop.Fault fault.OutOfMemory) into of_law first = tt
  writes_stopped rest (stop.Fault fault.Write) into of_law first = (texts, rest, of_law, inr (into, first))
  writes_stopped rest (stop.Refused refusal) into of_law first =
      ends_stopped gave failed r r' start (λ l. Told took start w l w') texts rest (stop.Refused refusal) into of_law first
  writes_stopped rest (stop.Undecided line address) into of_law first =
      ends_stopped gave failed r r' start (λ l. Told took start w l w') texts rest (stop.Undecided line address) into of_law first
  writes_stopped rest (stop.Fault f) into of_law (text, more, is, good, stops) = absurd stops.0

module _ {R W : Type 0} (gave : R → List ℕ → R → Type 0) (failed : R → R → Type 0) (took : W → List ℕ → W → Type 0)
    (refused unflushed : W → W → Type 0) (start : Session) (r r' : R) (c c' : Writing W) where
  abbrev WritingReads : Result (Unit {0}) ReadStop → Type 0
  WritingReads = ReadsWithin gave failed history_fault
      (λ s texts t. WereJudged s.judging.now texts t.judging.now × WereTold took s.judging.now s.writer.now texts t.writer.now
      × (t.due ≡ true → 0 < length texts))
      (λ s text t. (other : Session) (texts : List (List ℕ)) (first : W) → HasJudged other texts s.judging.now
      → Told took other first texts s.writer.now → WriteStops took refused other first texts text t.writer.now t.judging.now.stop)
      (λ s t. Flushes took s.due s.writer.now t.writer.now × (t.judging.now ≡ s.judging.now))
      (λ s t. unflushed s.writer.now t.writer.now × (t.judging.now.stop ≡ write_stop)) MAX_PAIR most_lines r r' c c'

  pub writes_whole : (end : HistoryEnd) → HasJudged start [] c.judging.now → WritingReads (Ok tt)
      → ((s : Session) → IsKept c'.judging.now.session s
      → end ≡ history.OfLaw c'.judging.now.events (min (open_in s) 18446744073709551615))
      → Writes gave failed took refused unflushed start r r' c.writer.now c'.writer.now (Ok end)
  writes_whole end begun reads is =
      let h = subst (HasJudged start reads.0) (sym reads.4.1) (reads.3.0.each start begun) in
      ends_whole gave failed r r' start (λ l. Told took start c.writer.now l c'.writer.now) c'.judging.now end reads.2 h
      (told_after reads.1.due (reads.3.1 start begun) reads.3.2 reads.4.0) (is _ h.kept)

  fault_written : (f : TraceFault) → HasJudged start [] c.judging.now → WritingReads (Err (Fault f))
      → Writes gave failed took refused unflushed start r r' c.writer.now c'.writer.now (Err f)
  fault_written f begun reads =
      writes_fault gave failed took refused unflushed start r r' c.writer.now c'.writer.now reads.0 f reads.2
      (reads.3.0.each start begun).of_law (told_after reads.1.due (reads.3.1 start begun) reads.3.2 reads.4.0)

  pub told_fault : (s : ReadStop) (f : TraceFault) → HasJudged start [] c.judging.now → s ≡ Fault f → WritingReads (Err s)
      → Writes gave failed took refused unflushed start r r' c.writer.now c'.writer.now (Err f)
  told_fault s f begun is reads = fault_written f begun (subst (λ x. WritingReads (Err x)) is reads)

  halted_written : HasJudged start [] c.judging.now → WritingReads (Err Halted)
      → Writes gave failed took refused unflushed start r r' c.writer.now c'.writer.now (ended_by c'.judging.now.stop)
  halted_written begun (texts, rest, v, went, ends) =
      let h = went.0.each start begun in
      let told = went.1 start begun in
      let stays = writes_unflushed gave failed took refused unflushed start r r' c.writer.now c'.writer.now texts rest
      v.writer.now c'.judging.now.stop h.of_law told in
      elim ends [
        | inl before ↦ stays before.1.0 before.1.1 (inl before.0)
        | inr into ↦ elim into.1 [
          | inl stop ↦ stays stop.0 stop.1 (inr into.0)
          | inr line ↦
              let first = line.1 in
              writes_stopped gave failed took refused unflushed start r r' c.writer.now c'.writer.now texts rest
              c'.judging.now.stop into.0 h.of_law
              (first.0, first.1, first.2, first.3, first.4 start texts c.writer.now h told)
        ]
      ]

  pub told_halted : (s : ReadStop) → HasJudged start [] c.judging.now → s ≡ Halted → WritingReads (Err s)
      → Writes gave failed took refused unflushed start r r' c.writer.now c'.writer.now (ended_by c'.judging.now.stop)
  told_halted s begun is reads = halted_written begun (subst (λ x. WritingReads (Err x)) is reads)
