-- How long a run is that was measured as it was driven.
use Rattle.std.proofs.Common.{◌≡◌, ℕ, zero, suc, ◌+◌, ◌<◌, ◌≤◌, Bool, true, false, nat_lt, if◌then◌else◌, cond, List, [], ◌∷◌, ◌++◌}
use Rattle.std.proofs.Common.{append_assoc, append-nil, length, refl, sym, ap, subst, ◌∙◌, inl, inr, arith}
use Rattle.std.specs.Prelude.{Result, Ok, Err, IfOk, IfErr, OnOk, OnErr}
use Rattle.std.specs.List.{FoldsTo, concat, list_all}
use Rattle.std.specs.Global.{Vec}
use Rattle.std.proofs.lemmas.Bool.{ltb-true, ltb-false}
use Rattle.std.proofs.lemmas.List.Sums.{sum_by-append}
use Rattle.kroft_jobs.specs.Words.{Event, TraceFault, Timing}
use Rattle.register_sweeps.specs.Machine.{MachineState}
use Rattle.register_sweeps.specs.Whole.{IsWholeState}
use Rattle.trace_text.specs.Codes.{most_lines}
use Rattle.trace_text.specs.Streams.{Moves, Stopped}
use Rattle.trace_text.specs.declared.fault.TraceFault.TheVariants.{Write, OutOfMemory}
use Rattle.round_driver.specs.declared.note.Note.{Note}
use Rattle.round_driver.specs.Rounds.{Run, Course, asked, moves, course, next_round, after_round, is_over, rounds_until_over, start_of}
use Rattle.round_driver.specs.Rounds.{most_rounds, whole_run}
use Rattle.round_driver.specs.Walks.{is_request, IsOverInTime, RequestsEnd}
use Rattle.round_driver.specs.Written.{run_text, BreaksOff}
use Rattle.round_driver.proofs.Ends.{requests_end}
use Rattle.round_driver.proofs.Runs.{stays, goes, round_over, text_then}
use Rattle.kroft_jobs.specs.Driving.{IsDriven, IsToldAndDriven}
use Rattle.kroft_jobs.specs.Lengths.{is_end, line_count, whole_text, Measured, IsMeasured, length_of}
use Rattle.kroft_jobs.specs.Writing.{IsPut, IsCut, IsOffered}
use Rattle.kroft_jobs.specs.declared.lengths.RunMeasure.{RunMeasure}
use Rattle.kroft_jobs.specs.declared.lengths.RunLength.TheVariants.{Kept, Readable, TooLong}

lines_then : (xs ys : List ℕ) → line_count (xs ++ ys) ≡ line_count xs + line_count ys
lines_then xs ys = sum_by-append (λ x. cond (is_end x) 1 0) xs ys

-- ---- what was taken, piece by piece

measured_none : (s : RunMeasure) → Measured s [] s
measured_none s = record { lines = omega arith; kept = λ is. (is, sym (append-nil s.text.items)) }

measured_then : (s t u : RunMeasure) (xs ys : List ℕ) → Measured s xs t → Measured t ys u → Measured s (xs ++ ys) u
measured_then s t u xs ys p q = record {
  lines = let both = lines_then xs ys in omega (arith, p.lines, q.lines, both);
  kept = λ is.
      let later = q.kept is in
      let before = p.kept later.0 in
      (before.0, later.1 ∙ ap (λ l. l ++ ys) before.1 ∙ append_assoc s.text.items xs ys);
}

measured_pieces : (pieces : List (List ℕ)) (s t : RunMeasure) → FoldsTo Measured s pieces t → Measured s (concat pieces) t
measured_pieces [] s t same = subst (λ u. Measured s [] u) same (measured_none s)
measured_pieces (x ∷ xs) s t steps = measured_then s steps.0 t x (concat xs) steps.1 (measured_pieces xs steps.0 t steps.2)

measured_all : (s t : RunMeasure) (bytes : List ℕ) → Moves Measured s bytes t → Measured s bytes t
measured_all s t bytes moved = subst (λ l. Measured s l t) moved.whole (measured_pieces moved.pieces s t moved.steps)

-- ---- what was told stays

after_told : (r : Run) → (notes : List Note) × ((after_round r).told ≡ r.told ++ notes)
unfolding after_round
after_told r = go r.left (moves (course r.state (next_round r.schedule) []))
  where
    go : (left : List Event) (c : Course) → (notes : List Note) × ((asked r.told left c).told ≡ r.told ++ notes)
    go [] c = (_, refl)
    go (event ∷ rest) c = (_, refl)

grown : (n : ℕ) (r : Run) → (notes : List Note) × ((rounds_until_over n r).told ≡ r.told ++ notes)
unfolding rounds_until_over
grown zero r = ([], sym (append-nil r.told))
grown (suc n) r = go (is_over r) refl (grown n (after_round r))
  where
    go : (over : Bool) → is_over r ≡ over
        → (notes : List Note) × ((rounds_until_over n (after_round r)).told ≡ (after_round r).told ++ notes)
        → (notes : List Note) × ((rounds_until_over (suc n) r).told ≡ r.told ++ notes)
    go true e later = ([], ap (λ q. q.told) (stays (suc n) r e) ∙ sym (append-nil r.told))
    go false e later =
        let first = after_told r in
        let told = ap (λ q. q.told) (goes n r e) ∙ later.1 ∙ ap (λ l. l ++ later.0) first.1 in
        (first.0 ++ later.0, told ∙ append_assoc r.told first.0 later.0)

-- what is told in the first rounds is a front of what is told in more
fronts : (n m : ℕ) (r : Run) → n ≤ m → (notes : List Note) × ((rounds_until_over m r).told ≡ (rounds_until_over n r).told ++ notes)
unfolding rounds_until_over
fronts zero m r le = grown m r
fronts (suc n) zero r le = absurd (omega (arith, le))
fronts (suc n) (suc m) r le = go (is_over r) refl (fronts n m (after_round r) (omega (arith, le)))
  where
    go : (over : Bool) → is_over r ≡ over
        → (notes : List Note) × ((rounds_until_over m (after_round r)).told ≡ (rounds_until_over n (after_round r)).told ++ notes)
        → (notes : List Note) × ((rounds_until_over (suc m) r).told ≡ (rounds_until_over (suc n) r).told ++ notes)
    go true e later =
        let same = ap (λ q. q.told) (stays (suc m) r e ∙ sym (stays (suc n) r e)) in
        ([], same ∙ sym (append-nil (rounds_until_over (suc n) r).told))
    go false e later = (later.0, ap (λ q. q.told) (goes m r e) ∙ later.1 ∙ ap (λ q. q.told ++ later.0) (sym (goes n r e)))

module _ (timing : Timing) (s : MachineState) (requests : List Event) where
  abbrev start : Run
  start = start_of timing s requests

  -- what any number of rounds writes is a front of what the whole run writes
  front_of_run : (n : ℕ) → IsOverInTime timing s requests
      → (rest : List ℕ) × (whole_text timing s requests ≡ run_text (rounds_until_over n start).told ++ rest)
  front_of_run n over = go (nat_lt n most) refl
    where
      most : ℕ
      most = most_rounds s.sizes timing.latency (length requests)

      go : (fewer : Bool) → nat_lt n most ≡ fewer
          → (rest : List ℕ) × (whole_text timing s requests ≡ run_text (rounds_until_over n start).told ++ rest)
      go true e =
          let less = ltb-true n most e in
          let told = fronts n most start (omega (arith, less)) in
          (run_text told.0, ap run_text told.1 ∙ text_then (rounds_until_over n start).told told.0)
      go false e =
          let more = ltb-false n most e in
          let same = ap (λ q. run_text q.told) (round_over most n start more over.over) in
          ([], sym same ∙ sym (append-nil (run_text (rounds_until_over n start).told)))

  -- ---- what is known at the end

  abbrev IsDrivenInto : (first last : RunMeasure) → Result ℕ TraceFault → Type 0
  IsDrivenInto first last = IsDriven Measured (λ m m'. most_lines < m.lines) timing s requests first last

  pub whole_measured : (first last : RunMeasure) (rounds : ℕ) → first.lines ≡ 0 → first.text.items ≡ []
      → IsDriven Measured (λ m m'. most_lines < m.lines) timing s requests first last (Ok rounds)
      → IsMeasured timing s requests (length_of last rounds)
  whole_measured first last rounds none empty driven = go (nat_lt most_lines last.lines) refl last.is_kept refl
    where
      measured : Measured first (whole_text timing s requests) last
      measured = measured_all first last (whole_text timing s requests) driven.0

      count : last.lines ≡ line_count (whole_text timing s requests)
      count = omega (arith, measured.lines, none)

      go : (long : Bool) → nat_lt most_lines last.lines ≡ long → (kept : Bool) → last.is_kept ≡ kept
          → IsMeasured timing s requests (if long then TooLong else (if kept then Kept last.text rounds else Readable))
      go true e kept k = subst (λ n. most_lines < n) count (ltb-true most_lines last.lines e)
      go false e true k =
          let text = (measured.kept k).1 ∙ ap (λ l. l ++ whole_text timing s requests) empty in
          (text, subst (λ n. n ≤ most_lines) count (ltb-false most_lines last.lines e), driven.1, driven.2)
      go false e false k = subst (λ n. n ≤ most_lines) count (ltb-false most_lines last.lines e)

  pub front_measured : (first last : RunMeasure) (fault : TraceFault) → first.lines ≡ 0 → fault ≡ Write
      → IsDriven Measured (λ m m'. most_lines < m.lines) timing s requests first last (Err fault)
      → IsMeasured timing s requests TooLong
  front_measured first last fault none is driven = go (subst (λ f. IsDrivenInto first last (Err f)) is driven)
    where
      go : IsDrivenInto first last (Err Write) → IsMeasured timing s requests TooLong
      go broken =
          let stopped = broken.0 in
          let lines = (measured_all first stopped.last stopped.front stopped.moved).lines in
          let all = ap line_count stopped.whole ∙ lines_then stopped.front stopped.back in
          omega (arith, none, lines, stopped.refusal, all)

  -- ---- what is written

  module _ {W : Type 0} (took : W → List ℕ → W → Type 0) (refused : W → W → Type 0) (old new : W) where
    -- a driving, of a machine that is whole, ends in time even if its writing breaks off
    pub run_driven : list_all is_request requests ≡ true → IsWholeState s → (left : MachineState) (result : Result ℕ TraceFault)
        → IfOk result (λ n. n ≡ (whole_run timing s requests).schedule.round + 1)
        → OnOk result (RequestsEnd timing s requests) → OnOk result (Moves took old (whole_text timing s requests) new)
        → IfErr result (BreaksOff took refused old start new left)
        → IsDriven took refused timing s requests old new result
    run_driven all whole left (Ok n) count over written broken = (written, over all, count)
    run_driven all whole left (Err Write) count over written broken =
        let over = requests_end timing s requests whole all in
        let stopped = broken.1.0 in
        let more = front_of_run (broken.0 + 1) over in (
          record {
            front = stopped.front;
            back = stopped.back ++ more.0;
            whole = more.1 ∙ ap (λ l. l ++ more.0) stopped.whole ∙ append_assoc stopped.front stopped.back more.0;
            last = stopped.last;
            moved = stopped.moved;
            refusal = stopped.refusal;
          },
          over,
        )
    run_driven all whole left (Err OutOfMemory) count over written broken =
        inr (broken.0, broken.1, requests_end timing s requests whole all)
    run_driven all whole left (Err fault) count over written broken = absurd broken.1

    -- a run that was kept is written, and not told of
    pub kept_driven : {E : Type 0} (noted : E → List ℕ → E → Type 0) (unnoted unsettled : E → E → Type 0) (errors : E)
        (text : Vec ℕ) (bytes : List ℕ) (rounds : ℕ) → IsMeasured timing s requests (Kept text rounds) → bytes ≡ text.items
        → (result : Result ℕ TraceFault) → OnOk result (Moves took old bytes new) → IfOk result (λ told. told ≡ rounds)
        → OnErr result (Stopped took refused old bytes new) → IfErr result (λ fault. fault ≡ Write)
        → IsToldAndDriven took refused noted unnoted unsettled timing s requests old new errors errors result
    kept_driven noted unnoted unsettled errors text bytes rounds measured same (Ok told) moved count stopped fault =
        let all = subst (λ l. Moves took old l new) (same ∙ measured.0) moved in
        inl (inr (measured.1, refl), (all, measured.2, count ∙ measured.3))
    kept_driven noted unnoted unsettled errors text bytes rounds measured same (Err f) moved count stopped fault =
        let front = subst (λ l. Stopped took refused old l new) (same ∙ measured.0) stopped in
        inl (inr (measured.1, refl), subst (λ e. IsDriven took refused timing s requests old new (Err e)) (sym fault) (front, measured.2))

pub offered : {E X : Type 0} (took : E → List ℕ → E → Type 0) (refused unflushed : E → E → Type 0) (old : E) (text : List ℕ) (new : E)
    (result : Result X TraceFault) → OnOk result (IsPut took old text new) → OnErr result (IsCut took refused unflushed old text new)
    → IsOffered took refused unflushed old text new
offered took refused unflushed old text new (Ok done) put cut = inl put
offered took refused unflushed old text new (Err f) put cut = inr cut
