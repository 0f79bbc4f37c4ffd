-- The lines of a sheet, graded one after another.
use Rattle.std.proofs.Common.{◌≡◌, ℕ, ◌+◌, ◌≤◌, Bool, cond, Option, Some, None, Result, Ok, Err, List, [], ◌∷◌, ◌++◌, map, length}
use Rattle.std.proofs.Common.{length-append}
use Rattle.std.proofs.Common.{append-nil, append_assoc, refl, sym, ◌∙◌, ap, subst, inl, inr, arith}
use Rattle.std.specs.List.{flat_map}
use Rattle.std.proofs.lemmas.Grind.{flat_map-append}
use Rattle.machine_core.specs.Machine.{MachineState}
use Rattle.run_pictures.specs.Words.{step_words}
use Rattle.trace_text.specs.Collecting.{Reads}
use Rattle.trace_text.specs.Texts.{after_line}
use Rattle.trace_text.specs.declared.fault.TheConstants.{MAX_PAIR}
use Rattle.trace_text.specs.declared.fault.TraceFault.{TraceFault}
use Rattle.trace_text.specs.declared.fault.TraceFault.TheVariants.{OutOfMemory}
use Rattle.trace_text.specs.declared.reading.Stop.{Stop}
use Rattle.trace_text.specs.declared.reading.Stop.TheVariants.{Fault, Halted}
use Rattle.trace_text.specs.declared.lines.Line.{Line}
use Rattle.trace_text.specs.declared.lines.Line.TheVariants as line
use Rattle.trace_text.specs.declared.lines.LineFault.{LineFault}
use Rattle.named_fields.specs.declared.format.Format.{Format}
use Rattle.trace_sheets.specs.Ends.{SheetStops, at, ended_gave, ended_failed}
use Rattle.trace_sheets.specs.Sheets.{is_prediction, SheetLine, sheet_fault, sheet_line, without_blanks}
use Rattle.trace_sheets.specs.Grades.{Asked, Graded, GradesOne, came_of, why_of, why_for, why_behind, why_told, mark, mark_of, told_if}
use Rattle.trace_sheets.specs.Grades.{correction, after_said}
use Rattle.trace_sheets.specs.Grades.{LeavesBehind, after_texts, asked, asked_of, asked_in, asked_from, no_score, with_mark, score_of}
use Rattle.trace_sheets.specs.Forms.{answers_text, full_text, told, total}
use Rattle.trace_sheets.specs.declared.came.Came.{Came}
use Rattle.trace_sheets.specs.declared.ended.Place.{Place}
use Rattle.trace_sheets.specs.declared.ended.Place.TheVariants.{Begin}
use Rattle.trace_sheets.specs.declared.score.Marking.{Marking}
use Rattle.trace_sheets.specs.declared.score.Mark.{Mark}
use Rattle.trace_sheets.specs.declared.score.Mark.TheVariants.{Right, Wrong, Open}
use Rattle.trace_sheets.specs.declared.score.Score.{Score}

-- ---- one line more

pub after_more : (m : MachineState) (texts : List (List ℕ)) (text : List ℕ)
    → after_texts m (texts ++ text ∷ []) ≡ after_said (after_texts m texts) (sheet_line text)
after_more m [] text = refl
after_more m (t ∷ ts) text = after_more (after_said m (sheet_line t)) ts text

asked_more : (n : ℕ) (m : MachineState) (texts : List (List ℕ)) (text : List ℕ)
    → asked_from n m (texts ++ text ∷ [])
    ≡ asked_from n m texts ++ asked_in (n + length texts) (after_texts m texts) (without_blanks text) (sheet_line text)
asked_more n m [] text =
    append-nil (asked_in n m (without_blanks text) (sheet_line text))
    ∙ ap (λ k. asked_in k m (without_blanks text) (sheet_line text)) (omega arith)
asked_more n m (t ∷ ts) text =
    let next = after_said m (sheet_line t) in
    let last : ℕ → List Asked = λ k. asked_in k (after_texts next ts) (without_blanks text) (sheet_line text) in
    let front = asked_in n m (without_blanks t) (sheet_line t) in
    let number : (n + 1) + length ts ≡ n + length (t ∷ ts) = omega arith in
    ap (λ l. front ++ l) (asked_more (n + 1) next ts text)
    ∙ sym (append_assoc front (asked_from (n + 1) next ts) (last ((n + 1) + length ts)))
    ∙ ap (λ k. (front ++ asked_from (n + 1) next ts) ++ last k) number

-- ---- why

-- what the machine behind a line tells of the one before it
pub why_same : (m : MachineState) (l : Line) → why_behind (after_line m l) (came_of m l) ≡ why_of m l
unfolding after_line step_words
why_same m (line.Event event) = refl
why_same m (line.Register slot) = refl
why_same m (line.Bank at) = refl
why_same m line.Settled = refl

why_is : (m : MachineState) (l : Line) (said : List ℕ) → why_told (after_line m l) (came_of m l) (is_prediction l said) ≡ why_for m l said
why_is m l said = ap (λ w. cond (is_prediction l said) w (Some (answers_text (came_of m l)))) (why_same m l)

-- what is told of a line is told of its prediction
pub told_behind : (format : Format) (marking : Marking) (n : ℕ) (m s : MachineState) (text : List ℕ) (l : Line) (said : List ℕ)
    (came : Came) (is_readable : Bool)
    → came ≡ came_of m l → s ≡ after_line m l → is_readable ≡ is_prediction l said
    → told_if (mark_of marking came said) (told format n text said (full_text came) (why_told s came is_readable))
    ≡ correction format marking (asked_of n m text l said)
told_behind format marking n m s text l said came is_readable is stands readable =
    let tells : Came → Option (List ℕ) → List ℕ = λ x why. told_if (mark_of marking x said) (told format n text said (full_text x) why) in
    ap (λ x. tells x (why_told s x is_readable)) is
    ∙ ap (λ z. tells (came_of m l) (why_told z (came_of m l) is_readable)) stands
    ∙ ap (λ t. tells (came_of m l) (why_told (after_line m l) (came_of m l) t)) readable
    ∙ ap (tells (came_of m l)) (why_is m l said)

-- ---- scores

swap : (s : Score) (a b : Mark) → with_mark (with_mark s a) b ≡ with_mark (with_mark s b) a
swap s Right Right = refl
swap s Right Wrong = refl
swap s Right Open = refl
swap s Wrong Right = refl
swap s Wrong Wrong = refl
swap s Wrong Open = refl
swap s Open Right = refl
swap s Open Wrong = refl
swap s Open Open = refl

score_more : (marks : List Mark) (k : Mark) → score_of (marks ++ k ∷ []) ≡ with_mark (score_of marks) k
score_more [] k = refl
score_more (m ∷ ms) k = ap (λ s. with_mark s m) (score_more ms k) ∙ swap (score_of ms) k m

map_more : (marking : Marking) (xs : List Asked) (a : Asked)
    → map (mark marking) (xs ++ a ∷ []) ≡ map (mark marking) xs ++ mark marking a ∷ []
map_more marking [] a = refl
map_more marking (x ∷ xs) a = ap (λ l. mark marking x ∷ l) (map_more marking xs a)

one_more : (s : Score) (k : Mark) → total (with_mark s k) ≡ total s + 1
one_more s Right = omega arith
one_more s Wrong = omega arith
one_more s Open = omega arith

total_is : (marks : List Mark) → total (score_of marks) ≡ length marks
total_is [] = refl
total_is (k ∷ ks) = omega (arith, one_more (score_of ks) k, total_is ks)

map_length : (marking : Marking) (xs : List Asked) → length (map (mark marking) xs) ≡ length xs
map_length marking [] = refl
map_length marking (x ∷ xs) = omega (arith, map_length marking xs)

one_at_most : (n : ℕ) (m : MachineState) (text : List ℕ) (said : Result (Option SheetLine) LineFault)
    → length (asked_in n m text said) ≤ 1
one_at_most n m text (Err fault) = omega arith
one_at_most n m text (Ok None) = omega arith
one_at_most n m text (Ok (Some (line, None))) = omega arith
one_at_most n m text (Ok (Some (line, Some said))) = omega arith

asked_few : (n : ℕ) (m : MachineState) (texts : List (List ℕ)) → length (asked_from n m texts) ≤ length texts
asked_few n m [] = omega arith
asked_few n m (t ∷ ts) =
    let next = after_said m (sheet_line t) in
    let front = asked_in n m (without_blanks t) (sheet_line t) in
    let one = one_at_most n m (without_blanks t) (sheet_line t) in
    omega (arith, asked_few (n + 1) next ts, one, length-append front (asked_from (n + 1) next ts))

-- no more predictions are counted than there are lines
pub few_marks : {format : Format} {marking : Marking} {m m' : MachineState} {texts : List (List ℕ)} {report : List ℕ} {score : Score}
    → Graded format marking m texts m' report score → total score ≤ length texts
few_marks {marking = marking} {m = m} {texts = texts} g =
    let all = asked m texts in
    let counted : total (score_of (map (mark marking) all)) ≡ length all = total_is (map (mark marking) all) ∙ map_length marking all in
    omega (arith, ap total g.marks, counted, asked_few 1 m texts)

-- no line yet
pub graded_none : (format : Format) (marking : Marking) (m : MachineState) {report : List ℕ} {score : Score}
    → report ≡ [] → score ≡ no_score → Graded format marking m [] m report score
graded_none format marking m none zero = record { state = refl; told = none; marks = zero }

-- ---- a sheet with one line more

module _ {format : Format} {marking : Marking} {m m' : MachineState} {texts : List (List ℕ)} {report : List ℕ} {score : Score}
    (g : Graded format marking m texts m' report score) (text : List ℕ) where
  -- what is asked in it
  abbrev last : Result (Option SheetLine) LineFault → List Asked
  last said = asked_in (1 + length texts) m' (without_blanks text) said

  behind : asked m (texts ++ text ∷ []) ≡ asked m texts ++ last (sheet_line text)
  behind =
      asked_more 1 m texts text
      ∙ ap (λ s. asked m texts ++ asked_in (1 + length texts) s (without_blanks text) (sheet_line text)) (sym g.state)

  reported : flat_map (correction format marking) (asked m (texts ++ text ∷ []))
      ≡ report ++ flat_map (correction format marking) (last (sheet_line text))
  reported =
      ap (flat_map (correction format marking)) behind
      ∙ flat_map-append (correction format marking) (asked m texts) (last (sheet_line text))
      ∙ ap (λ l. l ++ flat_map (correction format marking) (last (sheet_line text))) (sym g.told)

  now : after_texts m (texts ++ text ∷ []) ≡ after_said m' (sheet_line text)
  now = after_more m texts text ∙ ap (λ s. after_said s (sheet_line text)) (sym g.state)

  -- nothing is asked in it
  unasked_more : (said : Result (Option SheetLine) LineFault) (next : MachineState) (report' : List ℕ) (score' : Score)
      → sheet_line text ≡ said → last said ≡ [] → next ≡ after_said m' said → report' ≡ report → score' ≡ score
      → Graded format marking m (texts ++ text ∷ []) next report' score'
  unasked_more said next report' score' is none state same_report same_score =
      let nothing : last (sheet_line text) ≡ [] = ap last is ∙ none in
      record {
        state = state ∙ sym (now ∙ ap (after_said m') is);
        told =
            same_report ∙ sym (append-nil report) ∙ sym (reported ∙ ap (λ l. report ++ flat_map (correction format marking) l) nothing);
        marks =
            same_score ∙ g.marks
            ∙ ap (λ xs. score_of (map (mark marking) xs))
            (sym (append-nil (asked m texts)) ∙ sym (behind ∙ ap (λ l. asked m texts ++ l) nothing));
      }

  pub graded_more : (n : ℕ) (said : Option SheetLine) (next : MachineState) (report' : List ℕ) (score' : Score)
      → n ≡ length texts + 1 → sheet_line text ≡ Ok said
      → GradesOne format marking n m' (without_blanks text) said report score next report' score'
      → Graded format marking m (texts ++ text ∷ []) next report' score'
  graded_more n None next report' score' number is one = unasked_more (Ok None) next report' score' is refl one.0 one.1 one.2
  graded_more n (Some (line, None)) next report' score' number is one =
      unasked_more (Ok (Some (line, None))) next report' score' is refl one.0 one.1 one.2
  graded_more n (Some (line, Some said)) next report' score' number is one =
      let place : n ≡ 1 + length texts = omega (arith, number) in
      let a : ℕ → Asked = λ k. asked_of k m' (without_blanks text) line said in
      let told_now : ℕ → List ℕ = λ k. correction format marking (a k) in
      record {
        state = one.0 ∙ sym (now ∙ ap (after_said m') is);
        told =
            one.1 ∙ ap (λ k. report ++ told_now k) place ∙ ap (λ l. report ++ l) (sym (append-nil (told_now (1 + length texts))))
            ∙ sym (reported ∙ ap (λ s. report ++ flat_map (correction format marking) (last s)) is);
        marks =
            one.2 ∙ ap (λ s. with_mark s (mark marking (a n))) g.marks
            ∙ sym (score_more (map (mark marking) (asked m texts)) (mark marking (a n)))
            ∙ ap score_of (sym (map_more marking (asked m texts) (a n)))
            ∙ ap (λ k. score_of (map (mark marking) (asked m texts ++ a k ∷ []))) place
            ∙ ap (λ xs. score_of (map (mark marking) xs)) (sym (behind ∙ ap (λ s. asked m texts ++ last s) is));
      }

-- ---- where a fault leaves the machine

module _ {R C : Type 0} (gave : R → List ℕ → R → Type 0) (failed : R → R → Type 0) (went : C → List (List ℕ) → C → Type 0)
    (state : C → MachineState) (r r' : R) (place : Place) (c c' : C) where
  -- a sheet is read by what grades it
  abbrev GradingReads : Result (Unit {0}) Stop → Type 0
  GradingReads = Reads (ended_gave gave) (ended_failed failed) sheet_fault went
      (λ s text t. state t ≡ after_said (state s) (sheet_line text))
      (λ s t. t ≡ s) (λ s t. ⊥) MAX_PAIR (at r Begin) (at r' place) c c'

  pub leaves_behind : (stop : Stop) (e : TraceFault)
      → ((texts : List (List ℕ)) (v : C) → went c texts v → state v ≡ after_texts (state c) texts)
      → GradingReads (Err stop) → ((f : TraceFault) → stop ≡ Fault f → e ≡ f) → (stop ≡ Halted → e ≡ OutOfMemory)
      → LeavesBehind gave failed r r' (state c) (state c') e
  leaves_behind (Fault f) e kept h same halted = inl (
    h.0,
    subst (SheetStops gave failed r r' h.0) (sym (same f refl)) (place, h.2),
    ap state h.4 ∙ kept h.0 h.1 h.3,
  )
  leaves_behind Halted e kept h same halted =
      let texts = h.0 in
      let stands = kept texts h.2 h.3 in
      inr (
        halted refl,
        elim h.4 [
          | inl paused ↦ absurd paused.1
          | inr read ↦ elim read.1 [
            | inl paused ↦ absurd paused
            | inr line ↦
                let first = line.1 in
                let text = first.0 in
                let made = first.4 ∙ ap (λ m. after_said m (sheet_line text)) stands ∙ sym (after_more (state c) texts text) in
                inr (texts, h.1, (place, read.0), (text, first.1, first.2, first.3, made))
          ]
        ],
      )
