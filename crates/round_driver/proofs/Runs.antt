-- Rounds, one after another.
use Rattle.std.proofs.Common.{◌≡◌, ℕ, suc, ◌+◌, ◌≤◌, Bool, true, false, List, [], ◌∷◌, ◌++◌, append_assoc, append-nil, take}
use Rattle.std.proofs.Common.{length, length-append, get_or, ◌<◌, Result, Ok, Err, IfErr, IsErrAnd, refl, sym, ap, ◌∙◌, arith}
use Rattle.std.proofs.lemmas.List.{take_more}
use Rattle.machine_core.specs.Words.{Event}
use Rattle.machine_core.specs.Machine.{MachineState}
use Rattle.trace_text.specs.Streams.{Moves, Stopped}
use Rattle.trace_text.proofs.Serving.{moved_then}
use Rattle.trace_text.specs.declared.fault.TraceFault.{TraceFault}
use Rattle.trace_text.specs.declared.fault.TraceFault.TheVariants.{Write, OutOfMemory}
use Rattle.machine_core.proofs.Driving as driving
use Rattle.round_driver.specs.declared.note.Note.{Note}
use Rattle.round_driver.specs.declared.schedule.Schedule.{Schedule}
use Rattle.round_driver.specs.declared.timing.Timing.{Timing}
use Rattle.round_driver.specs.Rounds.{Run, run_of, after_round, is_over, is_over_at, rounds_until_over, start_of}
use Rattle.round_driver.specs.Rounds.{most_rounds, whole_run, EndsInTime}
use Rattle.round_driver.specs.Tables.{Counting, counted, counted_all}
use Rattle.round_driver.specs.Written.{note_line, run_text, BreaksOff}

-- ---- as any steps until it is over

pub none : (r : Run) → rounds_until_over 0 r ≡ r
unfolding rounds_until_over
none r = refl

pub stays : (n : ℕ) (r : Run) → is_over r ≡ true → rounds_until_over n r ≡ r
unfolding rounds_until_over
stays = driving.stays is_over after_round

pub goes : (n : ℕ) (r : Run) → is_over r ≡ false → rounds_until_over (suc n) r ≡ rounds_until_over n (after_round r)
unfolding rounds_until_over
goes = driving.goes is_over after_round

-- one round more
pub round_more : (n : ℕ) (r : Run) → is_over (rounds_until_over n r) ≡ false
    → rounds_until_over (n + 1) r ≡ after_round (rounds_until_over n r)
unfolding rounds_until_over
round_more = driving.one_more is_over after_round

-- behind the end there are no rounds
pub round_over : (n m : ℕ) (r : Run) → n ≤ m → is_over (rounds_until_over n r) ≡ true → rounds_until_over m r ≡ rounds_until_over n r
unfolding rounds_until_over
round_over = driving.no_more is_over after_round

-- ---- text

pub text_then : (xs ys : List Note) → run_text (xs ++ ys) ≡ run_text xs ++ run_text ys
text_then [] ys = refl
text_then (x ∷ xs) ys = grind (arith, text_then xs ys, append_assoc)

-- one line more
pub text_more : (xs : List Note) (i : ℕ) (d : Note) → i < length xs
    → run_text (take (i + 1) xs) ≡ run_text (take i xs) ++ note_line (get_or xs i d)
text_more xs i d h =
    ap run_text (take_more xs i d h) ∙ text_then (take i xs) _ ∙ ap (λ line. run_text (take i xs) ++ line) (append-nil _)

-- ---- counts

pub counted_then : (c : Counting) (xs ys : List Note) → counted_all c (xs ++ ys) ≡ counted_all (counted_all c xs) ys
counted_then c [] ys = refl
counted_then c (x ∷ xs) ys = counted_then (counted c x) xs ys

-- ---- a turn of the loop: i rounds of a run, and one more

module _ (i : ℕ) (start : Run) {s : MachineState} {p : Schedule} {left : List Event}
    (here : run_of s p left (rounds_until_over i start).told ≡ rounds_until_over i start) where
  over_here : (n : ℕ) → i ≤ n → is_over_at s left ≡ true → run_of s p left (rounds_until_over i start).told ≡ rounds_until_over n start
  over_here n le over = grind (arith, round_over)

  module _ {s' : MachineState} {p' : Schedule} {left' : List Event} {notes : List Note}
      (made : (told : List Note) → run_of s' p' left' (told ++ notes) ≡ after_round (run_of s p left told))
      (going : is_over_at s left ≡ false) where
    behind : run_of s' p' left' ((rounds_until_over i start).told ++ notes) ≡ rounds_until_over (i + 1) start
    behind = grind (arith, round_more)

    told_next : (rounds_until_over (i + 1) start).told ≡ (rounds_until_over i start).told ++ notes
    told_next = grind (arith, behind)

    pub run_next : run_of s' p' left' (rounds_until_over (i + 1) start).told ≡ rounds_until_over (i + 1) start
    run_next = grind (arith, behind)

    state_next : s' ≡ (rounds_until_over (i + 1) start).state
    state_next = grind (arith, behind)

    -- for the lines of the round that was made there is no memory
    pub lines_lack_memory : {W : Type 0} {took : W → List ℕ → W → Type 0} (refused : W → W → Type 0) {u v : W}
        (result : Result ℕ TraceFault) → Moves took u (run_text (rounds_until_over i start).told) v
        → IsErrAnd result (λ fault. fault ≡ OutOfMemory)
        → IfErr result (BreaksOff took refused u start v s')
    lines_lack_memory refused (Ok rounds) written told = tt
    lines_lack_memory refused (Err f) written told = grind (arith, state_next)

    text : run_text (rounds_until_over (i + 1) start).told ≡ run_text (rounds_until_over i start).told ++ run_text notes
    text = grind (arith, told_next, text_then)

    pub text_next : {S : Type 0} {step : S → List ℕ → S → Type 0} {u v w : S} → Moves step u (run_text (rounds_until_over i start).told) v
        → Moves step v (run_text notes) w → Moves step u (run_text (rounds_until_over (i + 1) start).told) w
    text_next a b = grind (arith, text, moved_then)

    -- a write of the lines of the round that was made is refused
    pub lines_refused : {W : Type 0} {took : W → List ℕ → W → Type 0} {refused : W → W → Type 0} {u v w : W}
        → Moves took u (run_text (rounds_until_over i start).told) v → Stopped took refused v (run_text notes) w
        → BreaksOff took refused u start w s' Write
    lines_refused written stopped = (
      i,
      (
        record {
          front = run_text (rounds_until_over i start).told ++ stopped.front;
          back = stopped.back;
          whole = grind (arith, text, append_assoc);
          last = stopped.last;
          moved = moved_then written stopped.moved;
          refusal = stopped.refusal;
        },
        grind (arith, length-append),
      ),
      state_next,
    )

    -- what is folded over all that was told
    pub fold_next : {A : Type 0} (fold : A → List Note → A) → ((a : A) (xs ys : List Note) → fold a (xs ++ ys) ≡ fold (fold a xs) ys)
        → (first : A) {a b : A} → a ≡ fold first (rounds_until_over i start).told → b ≡ fold a notes
        → b ≡ fold first (rounds_until_over (i + 1) start).told
    fold_next fold then first p q =
        q ∙ ap (λ x. fold x notes) p ∙ sym (then first (rounds_until_over i start).told notes) ∙ ap (fold first) (sym told_next)

-- ---- the loop's end: the run is over, or all rounds that it may take were made

module _ (timing : Timing) (s : MachineState) (requests : List Event) {turns most : ℕ} {m : MachineState} {p : Schedule} {left : List Event}
    (here : run_of m p left (rounds_until_over turns (start_of timing s requests)).told
    ≡ rounds_until_over turns (start_of timing s requests))
    (value : most ≡ most_rounds s.sizes timing.latency (length requests)) where
  pub whole_over : {b : Bool} → turns < most → b ≡ is_over_at m left → b ≡ true
      → run_of m p left (rounds_until_over turns (start_of timing s requests)).told ≡ whole_run timing s requests
  whole_over lt answer over = over_here _ _ here most (omega (arith, lt)) (sym answer ∙ over)
      ∙ ap (λ n. rounds_until_over n (start_of timing s requests)) value

  pub spent_early : turns ≡ most → p.round ≡ turns → EndsInTime timing s requests
  spent_early all round h = grind arith
