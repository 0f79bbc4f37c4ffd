-- The text of a run.
use Rattle.std.specs.Prelude.{◌≡◌, ℕ, ◌+◌, ◌≤◌, List, [], ◌∷◌, ◌++◌, length}
use Rattle.machine_core.specs.Machine.{MachineState}
use Rattle.trace_text.specs.Codes.{line_feed}
use Rattle.trace_text.specs.Recorded.{recorded, pair_text}
use Rattle.trace_text.specs.Streams.{Moves, Stopped}
use Rattle.trace_text.specs.declared.fault.TraceFault.{TraceFault}
use Rattle.trace_text.specs.declared.fault.TraceFault.TheVariants as fault
use Rattle.round_driver.specs.Rounds.{Run, rounds_until_over}
use Rattle.round_driver.specs.declared.note.Note.{Note}

-- an event with its answer, as a recorded run has it
unfoldable pub note_line : Note → List ℕ
note_line n = pair_text (recorded n.event n.answer) ++ line_feed ∷ []

abbrev pub run_text : List Note → List ℕ
run_text [] = []
run_text (n ∷ ns) = note_line n ++ run_text ns

-- the lines of so many rounds
abbrev pub text_of_rounds : ℕ → Run → List ℕ
text_of_rounds n start = run_text (rounds_until_over n start).told

-- How a write of this text broke off that begins with what was written before: what follows it was refused, or there was no
-- memory for it.
abbrev pub BreaksOffBehind : {W : Type 0} (took : W → List ℕ → W → Type 0) (refused : W → W → Type 0) (old : W)
    (before text : List ℕ) (new : W) → TraceFault → Type 0
BreaksOffBehind took refused old before text new fault.Write =
    (stopped : Stopped took refused old text new) × (length before ≤ length stopped.front)
BreaksOffBehind took refused old before text new fault.OutOfMemory = Moves took old before new
BreaksOffBehind took refused old before text new e = ⊥

-- How the writing of a run broke off: all lines of some rounds are written, and not all of the next, which is the last that was
-- made.
abbrev pub BreaksOff : {W : Type 0} (took : W → List ℕ → W → Type 0) (refused : W → W → Type 0) (old : W) (start : Run)
    (new : W) (left : MachineState) → TraceFault → Type 0
BreaksOff took refused old start new left fault =
    (n : ℕ) × BreaksOffBehind took refused old (text_of_rounds n start) (text_of_rounds (n + 1) start) new fault
    × (left ≡ (rounds_until_over (n + 1) start).state)
