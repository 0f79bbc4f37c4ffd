-- How a recorded run is read, up to the first line that flat memory can't answer.
use Rattle.std.specs.Prelude.{◌≡◌, ℕ, ◌+◌, None, Result, Ok, Err, List, [], ◌∷◌, ◌++◌, length}
use Rattle.flat_model.specs.declared.Word.{Word}
use Rattle.flat_model.specs.Flat.{opening, flat_step}
use Rattle.trace_text.specs.Codes.{line_feed}
use Rattle.trace_text.specs.Reading.{IsGood, ReadIntoWithin, ReadWholeWithin, ReadStopsWithin}
use Rattle.trace_text.specs.Pairs.{pair_of}
use Rattle.trace_text.specs.Recorded.{recorded}
use Rattle.trace_text.specs.Checks.{pair_fault, JudgedFrom, IsJudgedFrom}
use Rattle.trace_text.specs.declared.check.CheckEnd.TheVariants as check
use Rattle.trace_text.specs.declared.fault.TheConstants.{MAX_PAIR}
use Rattle.trace_text.specs.declared.fault.TraceFault.{TraceFault}
use Rattle.trace_text.specs.declared.fault.TraceFault.TheVariants as fault
use Rattle.run_reasons.specs.Origins.{origins_of}
use Rattle.run_reasons.specs.Reasons.{mismatch_at}
use Rattle.run_reasons.specs.declared.reason.Mismatch.{Mismatch}
use Rattle.run_reasons.specs.declared.explain.Explanation.{Explanation}
use Rattle.run_reasons.specs.declared.explain.Explanation.TheVariants as explained

-- how many lines can be numbered
abbrev pub most_lines : ℕ
most_lines = 18446744073709551615

-- ---- lines

-- These lines are so many steps of flat memory, which is then the origins' own.
abbrev pub IsFlat : List Word → List (List ℕ) → ℕ → Type 0
IsFlat words texts steps = JudgedFrom (opening words) texts steps None (origins_of words texts).flat

-- The line behind these lines, with its LF, is the first that flat memory can't answer, and this is why.
pub record IsMismatch (words : List Word) (texts : List (List ℕ)) (found : List ℕ) (m : Mismatch) : Type 0 where
  pub text : List ℕ
  pub ended : found ≡ text ++ line_feed ∷ []
  pub good : IsGood pair_fault MAX_PAIR text
  pub pair : pair_of text ≡ Ok (recorded m.event m.answer)
  pub not_flat : flat_step (origins_of words texts).flat m.event m.answer ≡ None
  pub why : m ≡ mismatch_at (origins_of words texts) (length texts + 1) m.event m.answer
  pub checked : IsJudgedFrom (opening words) (texts ++ text ∷ []) (check.Mismatch m.line) (origins_of words texts).flat

-- ---- what was read

-- How the reading of a recorded run ends, over memory of these words.
abbrev pub Explains : {R : Type 0} (gave : R → List ℕ → R → Type 0) (failed : R → R → Type 0) (words : List Word) (r r' : R)
    → Result Explanation TraceFault → Type 0
-- all lines were read, and are a flat run
Explains gave failed words r r' (Ok (explained.Flat steps)) = (texts : List (List ℕ)) ×
    ReadWholeWithin gave pair_fault MAX_PAIR most_lines r r' texts × IsFlat words texts steps
-- the lines of a flat run, and behind them the first that isn't, in the piece that came last
Explains gave failed words r r' (Ok (explained.Mismatch m)) = (texts : List (List ℕ)) × (found : List ℕ) × (more : List ℕ) × (steps : ℕ) ×
    ReadIntoWithin gave pair_fault MAX_PAIR most_lines r r' texts (found ++ more) × IsFlat words texts steps ×
    IsMismatch words texts found m
Explains gave failed words r r' (Err fault.OutOfMemory) = Unit {0}
-- the lines before the fault are a flat run
Explains gave failed words r r' (Err f) = (texts : List (List ℕ)) × (steps : ℕ) ×
    ReadStopsWithin gave failed pair_fault MAX_PAIR most_lines r r' texts f × IsFlat words texts steps

-- the status with which a program ends that tells it
abbrev pub status_of : Explanation → ℕ
status_of (explained.Flat steps) = 0
status_of (explained.Mismatch m) = 1
