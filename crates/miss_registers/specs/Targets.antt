-- How a register keeps what it keeps for each word: the marks with the word, and the loads in one list.
use Rattle.std.specs.Prelude.{ℕ, ◌+◌, ◌<◌, ◌≤◌, Bool, true, false, List, [], ◌∷◌, map, length, ◌==◌, Option, Some, None, if◌then◌else◌}
use Rattle.std.specs.List.{filter, All}
use Rattle.flat_model.specs.declared.Lanes.{Lanes}
use Rattle.flat_model.specs.declared.limits.TheConstants.{MAX_BLOCK_WORDS}
use Rattle.flat_model.specs.Words.{no_lanes}
use Rattle.miss_registers.specs.declared.Owed.{Owed}
use Rattle.miss_registers.specs.declared.TheConstants.{MAX_WAITING}
use Rattle.miss_registers.specs.declared.marks.Marks.{Marks}
use Rattle.miss_registers.specs.declared.targets.Target.{Target}
use Rattle.miss_registers.specs.Registers.{Field}

abbrev pub is_for : ℕ → Target → Bool
is_for i t = t.i == i

-- the loads that wait for a word, in their order
abbrev pub waiting_for : ℕ → List Target → List Owed
waiting_for i targets = map (λ t. t.owed) (filter (is_for i) targets)

-- what is kept for a word
abbrev pub field_with : Marks → List Owed → Field
field_with m waiting = record { in_stack = m.in_stack; processed = m.processed; code = m.code; waiting = waiting }

-- what is kept for each word, from the word `i` on
abbrev pub fields_from : ℕ → List Marks → List Target → List Field
fields_from i [] targets = []
fields_from i (m ∷ marks) targets = field_with m (waiting_for i targets) ∷ fields_from (1 + i) marks targets

abbrev pub fields_of : List Marks → List Target → List Field
fields_of marks targets = fields_from 0 marks targets

-- a block has so many words at most, each load waits for one of them, and few for each
pub record AreKept (marks : List Marks) (targets : List Target) : Type 0 where
  pub fits : length marks ≤ MAX_BLOCK_WORDS
  pub there : All (λ t. t.i < length marks) targets
  pub few : (i : ℕ) → length (waiting_for i targets) ≤ MAX_WAITING

abbrev pub clear_marks : Marks
clear_marks = record { in_stack = false; processed = false; code = no_lanes }

abbrev pub finished_marks : Marks
finished_marks = record { in_stack = false; processed = true; code = no_lanes }

abbrev pub marks_without_code : Marks → Marks
marks_without_code m = record m { code = no_lanes }

-- the code of a word that isn't processed
abbrev pub code_of_marks : Marks → Option Lanes
code_of_marks m = if m.processed then None else Some m.code
