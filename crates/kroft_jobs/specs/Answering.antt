-- What a check tells of a run all of whose loads have to be answered.
use Rattle.std.specs.Prelude.{ℕ, ◌==◌, if◌then◌else◌, List, [], ◌∷◌, ◌++◌, length, codes, decimal, is_some}
use Rattle.std.specs.List.{filter, flat_map, range_with_len}
use Rattle.flat_model.specs.Flat.{Flat}
use Rattle.kroft_jobs.specs.Words.{CheckEnd}
use Rattle.trace_text.specs.declared.check.CheckEnd.TheVariants as check
use Rattle.kroft_jobs.specs.declared.answered.TheConstants.{TAGS}
use Rattle.kroft_jobs.specs.Jobs.{verdict_text}

-- the tags below a number that are owed a value, the lowest first
unfoldable pub owed_below : Flat → ℕ → List ℕ
owed_below f tags = filter (λ tag. is_some (f.due tag)) (range_with_len 0 tags)

-- the tags that are owed a value
unfoldable pub tags_owed : Flat → List ℕ
tags_owed f = owed_below f TAGS

-- each tag behind a space
unfoldable pub tags_text : List ℕ → List ℕ
tags_text tags = flat_map (λ t. codes " " ++ decimal t) tags

-- how many loads are open, and under which tags
abbrev pub count_text : List ℕ → List ℕ
count_text tags = codes ", " ++ (decimal (length tags) ++ (codes " loads open: tags" ++ tags_text tags))

-- the same, if some are
unfoldable pub open_text : List ℕ → List ℕ
open_text tags = if length tags == 0 then [] else count_text tags

-- what is told of the run behind which these tags are owed a value
abbrev pub answered_text : CheckEnd → List ℕ → List ℕ
answered_text (check.Flat steps) tags = verdict_text (check.Flat steps) ++ open_text tags
answered_text (check.Mismatch line) tags = verdict_text (check.Mismatch line)

-- its status: 0 for a flat run in which every accepted load was answered
abbrev pub answered_status : CheckEnd → List ℕ → ℕ
answered_status (check.Flat steps) [] = 0
answered_status (check.Flat steps) (tag ∷ tags) = 1
answered_status (check.Mismatch line) tags = 1
