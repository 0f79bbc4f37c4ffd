-- What a check found, by names.
use Rattle.std.specs.Prelude.{ℕ, List, [], ◌∷◌, ◌++◌, codes}
use Rattle.named_fields.specs.Formats.{Named, absent, counted, worded, numbers, verdict_in}
use Rattle.kroft_jobs.specs.Words.{CheckEnd, VerdictFormat}
use Rattle.trace_text.specs.declared.check.CheckEnd.TheVariants.{Flat, Mismatch}
use Rattle.kroft_jobs.specs.Jobs.{verdict_text}
use Rattle.kroft_jobs.specs.Answering.{answered_text}

-- the verdict: how many steps a flat run has, and else the line of the first answer that flat memory doesn't give
unfoldable pub check_named : CheckEnd → List Named
check_named (Flat steps) = worded (codes "verdict") (codes "flat") ∷ counted (codes "steps") steps ∷ absent (codes "line") ∷ []
check_named (Mismatch line) =
    worded (codes "verdict") (codes "mismatch") ∷ absent (codes "steps") ∷ counted (codes "line") line ∷ []

-- the tags of the loads that are open behind a flat run
abbrev pub open_named : CheckEnd → List ℕ → Named
open_named (Flat steps) tags = numbers (codes "open") tags
open_named (Mismatch line) tags = absent (codes "open")

-- the verdict, and which loads are open
unfoldable pub answered_named : CheckEnd → List ℕ → List Named
answered_named end tags = check_named end ++ open_named end tags ∷ []

-- ---- in a format

unfoldable pub check_in : VerdictFormat → CheckEnd → List ℕ
check_in format end = verdict_in format (verdict_text end) (check_named end)

unfoldable pub answered_in : VerdictFormat → CheckEnd → List ℕ → List ℕ
answered_in format end tags = verdict_in format (answered_text end tags) (answered_named end tags)
