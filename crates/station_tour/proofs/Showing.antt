-- That what a tour tells ends with what was found.
use Rattle.std.proofs.Common.{◌≡◌, ◌≢◌, ◌≤◌, ℕ, Bool, true, false, List, [], ◌++◌, append-nil, append_assoc, subst, refl, sym}
use Rattle.std.specs.Prelude.{Option, Some, None, IfNone}
use Rattle.std.specs.Io.KnownBytes.{Appends}
use Rattle.station_checks.proofs.Telling.{appends_more}
use Rattle.station_checks.specs.declared.findings.Findings.{Findings}
use Rattle.station_checks.specs.Stories.{findings_text}
use Rattle.station_tour.specs.Shown.{EndsIn, HasGrown, GoesOn, end_text}

pub grown_by_none : (known : Option (List ℕ)) → HasGrown known known
unfolding HasGrown
grown_by_none None = ([], tt)
grown_by_none (Some bytes) = ([], sym (append-nil bytes))

pub grown_more : (old next new : Option (List ℕ)) → HasGrown old next → HasGrown next new → HasGrown old new
unfolding HasGrown
grown_more old next new before after = (before.0 ++ after.0, appends_more old next new before.0 after.0 before.1 after.1)

-- a text that is at the end is there behind what was told before it
pub ends_more : (old next new : Option (List ℕ)) (text : List ℕ) → HasGrown old next → EndsIn next new text → EndsIn old new text
unfolding HasGrown
ends_more old next new text before ends = (
  before.0 ++ ends.0,
  subst (λ t. Appends old new t) (sym (append_assoc before.0 ends.0 text))
      (appends_more old next new before.0 (ends.0 ++ text) before.1 ends.1),
)

-- a story that is shown ends with what was found
pub ends_in : (old new : Option (List ℕ)) (story : Bool) (found : Findings) → Appends old new (end_text story found)
    → GoesOn story old new (Some found)
ends_in old new true found adds = λ shown. ([], adds)
ends_in old new false found adds = λ shown. cc

pub goes_on : (old next new : Option (List ℕ)) (text : List ℕ) (story : Bool) (end : Option Findings) → Appends old next text
    → GoesOn story next new end → GoesOn story old new end
unfolding HasGrown
goes_on old next new text story None adds more = grown_more old next new (text, adds) more
goes_on old next new text story (Some found) adds ends = λ shown. ends_more old next new (findings_text found) (text, adds) (ends shown)

-- what was found behind the last segment ends the story
pub ends_last : (old next new : Option (List ℕ)) (story : Bool) (end : Option Findings) (found : Findings) → HasGrown old next
    → GoesOn story next new end → end ≡ Some found → story ≡ true → EndsIn old new (findings_text found)
ends_last old next new story end found before goes is shown =
    let last : GoesOn story next new (Some found) = subst (λ e. GoesOn story next new e) is goes in
    ends_more old next new (findings_text found) before (last shown)

-- a segment that isn't the last one: the story grows, and asks are left
pub grows_on : (old next new : Option (List ℕ)) (story : Bool) (end : Option Findings) → ((found : Findings) → end ≢ Some found)
    → HasGrown old next → GoesOn story next new end → HasGrown old new
grows_on old next new story None other before goes = grown_more old next new before goes
grows_on old next new story (Some found) other before goes = absurd (other found refl)

pub more_left : (end : Option Findings) (left : ℕ) → ((found : Findings) → end ≢ Some found) → IfNone end (1 ≤ left) → 1 ≤ left
more_left None left other more = more
more_left (Some found) left other more = absurd (other found refl)
