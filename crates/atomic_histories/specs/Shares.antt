-- What is left of stretches on the ways on which a load may have got its answer, and on the others; and where stretches
-- went that were copied.
use Rattle.std.specs.Prelude.{ℕ, ◌≡◌, ◌<◌, ◌≤◌, Bool, true, if◌then◌else◌, nat_lt, List, length, take, get_or, Option, Some, None}
use Rattle.atomic_histories.specs.declared.stretches.Before.{Before}
use Rattle.atomic_histories.specs.declared.stretches.Before.TheVariants.{Nothing, Behind}
use Rattle.atomic_histories.specs.declared.stretches.Stretch.{Stretch}
use Rattle.atomic_histories.specs.declared.stretches.Stretch.TheVariants.{Overwritten, Either}
use Rattle.atomic_histories.specs.declared.splits.Split.{Split}
use Rattle.atomic_histories.specs.declared.moves.Moved.{Moved}
use Rattle.atomic_histories.specs.Pasts.{Past, Stood, after, merged, got, missed}
use Rattle.atomic_histories.specs.Shown.{past_at, pasts, IsIn}

-- Shares. ----

-- what is left of a reference, where this is left of nothing, and of a reference to none of the stretches
abbrev pub share_in : Option Before → List (Option Before) → Before → Option Before
share_in bare shares Nothing = bare
share_in bare shares (Behind place) = get_or shares place bare

abbrev pub got_of : Split → Before → Option Before
got_of s before = share_in None s.got.items before

abbrev pub missed_of : Split → Before → Option Before
missed_of s before = share_in (Some Nothing) s.missed.items before

abbrev pub past_any : List Past → Option Before → Option Past
past_any ps None = None
past_any ps (Some before) = Some (past_at ps before)

abbrev pub IsInAny : List Stretch → Option Before → Type 0
IsInAny ss None = Unit {0}
IsInAny ss (Some before) = IsIn ss before

-- a share that shows this past, if there is any
pub record IsShare (ss : List Stretch) (share : Option Before) (past : Option Past) : Type 0 where
  pub shows : past_any (pasts ss) share ≡ past
  pub is_in : IsInAny ss share

-- the shares of the stretches before a place, of which the reference to each shows what is left of its past
abbrev pub AreShares : (Past → Option Past) → Option Before → ℕ → List Stretch → List (Option Before) → Type 0
AreShares left bare place ss shares = (before : Before)
    → IsShare ss (share_in bare shares before) (left (past_at (pasts (take place ss)) before))

pub record IsSplit (is : Stood → Bool) (place : ℕ) (ss : List Stretch) (s : Split) : Type 0 where
  pub got : AreShares (got is) None place ss s.got.items
  pub missed : AreShares (missed is) (Some Nothing) place ss s.missed.items
  pub got_places : length s.got.items ≡ place
  pub missed_places : length s.missed.items ≡ place

-- Moves. ----

-- where a reference went: nowhere if it was to none of the stretches
abbrev pub moved_in : List Before → Before → Before
moved_in places Nothing = Nothing
moved_in places (Behind place) = get_or places place Nothing

abbrev pub moved_to : Moved → Before → Before
moved_to m before = moved_in m.places.items before

-- a stretch whose references are to where those that they were to went
abbrev pub moved_stretch : Moved → Stretch → Stretch
moved_stretch m (Overwritten word moment before) = Overwritten word moment (moved_to m before)
moved_stretch m (Either one other) = Either (moved_to m one) (moved_to m other)

-- what a stretch shows once what was overwritten before a moment is cut, of which this is the past of each reference
abbrev pub cut_of : ℕ → (Before → Past) → Stretch → Past
cut_of since at (Overwritten word moment before) = if nat_lt moment since then at before else after word moment (at before)
cut_of since at (Either one other) = merged (at one) (at other)

-- the stretches before a place were moved, and the references that are used show of the new ones what this makes of their pasts
pub record AreMoved (used : Before → Bool) (to : Past → Past) (place : ℕ) (ss : List Stretch) (m : Moved) : Type 0 where
  pub same : (before : Before) → used before ≡ true → past_at (pasts m.stretches.items) (moved_to m before)
      ≡ to (past_at (pasts (take place ss)) before)
  pub is_in : (before : Before) → IsIn m.stretches.items (moved_to m before)
  pub places : length m.places.items ≡ place

-- Which stretches are used. ----

-- whether a reference is to one that is used, or to none
abbrev pub is_used : List Bool → Before → Bool
is_used used Nothing = true
is_used used (Behind place) = get_or used place true

-- if it is to one before a place
abbrev pub IsUsedBelow : List Bool → ℕ → Before → Type 0
IsUsedBelow used end Nothing = Unit {0}
IsUsedBelow used end (Behind place) = place < end → get_or used place true ≡ true

-- those that a stretch at a place refers to
abbrev pub RefersToUsed : List Bool → ℕ → Stretch → Type 0
RefersToUsed used place (Overwritten word moment before) = IsUsedBelow used place before
RefersToUsed used place (Either one other) = IsUsedBelow used place one × IsUsedBelow used place other

-- from a place on, those that are used refer to used ones
abbrev pub AreClosed : List Bool → ℕ → List Stretch → Type 0
AreClosed used from ss = (place : ℕ) (s : Stretch) → from ≤ place → place < length ss → get_or used place true ≡ true
    → s ≡ get_or ss place s
    → RefersToUsed used place s

-- what was used still is
abbrev pub StayUsed : List Bool → List Bool → Type 0
StayUsed old new = (place : ℕ) → get_or old place true ≡ true → get_or new place true ≡ true

-- from a place on nothing was changed
abbrev pub AreSameFrom : ℕ → List Bool → List Bool → Type 0
AreSameFrom end old new = (place : ℕ) → end ≤ place → get_or new place true ≡ get_or old place true
