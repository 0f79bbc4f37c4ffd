-- What stood in a unit before the word of now, on all ways that led to it.
use Rattle.std.specs.Prelude.{ℕ, ◌≡◌, ◌≤◌, ◌⊎◌, Bool, true, false, ◌&&◌, ◌||◌, if◌then◌else◌, nat_lt, nat_le, min, List, [], ◌∷◌, map}
use Rattle.std.specs.Prelude.{Option, Some, None}
use Rattle.std.specs.List.{filter, fold}
use Rattle.atomic_histories.specs.declared.unit.WatchedLoad.{WatchedLoad}

-- nothing that an open load may have got; a word that stood until a moment, and what stood before it; or one of two pasts. A moment
-- is how many loads had been requested at the unit by then
pub data Past : Type 0 where
  begins : Past
  after : List (Option ℕ) → ℕ → Past → Past
  either : Past → Past → Past

-- a word that stood there, and the moment at which it was overwritten
pub record Stood : Type 0 where
  pub word : List (Option ℕ)
  pub moment : ℕ

abbrev pub stood : List (Option ℕ) → ℕ → Stood
stood word moment = record { word = word; moment = moment }

-- on one of the ways these stood there, the latest first
abbrev pub Has : Past → List Stood → Type 0
Has begins path = path ≡ []
Has (after word moment p) path = (rest : List Stood) × (path ≡ stood word moment ∷ rest) × Has p rest
Has (either p q) path = Has p path ⊎ Has q path

-- nothing was overwritten behind a moment
abbrev pub IsBy : ℕ → Past → Type 0
IsBy most begins = Unit {0}
IsBy most (after word moment p) = (moment ≤ most) × IsBy most p
IsBy most (either p q) = IsBy most p × IsBy most q

abbrev pub is_beginning : Past → Bool
is_beginning begins = true
is_beginning (after word moment p) = false
is_beginning (either p q) = false

-- a past with the ways of both
abbrev pub merged : Past → Past → Past
merged p q = if is_beginning p && is_beginning q then begins else either p q

abbrev pub merged_any : Option Past → Option Past → Option Past
merged_any None q = q
merged_any (Some p) None = Some p
merged_any (Some p) (Some q) = Some (merged p q)

abbrev pub after_any : List (Option ℕ) → ℕ → Option Past → Option Past
after_any word moment None = None
after_any word moment (Some p) = Some (after word moment p)

-- the ways on which something stood there, if there are any
abbrev pub got : (Stood → Bool) → Past → Option Past
got is begins = None
got is (after word moment p) =
    if is (stood word moment) then Some (after word moment p) else after_any word moment (got is p)
got is (either p q) = merged_any (got is p) (got is q)

-- the ways on which it never did
abbrev pub missed : (Stood → Bool) → Past → Option Past
missed is begins = Some begins
missed is (after word moment p) = if is (stood word moment) then None else after_any word moment (missed is p)
missed is (either p q) = merged_any (missed is p) (missed is q)

-- a past without what was overwritten before a moment
abbrev pub cut : ℕ → Past → Past
cut since begins = begins
cut since (after word moment p) = if nat_lt moment since then cut since p else after word moment (cut since p)
cut since (either p q) = merged (cut since p) (cut since q)

-- whether a load since a moment may have got something on one of the ways
abbrev pub shows : (List (Option ℕ) → Bool) → ℕ → Past → Bool
shows is since begins = false
shows is since (after word moment p) = (nat_le since moment && is word) || shows is since p
shows is since (either p q) = shows is since p || shows is since q

-- The loads that are open. ----

-- the moment since which one of them may have got what was overwritten
abbrev pub earlier : Option ℕ → WatchedLoad → Option ℕ
earlier None l = Some l.since
earlier (Some since) l = Some (min since l.since)

abbrev pub oldest : List WatchedLoad → Option ℕ
oldest ls = fold earlier None ls

-- what is left of a past that one of them may ask for
abbrev pub cut_for : Option ℕ → Past → Past
cut_for None p = begins
cut_for (Some since) p = cut since p

-- the word of now is overwritten
abbrev pub overwritten : List WatchedLoad → ℕ → List (Option ℕ) → Past → Past
overwritten [] moment word p = begins
overwritten (l ∷ ls) moment word p = after word moment p

-- the words that a load since a moment may have got of those that stood there
abbrev pub seen_since : ℕ → List Stood → List (List (Option ℕ))
seen_since since path = map (λ s. s.word) (filter (λ s. nat_le since s.moment) path)
