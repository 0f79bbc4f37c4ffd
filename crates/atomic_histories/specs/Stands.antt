-- Of which histories the ways that are followed at a unit are all that there may be.
use Rattle.std.specs.Prelude.{ℕ, ◌≡◌, ◌≤◌, ◌⊎◌, false, List, [], ◌∷◌, ◌++◌, map, Option, Some, None}
use Rattle.memory_histories.specs.declared.events.HistoryEvent.{HistoryEvent}
use Rattle.atomic_histories.specs.declared.unit.OpenStore.{OpenStore}
use Rattle.atomic_histories.specs.declared.unit.UnitPlace.{UnitPlace}
use Rattle.atomic_histories.specs.Law.{OpenLoad, UnitMemory, MayBe}
use Rattle.atomic_histories.specs.declared.unit.WatchedLoad.{WatchedLoad}
use Rattle.atomic_histories.specs.Pasts.{Stood, Has, IsBy}
use Rattle.atomic_histories.specs.Branches.{Watched, Branch, effect_of}
use Rattle.atomic_histories.specs.Followed.{Pair, Ways, way_on}

-- of each, of one of them
abbrev pub Each : {X : Type 0} → (X → Type 0) → List X → Type 0
Each P [] = Unit {0}
Each P (x ∷ xs) = P x × Each P xs

abbrev pub One : {X : Type 0} → (X → Type 0) → List X → Type 0
One P [] = ⊥
One P (x ∷ xs) = P x ⊎ One P xs

-- a load may have got this word: it didn't take effect yet, or got the word of now or one before it
abbrev pub MayHaveGot : List (Option ℕ) → List (List (Option ℕ)) → Option (List (Option ℕ)) → Type 0
MayHaveGot word words None = Unit {0}
MayHaveGot word words (Some w) = (w ≡ word) ⊎ One (λ v. w ≡ v) words

abbrev pub IsWatched : List (Option ℕ) → Watched → OpenLoad → Type 0
IsWatched word l m = (l.number ≡ m.number) × (l.address ≡ m.address) × MayHaveGot word l.words m.got

abbrev pub AreWatched : List (Option ℕ) → List Watched → List OpenLoad → Type 0
AreWatched word [] [] = Unit {0}
AreWatched word [] (m ∷ ms) = ⊥
AreWatched word (l ∷ ls) [] = ⊥
AreWatched word (l ∷ ls) (m ∷ ms) = IsWatched word l m × AreWatched word ls ms

-- a state of the unit is one of this way, with no store that takes effect behind it
pub record IsOn (e : Branch) (m : UnitMemory) : Type 0 where
  pub word : e.word ≡ m.word
  pub stores : e.stores ≡ m.stores
  pub loads : AreWatched e.word e.loads m.loads

-- a state of the unit is one that this way leads to, if some of the open stores take effect
pub data Leads : Branch → UnitMemory → Type 0 where
  now : {e : Branch} {m : UnitMemory} → IsOn e m → Leads e m
  later : {e : Branch} {m : UnitMemory} (before : List OpenStore) (s : OpenStore) (after : List OpenStore) → e.stores ≡ before ++ s ∷ after
      → s.is_done ≡ false
      → Leads (effect_of e before s after) m → Leads e m

-- of each of the ways to a pair, of one of them
abbrev pub EachWay : List WatchedLoad → (Branch → Type 0) → Pair → Type 0
EachWay loads P e = (path : List Stood) → Has e.past path → P (way_on loads e path)

abbrev pub OneWay : List WatchedLoad → (Branch → Type 0) → Pair → Type 0
OneWay loads P e = (path : List Stood) × Has e.past path × P (way_on loads e path)

-- the loads that are open were requested by a moment, and nothing was overwritten behind it
abbrev pub IsAsked : ℕ → WatchedLoad → Type 0
IsAsked moment l = l.since ≤ moment

abbrev pub IsPairBy : ℕ → Pair → Type 0
IsPairBy moment e = IsBy moment e.past

-- two pairs are not one
abbrev pub IsOther : Pair → Pair → Type 0
IsOther e f = e.word ≡ f.word → e.stores ≡ f.stores → ⊥

abbrev pub AreApart : List Pair → Type 0
AreApart [] = Unit {0}
AreApart (e ∷ es) = Each (IsOther e) es × AreApart es

-- an open store, whether it has taken effect or not
abbrev pub store_key : OpenStore → ℕ × List (Option ℕ)
store_key s = (s.number, s.bytes)

-- the open stores of a pair are these
abbrev pub IsOfStores : List (ℕ × List (Option ℕ)) → Pair → Type 0
IsOfStores keys e = map store_key e.stores ≡ keys

-- these ways lead to exactly the states that the unit may be in after the history. Each pair stands there once, and the open stores of
-- all are the same, but for whether they have taken effect
pub record StandsFor (start : UnitMemory) (unit : UnitPlace) (u : Ways) (history : List HistoryEvent) : Type 0 where
  pub asked : Each (IsAsked u.moment) u.loads
  pub timely : Each (IsPairBy u.moment) u.pairs
  pub apart : AreApart u.pairs
  pub alike : (keys : List (ℕ × List (Option ℕ))) × Each (IsOfStores keys) u.pairs
  pub sound : Each (EachWay u.loads (λ e. (m : UnitMemory) → IsOn e m → MayBe unit start history m)) u.pairs
  pub complete : (m : UnitMemory) → MayBe unit start history m → One (OneWay u.loads (λ e. Leads e m)) u.pairs
