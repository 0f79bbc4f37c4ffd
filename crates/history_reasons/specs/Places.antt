-- Where the open stores stand.
use Rattle.std.specs.Prelude.{ℕ, ◌≡◌, ◌-◌, ◌<◌, ◌==◌, ◌&&◌, if◌then◌else◌, Bool, true, List, [], ◌∷◌, length, Option, Some, None, is_none}
use Rattle.std.specs.Prelude.{slice_get, slice_set}
use Rattle.std.specs.List.{list_any, slice_index_or}
use Rattle.std.specs.Option.{option_map}
use Rattle.history_reasons.specs.declared.places.StorePlace.{StorePlace}
use Rattle.history_reasons.specs.declared.stores.KeptStore.{KeptStore}
use Rattle.history_reasons.specs.Stores.{after_answer}

-- whether a place is of a store that is open under this number
abbrev pub is_place_of : ℕ → StorePlace → Bool
is_place_of number p = p.number == number

-- whether it is so, and the store stands there
abbrev pub reaches : ℕ → ℕ → StorePlace → Bool
reaches number k p = is_place_of number p && (p.first == k)

-- each open store is found from the places
abbrev pub AreFound : List StorePlace → List KeptStore → Type 0
AreFound places stores = (k : ℕ) (d : KeptStore) → k < length stores → is_none (slice_index_or stores k d).ended ≡ true
    → list_any (reaches (slice_index_or stores k d).number k) places ≡ true

-- the store at a place, as it is once the one that is open under this number is answered
abbrev pub put : ℕ → Option KeptStore → List KeptStore → List KeptStore
put k None stores = stores
put k (Some s) stores = slice_set stores k s

abbrev pub ended_from : StorePlace → ℕ → ℕ → List KeptStore → List KeptStore
ended_from p number moment stores = put p.first (option_map (after_answer number moment) (slice_get stores p.first)) stores

-- those at each of these places that is of the number
abbrev pub ended_at : List StorePlace → ℕ → ℕ → List KeptStore → List KeptStore
ended_at [] number moment stores = stores
ended_at (p ∷ ps) number moment stores =
    ended_at ps number moment (if is_place_of number p then ended_from p number moment stores else stores)

-- a place once so many stores in front of it are forgotten
abbrev pub moved_down : ℕ → StorePlace → StorePlace
moved_down count p = record { number = p.number; address = p.address; first = p.first - count; most = p.most }
