-- A chain of words, each of which is the address of the next.
use Rattle.std.specs.Prelude.{◌≡◌, ℕ, ◌+◌, ◌*◌, List, [], ◌∷◌, ◌++◌}
use Rattle.std.specs.List.{All}
use Rattle.flat_model.specs.declared.Word.{Word}
use Rattle.station_journal.specs.declared.asks.Ask.{Ask}
use Rattle.station_journal.specs.declared.asks.Ask.TheVariants.{Load}
use Rattle.station_journal.specs.declared.asks.Told.{Told}
use Rattle.station_journal.specs.declared.asks.Told.TheVariants.{Value}

-- the address that a word is, byte 0 first
abbrev pub address_in : Word → ℕ
address_in w = w.b0 + 256 * w.b1 + 65536 * w.b2 + 16777216 * w.b3

-- where the chain stands behind a telling: at the address that a value is
abbrev pub next_of : ℕ → Told → ℕ
next_of at (Value tag word) = address_in word
next_of at told = at

-- where it stands behind tellings
abbrev pub stands_at : ℕ → List Told → ℕ
stands_at at [] = at
stands_at at (told ∷ rest) = stands_at (next_of at told) rest

-- an address at which the chain stood behind some of the tellings
pub record HasStoodAt (first : ℕ) (tellings : List Told) (at : ℕ) : Type 0 where
  pub before : List Told
  pub rest : List Told
  pub is : tellings ≡ before ++ rest
  pub stood : at ≡ stands_at first before

-- a load follows the chain; of what else is asked nothing is said
abbrev pub Follows : ℕ → List Told → Ask → Type 0
Follows first tellings (Load tag at) = HasStoodAt first tellings at
Follows first tellings ask = Unit {0}

-- what a port that follows a chain from an address has asked and was told, and where it stands
pub record IsFollowed (first : ℕ) (asked : List Ask) (tellings : List Told) (at : ℕ) : Type 0 where
  pub each : All (Follows first tellings) asked
  pub now : at ≡ stands_at first tellings
