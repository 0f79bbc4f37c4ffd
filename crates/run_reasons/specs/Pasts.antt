-- What stood in a byte before it was overwritten.
use Rattle.std.specs.Prelude.{ℕ, ◌+◌, ◌*◌, ◌==◌, if◌then◌else◌, nat_eq, Option, Some}
use Rattle.std.specs.HashMap.{get}
use Rattle.flat_model.specs.declared.Word.{Word}
use Rattle.flat_model.specs.declared.Lanes.{Lanes}
use Rattle.flat_model.specs.Words.{Lane, byte, has, Lane0, Lane1, Lane2, Lane3}
use Rattle.run_reasons.specs.declared.origins.Stores.{Stores}
use Rattle.run_reasons.specs.declared.pasts.Byte.{Byte}
use Rattle.run_reasons.specs.declared.pasts.Byte.TheVariants.{First, Second, Third, Fourth}
use Rattle.run_reasons.specs.declared.pasts.Overwritten.{Overwritten}
use Rattle.run_reasons.specs.declared.pasts.Past.{Past}
use Rattle.run_reasons.specs.declared.pasts.Pasts.{Pasts}

-- ---- a byte of a word: the lane that it has, its number, and the line that last stored it

abbrev pub lane_of : Byte → Lane
lane_of First = Lane0
lane_of Second = Lane1
lane_of Third = Lane2
lane_of Fourth = Lane3

abbrev pub place_of : Lane → ℕ
place_of Lane0 = 0
place_of Lane1 = 1
place_of Lane2 = 2
place_of Lane3 = 3

abbrev pub line_of : Stores → Lane → ℕ
line_of stores Lane0 = stores.b0
line_of stores Lane1 = stores.b1
line_of stores Lane2 = stores.b2
line_of stores Lane3 = stores.b3

-- ---- values that were overwritten

-- a value in a byte of the word at an address, as a number: values are below 256, so no two have the same
abbrev pub value_key : ℕ → Lane → ℕ → ℕ
value_key at lane value = (at * 4 + place_of lane) * 256 + value

-- of each value in each byte: which line had put it there, and which one overwrote it, when that was done last
abbrev pub PastOf : Type 0
PastOf = ℕ → Option Overwritten

-- what a `Past` keeps
unfoldable pub kept : Past → PastOf
kept p = get nat_eq p.values

-- one value was overwritten so
abbrev pub with_past : PastOf → ℕ → Overwritten → PastOf
with_past past key o k = if k == key then Some o else past k

-- Line n stores these lanes of the word at an address, which was this word, put there by these lines: of this byte the
-- value that stood there is overwritten, if its lane is among them.
unfoldable pub overwritten_at : ℕ → Lanes → ℕ → Word → Stores → Lane → PastOf → PastOf
overwritten_at n lanes at old put lane past =
    if has lanes lane then with_past past (value_key at lane (byte old lane)) (record { put = line_of put lane; by = n }) else past

-- the same of each byte
unfoldable pub overwritten_in : ℕ → Lanes → ℕ → Word → Stores → PastOf → PastOf
overwritten_in n lanes at old put past =
    overwritten_at n lanes at old put Lane3
    (overwritten_at n lanes at old put Lane2
    (overwritten_at n lanes at old put Lane1
    (overwritten_at n lanes at old put Lane0 past)))

-- of each byte of a word that came: when this value was last overwritten there
unfoldable pub pasts_of : PastOf → ℕ → Word → Pasts
pasts_of past at got = record {
  b0 = past (value_key at Lane0 got.b0);
  b1 = past (value_key at Lane1 got.b1);
  b2 = past (value_key at Lane2 got.b2);
  b3 = past (value_key at Lane3 got.b3);
}
