-- What a request for a word finds.
use Rattle.std.specs.Prelude.{ℕ, if◌then◌else◌, nat_lt, Option, Some, None}
use Rattle.cache_law.specs.declared.Lookup.{Lookup}
use Rattle.cache_law.specs.declared.Lookup.TheVariants.{Hit, Join, Miss}
use Rattle.cache_law.specs.declared.Sizes.{Sizes}
use Rattle.cache_law.specs.State.{Cache, is_present, block_of, place_in}
use Rattle.cache_law.specs.Causes.{Found, Here, Coming, found}

-- in a present block: the word is at hand, or on its way to a register
abbrev pub lookup_in : Found → Lookup
lookup_in (Here word) = Hit
lookup_in (Coming slot) = Join

-- in any block
abbrev pub lookup_of : Cache → ℕ → ℕ → Lookup
lookup_of c block i = if is_present c block then lookup_in (found c block i) else Miss

-- at an address, where memory has such a word
abbrev pub lookup : Sizes → Cache → ℕ → Option Lookup
lookup z c at = if nat_lt at z.words then Some (lookup_of c (block_of z at) (place_in z at)) else None
