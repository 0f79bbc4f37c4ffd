-- The first of the places that a search gives.
use Rattle.std.proofs.Common.{◌≡◌, ◌≢◌, ℕ, zero, suc, ◌+◌, ◌-◌, ◌<◌, ◌≤◌, Bool, true, false, List, [], ◌∷◌, Option, Some, None}
use Rattle.std.proofs.Common.{length, arith, sym, ◌∙◌}
use Rattle.std.specs.Prelude.{slice_index, IfSome, IfNone}
use Rattle.std.proofs.lemmas.Bool.{eqb-true}
use Rattle.memchr.specs.Find.{places_from, places, is_byte, TakesFirst}
use Rattle.trace_text.specs.Streams.{HasNoEnd}

abbrev Passes : (ℕ → Bool) → List ℕ → ℕ → Bool
Passes test hay k = test (slice_index hay k)

none_from : (test : ℕ → Bool) (hay : List ℕ) (n i k : ℕ) → places_from test hay i n ≡ [] → i ≤ k → k < i + n → Passes test hay k ≡ false
unfolding places_from
none_from test hay zero i k e above below = absurd (omega arith)
none_from test hay (suc n) i k e above below = grind (arith, none_from test hay n (i + 1) k)

first_passes : (test : ℕ → Bool) (hay : List ℕ) (n i x : ℕ) (rest : List ℕ) → places_from test hay i n ≡ x ∷ rest
    → (i ≤ x) × (x < i + n) × (Passes test hay x ≡ true)
unfolding places_from
first_passes test hay zero i x rest e = cc
first_passes test hay (suc n) i x rest e = grind (arith, first_passes test hay n (i + 1) x rest)

-- and no place before it passes
first_before : (test : ℕ → Bool) (hay : List ℕ) (n i x k : ℕ) (rest : List ℕ) → places_from test hay i n ≡ x ∷ rest → i ≤ k → k < x
    → Passes test hay k ≡ false
unfolding places_from
first_before test hay zero i x k rest e above below = cc
first_before test hay (suc n) i x k rest e above below = grind (arith, first_before test hay n (i + 1) x k rest)

from_start : (bytes : List ℕ) (k : ℕ) → Passes (is_byte 10) bytes k ≡ false → slice_index bytes k ≢ 10
from_start bytes k e = grind arith

pub first_end : (bytes s t : List ℕ) (r : Option ℕ) → s ≡ places (is_byte 10) bytes → TakesFirst s r t
    → IfSome r (λ at. (at < length bytes) × (slice_index bytes at ≡ 10) × ((k : ℕ) → k < at → slice_index bytes k ≢ 10))
first_end bytes s t None e h = tt
first_end bytes s t (Some at) e h =
    let first = first_passes (is_byte 10) bytes (length bytes - 0) 0 at t (sym e ∙ h) in (
      omega (arith, first.1),
      eqb-true (slice_index bytes at) 10 first.2,
      λ k lt. from_start bytes k (first_before (is_byte 10) bytes (length bytes - 0) 0 at k t (sym e ∙ h) (omega arith) lt),
    )

pub no_end : (bytes s t : List ℕ) (r : Option ℕ) → s ≡ places (is_byte 10) bytes → TakesFirst s r t → IfNone r (HasNoEnd bytes)
no_end bytes s t None e h = λ k lt. from_start bytes k
    (none_from (is_byte 10) bytes (length bytes - 0) 0 k (sym e ∙ h.0) (omega arith) (omega (arith, lt)))
no_end bytes s t (Some at) e h = tt
