-- Worked histories of the atomic law: hidden steps that explain them.
use Rattle.std.specs.Prelude.{ℕ, List, [], ◌∷◌, refl}
use Rattle.std.proofs.Common.{inl, inr}
use Rattle.std.specs.Borrow.{Bor}
use Rattle.memory_histories.specs.declared.events.HistoryEvent.TheVariants.{LoadRequest, LoadResponse, StoreRequest, StoreResponse}
use Rattle.memory_histories.specs.declared.events.TheConstants.{ALL_ENABLED}
use Rattle.memory_histories.specs.declared.events.Rest.TheVariants.{Zeros}
use Rattle.atomic_histories.specs.declared.unit.UnitPlace.{UnitPlace}
use Rattle.atomic_histories.specs.Words.{written, is_word_of}
use Rattle.atomic_histories.specs.Law.{IsAtomicAt, starts, steps, sees}

abbrev bytes : List ℕ → Bor (List ℕ)
bytes xs = record { ref_ptr = (0, 0); now = xs }

abbrev pair : UnitPlace
pair = record { first = 4096; size = 2 }

-- a store of one byte, and its effect comes behind a load that was requested before it
pub old_then_new : IsAtomicAt [] Zeros pair
    (StoreRequest 1 4096 (bytes (90 ∷ [])) 1 ∷ LoadRequest 1 4096 1 ALL_ENABLED ∷ LoadResponse 1
    (bytes (0 ∷ [])) ∷ LoadRequest 1 4096 1 ALL_ENABLED ∷ LoadResponse 1 (bytes (90 ∷ [])) ∷ StoreResponse 1 ∷ [])
unfolding written is_word_of
old_then_new = (
  _,
  sees _ _ _ _ (sees _ _ _ _
      (steps _ _ _ (steps _ _ _ (sees _ _ _ _ (sees _ _ _ _ (steps _ _ _ (sees _ _ _ _ (sees _ _ _ _ starts refl) refl)
      (inr ([], _, [], refl, refl, refl))) refl) refl) (inl ([], _, [], refl, refl, refl))) (inr ([], _, [], refl, refl, refl))) refl) refl,
)

-- a load that enables its second byte alone: what it is answered of its first isn't judged
pub a_byte_that_is_not_enabled : IsAtomicAt [] Zeros pair (LoadRequest 1 4096 2 2 ∷ LoadResponse 1 (bytes (99 ∷ 0 ∷ [])) ∷ [])
unfolding written is_word_of
a_byte_that_is_not_enabled = (
  _,
  sees _ _ _ _ (steps _ _ _ (sees _ _ _ _ starts refl) (inr ([], _, [], refl, refl, refl))) refl,
)
