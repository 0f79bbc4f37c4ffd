-- A memory that the regular law never blames: each operation takes effect at a hidden moment within its window.
use Rattle.std.specs.Prelude.{ℕ, ◌≡◌, ◌<◌, ◌≤◌, ◌⊎◌, List, Option, Some, None, slice_get}
use Rattle.std.specs.List.{Any, Contains}
use Rattle.memory_histories.specs.declared.events.Rest.{Rest}
use Rattle.memory_histories.specs.declared.windows.StoreByte.{StoreByte}
use Rattle.memory_histories.specs.declared.windows.LoadByte.{LoadByte}
use Rattle.memory_histories.specs.Regular.{IsInitial}

-- a hidden moment came before the response, if there was one. `time` is the hidden moment of each event
abbrev pub IsAnsweredAfter : (ℕ → ℕ) → ℕ → Option ℕ → Type 0
IsAnsweredAfter time moment None = Unit {0}
IsAnsweredAfter time moment (Some end) = moment < time end

-- a store took effect within its window, or it is open and didn't yet
abbrev pub IsWithin : (ℕ → ℕ) → StoreByte → Option ℕ → Type 0
IsWithin time s None = s.ended ≡ None
IsWithin time s (Some moment) = (time s.began < moment) × IsAnsweredAfter time moment s.ended

-- of the stores to its byte that took effect before the moment, this one was the last
abbrev pub IsLatest : (StoreByte → Option ℕ) → ℕ → List StoreByte → StoreByte → Type 0
IsLatest effect moment stores s =
    (m : ℕ) × ((effect s ≡ Some m)
    × ((m < moment)
    × ((other : StoreByte) → Contains stores other → other.address ≡ s.address → (n : ℕ)
    → effect other ≡ Some n → n < moment → n ≤ m)))

-- no store to the byte took effect before the moment
abbrev pub NoneBefore : (StoreByte → Option ℕ) → ℕ → List StoreByte → ℕ → Type 0
NoneBefore effect moment stores address = (other : StoreByte) → Contains stores other → other.address ≡ address → (n : ℕ)
    → effect other ≡ Some n → n < moment → ⊥

-- there are hidden moments for the stores so far and for this load, at which it got this byte
pub record Explains (image : List ℕ) (rest : Rest) (stores : List StoreByte) (l : LoadByte) (b : ℕ) : Type 0 where
  pub time : ℕ → ℕ
  pub effect : StoreByte → Option ℕ
  pub moment : ℕ
  pub rises : (e f : ℕ) → e < f → time e < time f
  pub within : (s : StoreByte) → Contains stores s → IsWithin time s (effect s)
  pub after_request : time l.began < moment
  pub got : Any (λ s. (s.address ≡ l.address) × ((s.byte ≡ b) × IsLatest effect moment stores s)) stores
      ⊎ (IsInitial (slice_get image l.address) rest b × NoneBefore effect moment stores l.address)
