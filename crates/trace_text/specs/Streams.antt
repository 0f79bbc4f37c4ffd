-- What a reader gave and what a writer took.
use Rattle.std.specs.Prelude.{◌≡◌, ◌≢◌, ℕ, ◌<◌, List, ◌++◌, length, slice_index}
use Rattle.std.specs.List.{FoldsTo, concat}
use Rattle.trace_text.specs.Codes.{line_feed}

-- bytes with no LF among them
abbrev pub HasNoEnd : List ℕ → Type 0
HasNoEnd bytes = (k : ℕ) → k < length bytes → slice_index bytes k ≢ line_feed

-- A read gave these bytes, at least one: it was not the end.
abbrev pub Came : {S : Type 0} → (S → List ℕ → S → Type 0) → S → List ℕ → S → Type 0
Came gave old bytes new = gave old bytes new × (0 < length bytes)

-- From one state to the other, these bytes moved, in one piece after another.
pub record Moves {S : Type 0} (step : S → List ℕ → S → Type 0) (old : S) (bytes : List ℕ) (new : S) : Type 0 where
  pub pieces : List (List ℕ)
  pub steps : FoldsTo step old pieces new
  pub whole : concat pieces ≡ bytes

-- A front of the bytes moved, and then a write was refused.
pub record Stopped {S : Type 0} (step : S → List ℕ → S → Type 0) (refused : S → S → Type 0) (old : S) (bytes : List ℕ)
    (new : S) : Type 0 where
  pub front : List ℕ
  pub back : List ℕ
  pub whole : bytes ≡ front ++ back
  pub last : S
  pub moved : Moves step old front last
  pub refusal : refused last new

-- A front of the bytes has moved.
pub record Partly {S : Type 0} (step : S → List ℕ → S → Type 0) (old : S) (bytes : List ℕ) (rest : List ℕ) (new : S) : Type 0 where
  pub front : List ℕ
  pub whole : bytes ≡ front ++ rest
  pub moved : Moves step old front new
