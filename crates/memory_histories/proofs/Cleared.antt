-- Lanes that are written over, one by one.
use Rattle.std.proofs.Common.{◌≡◌, ℕ, ◌+◌, ◌<◌, ◌≤◌, List, [], ◌∷◌, ◌++◌, length, take, drop, get_or, set, Option, None, refl}
use Rattle.std.proofs.Common.{append_assoc, add-one, drop-cons, take-append-drop, append-nil, drop-set-lt, arith}
use Rattle.std.proofs.lemmas.List.{take_more_set, drop_all}
use Rattle.memory_histories.specs.Parts.{cleared, cleared_lanes}

-- what is written over so far, and what is left
abbrev pub cleared_from : ℕ → List (Option ℕ) → List (Option ℕ) → List (Option ℕ)
cleared_from k over lanes = take k lanes ++ cleared_lanes (drop k over) (drop k lanes)

pub clear_more : (over lanes : List (Option ℕ)) (k : ℕ) → k < length lanes → k < length over
    → cleared_from (k + 1) over (set lanes k (cleared (get_or over k None) (get_or lanes k None))) ≡ cleared_from k over lanes
clear_more over lanes k h l = grind (
  arith,
  take_more_set,
  append_assoc,
  add-one,
  drop-set-lt,
  drop-cons over k None,
  drop-cons lanes k None,
)

pub clear_past : (over lanes : List (Option ℕ)) (k : ℕ) → k < length lanes → length over ≤ k
    → cleared_from (k + 1) over lanes ≡ cleared_from k over lanes
clear_past over lanes k h l = grind (arith, drop_all, take-append-drop)

cleared_none : (over : List (Option ℕ)) → cleared_lanes over [] ≡ []
cleared_none [] = refl
cleared_none (e ∷ es) = refl

pub clear_all : (over lanes : List (Option ℕ)) (k : ℕ) → length lanes ≤ k → cleared_from k over lanes ≡ lanes
clear_all over lanes k h = grind (arith, drop_all, cleared_none, append-nil, take-append-drop)
