-- Going once through a queue: the bytes and lanes found so far, and those in the entries that are left.
use Rattle.std.proofs.Common.{◌==◌, true, false, List, [], ◌∷◌, subst, ◌≡◌, ℕ, zero, suc, ◌+◌, ◌*◌, ◌/◌, ◌%◌, ◌≤◌, max, bit_or, refl, sym}
use Rattle.std.proofs.Common.{ap, ap₂, ◌∙◌, arith}
use Rattle.std.proofs.lemmas.Nat.{or_shr}
use lib.Bits.{or_step, or_zero_r}
use Rattle.flat_model.specs.declared.Lanes.{Lanes}
use Rattle.flat_model.specs.declared.Word.{Word}
use Rattle.flat_model.specs.Words.{zero_word, no_lanes, joined, merged}
use Rattle.flat_model.proofs.Lanewise.{joined-none}
use Rattle.write_queue.specs.declared.Queued.{Queued}
use Rattle.write_queue.specs.Queue.{overlaid, queued_lanes, newest}

or_assoc-below : (n a b c : ℕ) → a ≤ n → bit_or (bit_or a b) c ≡ bit_or a (bit_or b c)
or_assoc-below n zero b c h = refl
or_assoc-below zero (suc a) b c h = absurd (omega arith)
or_assoc-below (suc n) (suc a) b c h =
    let low : bit_or (suc a) b % 2 ≡ max (suc a % 2) (b % 2) = omega (arith, or_step (suc a) b) in
    let low_right : bit_or b c % 2 ≡ max (b % 2) (c % 2) = omega (arith, or_step b c) in
    let left = or_step (bit_or (suc a) b) c ∙ ap₂ (λ (x y : ℕ). bit_or x (c / 2) * 2 + max y (c % 2)) (or_shr (suc a) b 1) low in
    let right = or_step (suc a) (bit_or b c) ∙ ap₂ (λ (x y : ℕ). bit_or (suc a / 2) x * 2 + max (suc a % 2) y) (or_shr b c 1) low_right in
    let halves = or_assoc-below n (suc a / 2) (b / 2) (c / 2) (omega arith) in
    omega (arith, left, right, halves)

joined-assoc : (l m n : Lanes) → joined (joined l m) n ≡ joined l (joined m n)
unfolding joined
joined-assoc l m n = ap (λ (b : ℕ). let r : Lanes = record { 0 = b } in r) (or_assoc-below l.0 l.0 m.0 n.0 (omega arith))

pub joined-none_right : (m : Lanes) → joined m no_lanes ≡ m
unfolding joined
joined-none_right m = ap (λ (b : ℕ). let r : Lanes = record { 0 = b } in r) (or_zero_r m.0)

pub record Found (so_far : Word) (held : Lanes) (left entries : List Queued) (at : ℕ) : Type 0 where
  pub word : overlaid so_far left at ≡ overlaid zero_word entries at
  pub lanes : joined held (queued_lanes left at) ≡ queued_lanes entries at

pub found-start : (word : Word) (lanes : Lanes) (left entries : List Queued) (at : ℕ) → word ≡ zero_word → lanes ≡ no_lanes → left ≡ entries
    → Found word lanes left entries at
found-start word lanes left entries at none empty all =
    rw (none, empty, all) (record { word = refl; lanes = joined-none (queued_lanes entries at) })

pub found-other : (word : Word) (lanes : Lanes) (q : Queued) (rest left entries : List Queued) (at : ℕ) → Found word lanes left entries at
    → left ≡ q ∷ rest → (q.at == at) ≡ false → Found word lanes rest entries at
found-other word lanes q rest left entries at found step other =
    let now : Found word lanes (q ∷ rest) entries at = subst (λ l. Found word lanes l entries at) step found in
    record {
      word = rw other at now.word;
      lanes = rw other at now.lanes;
    }

pub found-more : (word : Word) (lanes : Lanes) (q : Queued) (rest left entries : List Queued) (at : ℕ) → Found word lanes left entries at
    → left ≡ q ∷ rest → (q.at == at) ≡ true → Found (merged word q.word q.lanes) (joined lanes q.lanes) rest entries at
found-more word lanes q rest left entries at found step same =
    let now : Found word lanes (q ∷ rest) entries at = subst (λ l. Found word lanes l entries at) step found in
    record {
      word = rw same at now.word;
      lanes = joined-assoc lanes q.lanes (queued_lanes rest at) ∙ (rw same at now.lanes);
    }

pub found-all : (word : Word) (lanes : Lanes) (left entries : List Queued) (at : ℕ) → Found word lanes left entries at → left ≡ []
    → record { word = word; lanes = lanes } ≡ newest entries at
found-all word lanes left entries at found step =
    let now : Found word lanes [] entries at = subst (λ l. Found word lanes l entries at) step found in
    λ i. record { word = now.word i; lanes = (sym (joined-none_right lanes) ∙ now.lanes) i }
