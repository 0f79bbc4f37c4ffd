-- The bytes of a set, one by one.
use Rattle.std.proofs.Common.{◌≡◌, ℕ, ◌+◌, true, false, cond, List, [], ◌∷◌, ◌++◌, append-nil, sym, ◌∙◌, ap, arith}
use Rattle.std.specs.List.{filter, range_with_len}
use Rattle.std.proofs.lemmas.List.Elements.{filter-append}
use Rattle.flat_model.proofs.Numbers.{range_next}
use Rattle.history_sessions.specs.Words.{ByteSet, has}
use Rattle.history_text.specs.Answers.{bytes_in_set}

filtered : (set : ByteSet) (n : ℕ)
    → filter (has set) (range_with_len 0 (n + 1)) ≡ filter (has set) (range_with_len 0 n) ++ filter (has set) (n ∷ [])
filtered set n = ap (filter (has set)) (range_next n) ∙ filter-append _ (range_with_len 0 n) (n ∷ [])

-- a byte of the set comes behind the smaller ones
pub with_byte : (set : ByteSet) (bytes more : List ℕ) (n : ℕ) → bytes ≡ filter (has set) (range_with_len 0 n) → has set n ≡ true
    → more ≡ bytes ++ n ∷ [] → more ≡ filter (has set) (range_with_len 0 (n + 1))
with_byte set bytes more n smaller is pushed =
    pushed ∙ ap (λ l. l ++ n ∷ []) smaller ∙ sym (filtered set n ∙ ap (λ t. filter (has set) (range_with_len 0 n) ++ cond t (n ∷ []) []) is)

-- one that isn't of the set doesn't
pub without_byte : (set : ByteSet) (bytes more : List ℕ) (n : ℕ) → bytes ≡ filter (has set) (range_with_len 0 n) → has set n ≡ false
    → more ≡ bytes → more ≡ filter (has set) (range_with_len 0 (n + 1))
without_byte set bytes more n smaller is same =
    same ∙ smaller ∙ sym (append-nil (filter (has set) (range_with_len 0 n)))
    ∙ sym (filtered set n ∙ ap (λ t. filter (has set) (range_with_len 0 n) ++ cond t (n ∷ []) []) is)

pub all_bytes : (set : ByteSet) (bytes : List ℕ) (n : ℕ) → n ≡ 256 → bytes ≡ filter (has set) (range_with_len 0 n)
    → bytes ≡ bytes_in_set set
unfolding bytes_in_set
all_bytes set bytes n e smaller = grind arith
