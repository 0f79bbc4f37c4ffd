-- The tags below a number that are owed a word, and those below the next.
use Rattle.std.proofs.Common.{◌≡◌, ◌≢◌, ℕ, suc, zero, ◌+◌, ◌≤◌, Bool, true, false, cond, List, [], ◌∷◌, ◌++◌, length, get_or, refl}
use Rattle.std.proofs.Common.{sym, ap, ◌∙◌, arith, length-append, append-nil}
use Rattle.std.specs.Prelude.{is_some}
use Rattle.std.specs.List.{filter, range_with_len}
use Rattle.std.proofs.lemmas.List.Elements.{filter-append}
use Rattle.flat_model.proofs.Numbers.{range_next}
use Rattle.flat_judge.specs.declared.table.Due.{Due}
use Rattle.flat_judge.specs.Table.{due_in, owed_below, nth_tag}

-- below 0 there are none
pub owed_first : (due : List Due) → owed_below due 0 ≡ []
unfolding owed_below
owed_first due = refl

-- the next number, by whether it is owed a word
pub owed_more : (due : List Due) (n : ℕ) (b : Bool) → is_some (due_in due n) ≡ b → owed_below due (n + 1) ≡ owed_below due n
    ++ cond b (n ∷ []) []
unfolding owed_below
owed_more due n b e =
    let owed = λ (tag : ℕ). is_some (due_in due tag) in
    ap (filter owed) (range_next n) ∙ filter-append owed (range_with_len 0 n) (n ∷ [])
    ∙ ap (λ v. filter owed (range_with_len 0 n) ++ cond v (n ∷ []) []) e

-- a place in a list that is one longer: the last, or one of those before, or none
pub at_last : (xs : List ℕ) (k n d : ℕ) → length xs ≡ n → get_or (xs ++ k ∷ []) n d ≡ k
at_last [] k n d e = rw (← e) refl
at_last (x ∷ xs) k zero d e = cc
at_last (x ∷ xs) k (suc n) d e = at_last xs k n d (omega arith)

pub at_other : (xs : List ℕ) (k n d : ℕ) → length xs ≢ n → get_or (xs ++ k ∷ []) n d ≡ get_or xs n d
at_other [] k zero d e = absurd (e refl)
at_other [] k (suc n) d e = refl
at_other (x ∷ xs) k zero d e = refl
at_other (x ∷ xs) k (suc n) d e = at_other xs k n d (omega arith)

-- so many are owed below `k`, and the one at place `n` among them is this
abbrev pub Counts : List Due → ℕ → ℕ → ℕ → ℕ → ℕ → Type 0
Counts due n old k count nth = (count ≡ length (owed_below due k)) × (count ≤ k) × (nth ≡ nth_tag old (owed_below due k) n)

-- the next number: it is owed nothing; or it is the one at the place; or it is another
pub counts_none : (due : List Due) (n old k count nth : ℕ) → Counts due n old k count nth → is_some (due_in due k) ≡ false
    → Counts due n old (k + 1) count nth
counts_none due n old k count nth h e =
    let same : owed_below due (k + 1) ≡ owed_below due k = owed_more due k false e ∙ append-nil (owed_below due k) in
    (h.0 ∙ ap length (sym same), omega arith, h.2 ∙ ap (λ tags. nth_tag old tags n) (sym same))

counts_one : (due : List Due) (k count : ℕ) → count ≡ length (owed_below due k) → is_some (due_in due k) ≡ true
    → count + 1 ≡ length (owed_below due (k + 1))
counts_one due k count h e =
    let longer : length (owed_below due (k + 1)) ≡ length (owed_below due k) + 1 = ap length (owed_more due k true e)
    ∙ length-append (owed_below due k) (k ∷ []) in
    omega arith

pub counts_last : (due : List Due) (n old k count nth : ℕ) → Counts due n old k count nth → is_some (due_in due k) ≡ true → count ≡ n
    → Counts due n old (k + 1) (count + 1) k
counts_last due n old k count nth h e is =
    let found = at_last (owed_below due k) k n old (sym h.0 ∙ is) in
    (counts_one due k count h.0 e, omega arith, sym (ap (λ tags. nth_tag old tags n) (owed_more due k true e) ∙ found))

pub counts_other : (due : List Due) (n old k count nth : ℕ) → Counts due n old k count nth → is_some (due_in due k) ≡ true → count ≢ n
    → Counts due n old (k + 1) (count + 1) nth
counts_other due n old k count nth h e other =
    let kept = at_other (owed_below due k) k n old (λ (q : length (owed_below due k) ≡ n). other (h.0 ∙ q)) in
    (counts_one due k count h.0 e, omega arith, h.2 ∙ sym (ap (λ tags. nth_tag old tags n) (owed_more due k true e) ∙ kept))

-- the same under other names
pub counts_same : (due : List Due) (n old k count nth count' nth' : ℕ) → count' ≡ count → nth' ≡ nth → Counts due n old k count nth
    → Counts due n old k count' nth'
counts_same due n old k count nth count' nth' p q h = (p ∙ h.0, omega arith, q ∙ h.2)
