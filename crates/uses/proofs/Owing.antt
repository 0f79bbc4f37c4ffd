-- Flat memory between a load and its value.
use Rattle.std.proofs.Common.{◌≡◌, ℕ, ◌==◌, Bool, true, false, if◌then◌else◌, List, Some, None, refl, arith}
use Rattle.std.proofs.lemmas.Bool.Decides.{nat_tests}
use Rattle.machine_core.specs.Words.{Word, Event, Load, Store, Prefetch, Evict, Drain, Serve, Arrive, Process, Take, Value}
use Rattle.flat_model.specs.Flat.{Flat, word_at, with_due, same_word, is_owed, flat_after, flat_step}

-- the memory of an image, in which tag 1 is owed the word at an address
abbrev pub owing : List Word → ℕ → Flat
owing image at = record { mem = image; due = with_due (λ tag. None) 1 (Some (word_at image at)) }

word_is : (v w : Word) → same_word v w ≡ true → w ≡ v
word_is v w e = grind (arith, nat_tests)

-- the value that is taken is the word that was owed
pub value_is : (image : List Word) (at : ℕ) (e : Event) (tag : ℕ) (word : Word) (t : Flat)
    → flat_step (owing image at) e (Value tag word) ≡ Some t → word ≡ word_at image at
value_is image at e tag word t q = go e q
  where
    owed : (b : Bool) → is_owed (if b then Some (word_at image at) else None) word ≡ true → word ≡ word_at image at
    owed true k = word_is (word_at image at) word k
    owed false k = cc

    taken : (b : Bool) → is_owed (if tag == 1 then Some (word_at image at) else None) word ≡ b
        → (if b then Some (flat_after (owing image at) (Take 0) (Value tag word)) else None) ≡ Some t → word ≡ word_at image at
    taken true k p = owed (tag == 1) k
    taken false k p = cc

    go : (e : Event) → flat_step (owing image at) e (Value tag word) ≡ Some t → word ≡ word_at image at
    go (Take place) p = taken _ refl p
    go (Load tag at) p = cc
    go (Store at w l) p = cc
    go (Prefetch at) p = cc
    go (Evict b) p = cc
    go Drain p = cc
    go (Serve b) p = cc
    go (Arrive b p) q = cc
    go (Process p) q = cc
