-- Whether a set has another byte than one.
use Rattle.std.proofs.Common.{◌≡◌, ℕ, zero, suc, ◌+◌, ◌==◌, ◌&&◌, ◌||◌, not, true, false, refl, sym, ◌∙◌, ap, subst, arith}
use Rattle.std.specs.Prelude.{nat_eq}
use Rattle.std.specs.Cmp.Lexicographic.{pointwise, same_text}
use Rattle.memory_histories.specs.declared.sets.ByteSet.{ByteSet}
use Rattle.memory_histories.specs.Sets.{has, with_byte, no_bytes}
use Rattle.memory_histories.proofs.Requests.{has-only}
use Rattle.history_sessions.specs.Choices.{has_other}

pub none_more : (set : ByteSet) (b : ℕ) → has_other set b 0 ≡ false
unfolding has_other
none_more set b = refl

pub one_more : (set : ByteSet) (b c : ℕ) → has_other set b (c + 1) ≡ (has_other set b c || (not (c == b) && has set c))
unfolding has_other
one_more set b c = let e : c + 1 ≡ suc c = omega arith in ap (has_other set b) e

only_one : (set : ByteSet) (b count : ℕ) → ((c : ℕ) → has set c ≡ (b == c)) → has_other set b count ≡ false
unfolding has_other
only_one set b zero is = refl
only_one set b (suc c) is = grind (arith, is c, only_one set b c is)

-- a set of one byte has no other
pub alone : (set : ByteSet) (b : ℕ) → set ≡ with_byte no_bytes b → has_other set b 256 ≡ false
alone set b same = only_one set b 256 (λ c. subst (λ s. has s c ≡ (b == c)) (sym same) (has-only b c))

same_set : (s t : ByteSet) → s.words ≡ t.words → s ≡ t
same_set s t same = λ i. record { words = same i }

-- the same where their words were compared
pub alone_by_words : (s t : ByteSet) (b : ℕ) → t ≡ with_byte no_bytes b → true ≡ pointwise nat_eq s.words t.words
    → has_other s b 256 ≡ false
alone_by_words s t b is words = alone s b (same_set s t (same_text s.words t.words words) ∙ is)
