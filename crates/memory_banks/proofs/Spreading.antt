-- How many of the words that lie side by side are in one bank.
use Rattle.std.proofs.Common.{◌≡◌, ℕ, zero, suc, ◌+◌, ◌-◌, ◌*◌, ◌/◌, ◌%◌, ◌<◌, ◌≤◌, ◌==◌, length, ap, ◌∙◌, arith, ⊎_elim, eq-eqb, ne_eqb}
use Rattle.std.proofs.Common.{mod-lt, div-add-mod', mul-le-mul_right}
use Rattle.std.specs.List.{filter, range_with_len}
use Rattle.std.proofs.lemmas.Bool.{cases_lt}
use Rattle.std.proofs.lemmas.Nat.{mod-mul-add}

abbrev hits : ℕ → ℕ → ℕ → ℕ → ℕ
hits n b a k = length (filter (λ at. at % n == b) (range_with_len a k))

-- d numbers on, there may be one for bank b: then the next ones are n apart
hits_apart : (n b : ℕ) → b < n → (k a d q : ℕ) → d < n → a + d ≡ q * n + b → hits n b a k * n + d + 1 ≤ k + n
hits_apart n b lb zero a d q ld e = omega arith
hits_apart n b lb (suc k) a zero q ld e =
    let here = ap (λ x. x % n) (let e' : a ≡ q * n + b = omega arith in e') ∙ mod-mul-add q n b lb in
    let rest = hits_apart n b lb k (a + 1) (n - 1) (suc q) (omega arith) (omega arith) in
    rw (eq-eqb (a % n) b here) (omega arith)
hits_apart n b lb (suc k) a (suc d) q ld e =
    let rest = hits_apart n b lb k (a + 1) d q (omega arith) (omega arith) in
    rw (ne_eqb (a % n) b other) (omega arith)
  where
    other : a % n ≡ b → ⊥
    other s = grind arith

-- of k numbers side by side, no more than `most` are for one of n banks, where k is at most `most * n`
pub spread_evenly : (n b a k most : ℕ) → b < n → k ≤ most * n → length (filter (λ at. at % n == b) (range_with_len a k)) ≤ most
spread_evenly n b a k most lb l =
    ⊎_elim (λ big. absurd (omega (arith, mul-le-mul_right n big, few))) (λ s. s) (cases_lt most _)
  where
    e : a / n * n + a % n ≡ a
    e = div-add-mod' a n

    r : a % n < n
    r = mod-lt a (omega (arith, lb))

    few : hits n b a k * n + 1 ≤ k + n
    few = let r' = r in let e' = e in ⊎_elim
        (λ s. omega (arith, hits_apart n b lb k a (b + n - a % n) (suc (a / n)) (omega arith) (omega arith)))
        (λ s. omega (arith, hits_apart n b lb k a (b - a % n) (a / n) (omega arith) (omega arith))) (cases_lt b (a % n))
