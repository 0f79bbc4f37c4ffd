-- Steps until it is over: what they keep, and that they end.
use Rattle.std.proofs.Common.{◌≡◌, ℕ, zero, suc, ◌+◌, ◌≤◌, Bool, true, false, cond, refl, arith}
use Rattle.machine_core.specs.Pump.{until}

module _ {S : Type 0} (over : S → Bool) (step : S → S) where
  pub stays : (n : ℕ) (s : S) → over s ≡ true → until over step n s ≡ s
  stays zero s e = refl
  stays (suc n) s e = rw e refl

  pub goes : (n : ℕ) (s : S) → over s ≡ false → until over step (suc n) s ≡ until over step n (step s)
  goes n s e = rw e refl

  -- one step more
  pub one_more : (n : ℕ) (s : S) → over (until over step n s) ≡ false → until over step (n + 1) s ≡ step (until over step n s)
  one_more zero s e = rw e refl
  one_more (suc n) s e = grind (arith, stays, one_more n (step s))

  -- behind the end there are no steps
  pub no_more : (n m : ℕ) (s : S) → n ≤ m → over (until over step n s) ≡ true → until over step m s ≡ until over step n s
  no_more zero m s l e = stays m s e
  no_more (suc n) zero s l e = absurd (omega arith)
  no_more (suc n) (suc m) s l e = grind (arith, stays, no_more n m (step s))

  -- what is so before each step and behind it
  pub keeps : (P : S → Type 0) → ((s : S) → over s ≡ false → P s → P (step s)) → (n : ℕ) (s : S) → P s → P (until over step n s)
  keeps P kept zero s p = p
  keeps P kept (suc n) s p = elim (over s) as (λ b. over s ≡ b → P (cond b s (until over step n (step s)))) [
    | true ↦ (λ q. p)
    | false ↦ (λ q. keeps P kept n (step s) (kept s q p))
  ] refl

  -- it is over, with so much left to do
  pub record Ended (Left : ℕ → S → Type 0) (s : S) : Type 0 where
    pub is_over : over s ≡ true
    pub left : ℕ
    pub still : Left left s

  -- where each step leaves less to do, and with nothing to do it is over, as many steps as there is to do are enough
  pub ends : (Left : ℕ → S → Type 0) → ((s : S) → Left 0 s → over s ≡ true)
      → ((n : ℕ) (s : S) → over s ≡ false → Left (suc n) s → Left n (step s)) → (n : ℕ) (s : S) → Left n s
      → Ended Left (until over step n s)
  ends Left rests less zero s l = record { is_over = rests s l; left = 0; still = l }
  ends Left rests less (suc n) s l = elim (over s) as (λ b. over s ≡ b → Ended Left (cond b s (until over step n (step s)))) [
    | true ↦ (λ q. record { is_over = q; left = suc n; still = l })
    | false ↦ (λ q. ends Left rests less n (step s) (less n s q l))
  ] refl
