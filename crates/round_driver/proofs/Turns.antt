-- The turns of the loops, one at a time.
use Rattle.std.proofs.Common.{◌≡◌, ℕ, suc, ◌+◌, ◌-◌, ◌<◌, ◌≤◌, true, false, cond, Some, None, arith}
use Rattle.machine_core.specs.Machine.{MachineState}
use Rattle.round_driver.specs.Machines.{has_answer, used_at, used_among}
use Rattle.round_driver.specs.Rounds.{Course, begin, serve_due, bank_turns, first_with_answer}

pub left : (n i : ℕ) → i < n → n - i ≡ suc (n - (i + 1))
left n i h = omega arith

-- ---- banks

pub bank_more : (n i : ℕ) (c d e : Course) → d ≡ begin i c → e ≡ serve_due i d → i < n
    → bank_turns (n - i) i c ≡ bank_turns (n - (i + 1)) (i + 1) e
unfolding bank_turns
bank_more n i c d e p q turn = grind arith

pub no_bank_left : (n i : ℕ) (c : Course) → n ≤ i → bank_turns (n - i) i c ≡ c
unfolding bank_turns
no_bank_left n i c h = grind arith

-- ---- the first answer

module _ (s : MachineState) (n i : ℕ) where
  once : i < n → first_with_answer s (n - i) i ≡ cond (has_answer s i) (Some i) (first_with_answer s (n - (i + 1)) (i + 1))
  unfolding first_with_answer
  once turn = grind arith

  pub answer_here : i < n → has_answer s i ≡ true → first_with_answer s (n - i) i ≡ Some i
  answer_here turn h = grind (arith, once)

  pub no_answer_here : i < n → has_answer s i ≡ false → first_with_answer s (n - i) i ≡ first_with_answer s (n - (i + 1)) (i + 1)
  no_answer_here turn h = grind (arith, once)

  pub no_answer_left : n ≤ i → first_with_answer s (n - i) i ≡ None
  unfolding first_with_answer
  no_answer_left h = grind arith

-- ---- registers in use

module _ (s : MachineState) (n i : ℕ) where
  pub one_register : i < n → used_among s (n - i) i ≡ used_at s i + used_among s (n - (i + 1)) (i + 1)
  unfolding used_among
  one_register turn = grind arith

  pub no_register_left : n ≤ i → used_among s (n - i) i ≡ 0
  unfolding used_among
  no_register_left h = grind arith
