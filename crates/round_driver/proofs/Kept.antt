-- What the turns of the banks and an arrival keep of a course.
use Rattle.std.proofs.Common.{ℕ, zero, suc, Option, Some, None, arith}
use Rattle.machine_core.specs.Words.{Serve, Arrive}
use Rattle.round_driver.specs.declared.schedule.Schedule.{Schedule}
use Rattle.round_driver.specs.Rounds.{Course, attempt, scheduled, begin, serve_due, bank_turns, arrive_from, arrive}

module _ (Keeps : Course → Type 0) (rescheduled : (p : Schedule) (c : Course) → Keeps c → Keeps (scheduled p c))
    (served : (b : ℕ) (c : Course) → Keeps c → Keeps (attempt (Serve b) c))
    (arrived : (b : ℕ) (c : Course) → Keeps c → Keeps (attempt (Arrive b 0) c)) where
  begun : (b : ℕ) (c : Course) → Keeps c → Keeps (begin b c)
  unfolding begin
  begun b c k = grind (arith, rescheduled)

  had_turn : (b : ℕ) (c : Course) → Keeps c → Keeps (serve_due b c)
  unfolding serve_due
  had_turn b c k = grind (arith, served, rescheduled)

  had_turns : (n b : ℕ) (c : Course) → Keeps c → Keeps (bank_turns n b c)
  unfolding bank_turns
  had_turns zero b c k = k
  had_turns (suc n) b c k = had_turns n _ _ (had_turn b _ (begun b c k))

  one_arrived : (o : Option ℕ) (c : Course) → Keeps c → Keeps (arrive_from o c)
  one_arrived None c k = k
  one_arrived (Some b) c k = arrived b _ (rescheduled _ c k)

  -- the first moves of a round
  pub arrives : (n b : ℕ) (c : Course) → Keeps c → Keeps (arrive (bank_turns n b c))
  unfolding arrive
  arrives n b c k = let turned = had_turns n b c k in grind (arith, one_arrived, turned)
