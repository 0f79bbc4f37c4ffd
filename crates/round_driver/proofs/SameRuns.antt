-- Requests that are offered one round at a time give the run that they give as a list.
use Rattle.std.proofs.Common.{◌≡◌, ℕ, zero, suc, List, [], ◌∷◌, refl, arith}
use Rattle.std.specs.Prelude.{slice_get}
use Rattle.machine_core.specs.Words.{Event}
use Rattle.machine_core.specs.Machine.{MachineState}
use Rattle.round_driver.specs.declared.note.Note.{Note}
use Rattle.round_driver.specs.declared.timing.Timing.{Timing}
use Rattle.round_driver.specs.Rounds.{Course, Run, ask, asked, after_round, rounds_until_over}
use Rattle.round_driver.specs.Tables.{counted_all, nothing}
use Rattle.round_driver.specs.Stepping.{Stepped, offered, without_ended, step, steps_until_over, steps_of, IsSameRun}
use Rattle.round_driver.proofs.Runs.{counted_then}

-- what stands behind a round of one request
abbrev behind : List Note → List Event → Run → Stepped
behind told left made =
    record {
      state = made.state;
      rounds = record { schedule = made.schedule; counting = counted_all (counted_all nothing told) made.told };
      left = without_ended left made.left;
    }

-- the request alone, and as the first of those that are left
same_round : (told : List Note) (left : List Event) (c : Course)
    → behind told left (asked [] (offered (slice_get left 0)) c) ≡ steps_of (asked told left c)
same_round told [] c = grind (arith, counted_then nothing told c.notes)
same_round told (event ∷ rest) c = grind (arith, counted_then nothing told (ask event c).notes)

one : (r : Run) → step (steps_of r) ≡ steps_of (after_round r)
unfolding after_round
one r = same_round r.told r.left _

all : (n : ℕ) (r : Run) → steps_until_over n (steps_of r) ≡ steps_of (rounds_until_over n r)
unfolding steps_until_over rounds_until_over
all zero r = refl
all (suc n) r = grind (arith, one, all n (after_round r))

pub is_same_run : (timing : Timing) (s : MachineState) (requests : List Event) (n : ℕ) → IsSameRun timing s requests n
is_same_run timing s requests n = all n _
