-- What is told of requests in rounds that are followed to their ends.
use Rattle.std.specs.Prelude.{◌≡◌, ℕ, zero, suc, min, Bool, false, if◌then◌else◌, List, length, take, drop, Option, Some, None}
use Rattle.std.specs.Prelude.{slice_get}
use Rattle.flat_model.specs.declared.image.Image.{Image}
use Rattle.register_sweeps.specs.Machine.{MachineState}
use Rattle.register_sweeps.specs.Sweep.{machine_over}
use Rattle.round_driver.specs.Rounds.{Run, is_end, is_over_at}
use Rattle.round_driver.specs.Stepping.{Stepped, start_of_steps, one_round, after_one, report_of}
use Rattle.round_driver.specs.declared.note.Note.{Note}
use Rattle.round_driver.specs.declared.stepping.RoundReport.{RoundReport}
use Rattle.round_driver.specs.declared.stepping.TheConstants.{MOST_ROUNDS}
use Rattle.result_figures.specs.Turns.{Sight, sight_of, sight_behind, nothing_seen}
use Rattle.result_figures.specs.declared.seen.Seen.{Seen}
use Rattle.shape_files.specs.MachineFile.{bad_machine}
use Rattle.kroft_jobs.specs.Words.{Sizes, Event, Timing, AccessGroup}
use Rattle.kroft_jobs.specs.Asking.{Asks}
use Rattle.kroft_jobs.specs.declared.asked.RequestText.{RequestText}
use Rattle.kroft_jobs.specs.declared.following.FollowedRun.{FollowedRun}
use Rattle.kroft_jobs.specs.declared.following.TheConstants.{MOST_FOLLOWED}

-- ---- a round

abbrev pub has_ended : Option Note → Bool
has_ended None = false
has_ended (Some n) = is_end n.answer

-- the request that was asked is used up once it has ended
abbrev pub left_behind : List Event → Option Note → List Event
left_behind left asked = if has_ended asked then drop 1 left else left

-- ---- a run

-- the round in which the first of them is asked
abbrev pub made_in : Stepped → Run
made_in f = one_round f.state f.rounds (slice_get f.left 0)

abbrev pub report_in : Stepped → RoundReport
report_in f = report_of (slice_get f.left 0) (made_in f)

abbrev pub next : Stepped → Stepped
next f =
    record {
      state = (made_in f).state;
      rounds = after_one f.rounds (made_in f);
      left = left_behind f.left (report_in f).asked;
    }

-- what was seen behind it
abbrev pub seen_in : Stepped → Sight → Sight
seen_in f seen = sight_behind (next f).state (next f).rounds.schedule.round (report_in f) seen

-- rounds until the requests are used up and nothing is on its way, so many at most
unfoldable pub seen_along : ℕ → Stepped → Sight → Sight
seen_along zero f seen = seen
seen_along (suc n) f seen = if is_over_at f.state f.left then seen else seen_along n (next f) (seen_in f seen)

abbrev pub followed : Timing → MachineState → List Event → Sight
followed timing s requests = seen_along MOST_ROUNDS (start_of_steps timing s requests) nothing_seen

-- ---- another machine beside it, if there is one

abbrev pub IsGood : Option Sizes → Type 0
IsGood None = Unit {0}
IsGood (Some sizes) = bad_machine sizes ≡ None

abbrev pub IsFollowedBeside : Timing → Option Sizes → Image → List Event → Option Seen → Type 0
IsFollowedBeside timing None image requests None = Unit {0}
IsFollowedBeside timing (Some sizes) image requests (Some seen) = sight_of seen ≡ followed timing (machine_over image sizes) requests
IsFollowedBeside timing beside image requests seen = ⊥

-- the first requests of an input are followed on both
abbrev pub FollowsAll : {R : Type 0} (gave : R → List ℕ → R → Type 0) (from : RequestText) (room : ℕ) (timing : Timing) (s : MachineState)
    (beside : Option Sizes) (image : Image) (input input' : R) → FollowedRun → Type 0
FollowsAll gave from room timing s beside image input input' run =
    (requests : List Event) × (groups : List AccessGroup) × Asks gave from room input input' requests groups
    × (run.requests ≡ length requests) × (sight_of run.first ≡ followed timing s (take (min (length requests) MOST_FOLLOWED) requests))
    × IsFollowedBeside timing beside image (take (min (length requests) MOST_FOLLOWED) requests) run.beside
