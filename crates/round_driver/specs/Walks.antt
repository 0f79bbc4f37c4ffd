-- What was told of a run, as the machine's walk and as the requests' ends.
use Rattle.std.specs.Prelude.{◌≡◌, ℕ, ◌<◌, Bool, true, false, ◌&&◌, if◌then◌else◌, List, [], ◌∷◌, ◌++◌, map, length}
use Rattle.std.specs.List.{list_all}
use Rattle.machine_core.specs.Words.{Event, Load, Store, Prefetch, Evict, Answer}
use Rattle.machine_core.specs.Machine.{MachineState, walked, told}
use Rattle.round_driver.specs.declared.note.Note.{Note}
use Rattle.round_driver.specs.declared.timing.Timing.{Timing}
use Rattle.round_driver.specs.Rounds.{Run, is_end, start_of, is_over, rounds_until_over, most_rounds, whole_run}

abbrev pub events_of : List Note → List Event
events_of notes = map (λ n. n.event) notes

abbrev pub answers_of : List Note → List Answer
answers_of notes = map (λ n. n.answer) notes

-- these events with these answers are the machine's walk from the one state to the other
pub record IsWalk (s : MachineState) (notes : List Note) (t : MachineState) : Type 0 where
  pub ends : t ≡ record { sizes = s.sizes; machine = walked s.sizes s.machine (events_of notes) }
  pub tells : told s.sizes s.machine (events_of notes) ≡ answers_of notes

abbrev pub is_request : Event → Bool
is_request (Load tag at) = true
is_request (Store at word lanes) = true
is_request (Prefetch at) = true
is_request (Evict block) = true
is_request event = false

-- the requests that were accepted or denied, in this order
abbrev pub ended : List Note → List Event
ended [] = []
ended (n ∷ ns) = if is_request n.event && is_end n.answer then n.event ∷ ended ns else ended ns

-- wherever a run stands: what was told is the machine's walk, and each request that isn't left was accepted or denied
-- once, in its order
pub record IsTold (s : MachineState) (requests : List Event) (r : Run) : Type 0 where
  pub walks : IsWalk s r.told r.state
  pub in_order : list_all is_request requests ≡ true → ended r.told ++ r.left ≡ requests

abbrev pub RunIsTold : Timing → MachineState → List Event → ℕ → Type 0
RunIsTold timing s requests n = IsTold s requests (rounds_until_over n (start_of timing s requests))

-- the requests are used up, nothing is on its way, and fewer rounds were made than may be
pub record IsOverInTime (timing : Timing) (s : MachineState) (requests : List Event) : Type 0 where
  pub over : is_over (whole_run timing s requests) ≡ true
  pub in_time : (whole_run timing s requests).schedule.round < most_rounds s.sizes timing.latency (length requests)

-- each run of requests is over in time: an event that is no request never ends, and is asked in each round
abbrev pub RequestsEnd : Timing → MachineState → List Event → Type 0
RequestsEnd timing s requests = list_all is_request requests ≡ true → IsOverInTime timing s requests
