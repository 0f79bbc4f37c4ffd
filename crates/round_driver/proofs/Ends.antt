-- Every run of requests ends: among any latency + 1 rounds there is one in which the weight falls or a request ends.
use Rattle.std.proofs.Common.{◌≡◌, ℕ, zero, suc, ◌+◌, ◌-◌, ◌*◌, ◌<◌, ◌≤◌, Bool, true, false, cond, List, [], ◌∷◌, ◌++◌, length, Some}
use Rattle.std.proofs.Common.{refl, sym, ap, ap₂, ◌∙◌, subst, arith, ◌⊎◌, inl, inr, mul-le-mul_right}
use Rattle.std.specs.List.{list_all}
use Rattle.std.proofs.lemmas.Bool.{and_parts}
use Rattle.machine_core.specs.Words.{Event, Serve}
use Rattle.machine_core.specs.Machine.{MachineState}
use Rattle.machine_core.specs.Pump.{weight}
use Rattle.machine_core.specs.Law.{ServesRequests}
use Rattle.machine_core.specs.Whole.{IsWholeState}
use Rattle.machine_core.specs.AnyMachine.{after_event, weight_of}
use Rattle.machine_core.proofs.Driving.{Ended}
use Rattle.machine_core.proofs.Driving as driving
use Rattle.machine_core.proofs.Whole.{bound_at_rest, lawful, roomy}
use Rattle.machine_core.proofs.Weighing.{weight_bound, rests_or_waits, HasCommand, leaves_commands}
use Rattle.round_driver.specs.Rounds.{Course, course, Run, ends, first_begun, next_round, moves, ask, asked, after_round}
use Rattle.round_driver.specs.Rounds.{is_over, rounds_until_over, start_of, most_moves, most_rounds, whole_run}
use Rattle.round_driver.specs.Walks.{is_request, RequestsEnd}
use Rattle.round_driver.specs.declared.timing.Timing.{Timing}
use Rattle.round_driver.proofs.Requests.{request_stays, request_ends}
use Rattle.round_driver.proofs.Runs.{round_over}
use Rattle.round_driver.proofs.Moves.{AreBy, IsSteady, first_waits, Move, Stands}
use Rattle.round_driver.proofs.Moves.{steady_after, round_moves}

-- ---- one request

-- where nothing is on its way, requests are served
pub serves : (s : MachineState) → IsWholeState s → weight s.machine ≡ 0 → ServesRequests s.sizes s.machine
serves s whole rest = grind (arith, bound_at_rest, s.sizes, lawful, roomy, s.machine, whole.sound)

-- a request leaves each bank its commands
request_leaves : (event : Event) → is_request event ≡ true → (b : ℕ) → leaves_commands b event
request_leaves (Serve bank) r b = cc
request_leaves event r b = tt

-- ---- what a run may still take

-- in rounds: latency + 1 for each move that the requests and the weight allow
abbrev cost : Run → ℕ
cost r =
    length r.left * (most_moves r.state.sizes * (r.schedule.timing.latency + 1)) + weight r.state.machine * (r.schedule.timing.latency + 1)

-- what is on its way takes fewer rounds than a request may
cheap : (s : MachineState) (k : ℕ) → IsWholeState s → weight s.machine * k + k ≤ most_moves s.sizes * k
cheap s k whole = let few = mul-le-mul_right k (weight_bound s.sizes s.machine whole.sound) in grind arith

-- nothing need move in the next d rounds at most: these are as many as a bank takes, or a bank is due then
abbrev IsQuietFor : ℕ → Run → Type 0
IsQuietFor d r =
    (r.schedule.timing.latency ≤ d) ⊎ ((b : ℕ) × (t : ℕ) × (b < r.state.sizes.banks) × (first_begun r.schedule b ≡ Some t) ×
    (t + r.schedule.timing.latency ≤ r.schedule.round + d + 1))

record IsSound (r : Run) : Type 0 where
  steady : IsSteady r.state r.schedule
  requests : list_all is_request r.left ≡ true

-- behind a round the run may take fewer rounds
record Goes (d : ℕ) (r next : Run) : Type 0 where
  sound : IsSound next
  round : next.schedule.round ≡ r.schedule.round + 1
  quiet : ℕ
  is_quiet : IsQuietFor quiet next
  cheaper : cost next + quiet < cost r + d

module _ (d : ℕ) (r next : Run) (latency : next.schedule.timing.latency ≡ r.schedule.timing.latency)
    (round : next.schedule.round ≡ r.schedule.round + 1) (sizes : next.state.sizes ≡ r.state.sizes) (sound : IsSound next) where
  -- the rounds that a request may take
  abbrev each : ℕ
  each = most_moves r.state.sizes * (r.schedule.timing.latency + 1)

  same_each : most_moves next.state.sizes * (next.schedule.timing.latency + 1) ≡ each
  same_each = grind arith

  -- the same requests, with less on its way
  lighter : length next.left ≡ length r.left → weight next.state.machine < weight r.state.machine → Goes d r next
  lighter as_many less =
      let fall = mul-le-mul_right (r.schedule.timing.latency + 1) less in
      let left = ap₂ (λ n e. n * e) as_many same_each in
      let moving = ap (λ l. weight next.state.machine * (l + 1)) latency in
      record { sound = sound; round = round; quiet = r.schedule.timing.latency; is_quiet = grind arith; cheaper = grind arith }

  -- a request less
  shorter : length r.left ≡ suc (length next.left) → Goes d r next
  shorter fewer =
      let k = r.schedule.timing.latency + 1 in
      let most =
      subst (λ z. weight next.state.machine * k + k ≤ most_moves z * k) sizes (cheap next.state k sound.steady.whole) in
      let left = ap (λ e. length next.left * e) same_each in
      let before = ap (λ n. n * each) fewer in
      let moving =
      ap (λ l. weight next.state.machine * (l + 1)) latency in
      record {
        sound = sound;
        round = round;
        quiet = r.schedule.timing.latency;
        is_quiet = grind arith;
        cheaper = grind arith;
      }

-- ---- a round

-- where no move did anything, the machine rests or a bank has a command
stands_waits : (c d : Course) → IsSteady d.state d.schedule → Stands c d → (weight d.state.machine ≡ 0) ⊎
    HasCommand d.state.sizes d.state.machine
stands_waits c d steady stands =
    let z = d.state.sizes in
    grind (arith, rests_or_waits z, lawful z, roomy z, steady.whole, stands)

-- the first course of the next round
abbrev begun : Run → Course
begun r = course r.state (next_round r.schedule) []

later_by : (round : ℕ) (begun : List ℕ) → AreBy round begun → AreBy (round + 1) begun
later_by round [] h = tt
later_by round (t ∷ ts) h = (omega (arith, h.0), later_by round ts h.1)

begun_steady : (r : Run) → IsSound r → IsSteady r.state (next_round r.schedule)
begun_steady r sound = grind (arith, sound.steady.busy, later_by, r.schedule.round)

module _ (d : ℕ) (r : Run) (sound : IsSound r) (quiet : IsQuietFor d r) (next : Run)
    (move : Move (begun r) (moves (begun r)) (Stands (begun r) (moves (begun r)))) (state : next.state ≡ (moves (begun r)).state)
    (schedule : next.schedule ≡ (moves (begun r)).schedule) (as_many : length next.left ≡ length r.left) (next_sound : IsSound next) where
  abbrev behind : Course
  behind = moves (begun r)

  round : next.schedule.round ≡ r.schedule.round + 1
  round = grind arith

  latency : next.schedule.timing.latency ≡ r.schedule.timing.latency
  latency = grind arith

  sizes : next.state.sizes ≡ r.state.sizes
  sizes = grind arith

  -- a busy bank is due a round sooner
  nearer : behind.state ≡ r.state → (b t : ℕ) → b < r.state.sizes.banks → first_begun behind.schedule b ≡ Some t
      → behind.schedule.round - t < behind.schedule.timing.latency → t ≤ r.schedule.round + 1
      → t + r.schedule.timing.latency ≤ r.schedule.round + d + 1 ⊎ (r.schedule.timing.latency ≤ d) → Goes d r next
  nearer same b t there busy early begins due = go d refl due
    where
      go : (n : ℕ) → d ≡ n → (t + r.schedule.timing.latency ≤ r.schedule.round + d + 1) ⊎ (r.schedule.timing.latency ≤ d) → Goes d r next
      go zero e o = grind arith
      go (suc n) e o =
          let weighs = ap (λ s. weight s.machine) (state ∙ same) in
          let moving = ap₂ (λ w k. w * (k + 1)) weighs latency in
          let left = ap₂ (λ n e. n * e) as_many (same_each d r next latency round sizes next_sound) in
          record {
            sound = next_sound;
            round = round;
            quiet = n;
            is_quiet = inr (b, t, grind arith, grind arith, grind arith);
            cheaper = grind arith;
          }

  -- where no move did anything, a bank is busy, and comes nearer to its service
  stood : behind.state ≡ r.state → Stands (begun r) behind → (weight behind.state.machine ≡ 0 → ⊥) → Goes d r next
  stood same stands busy = go quiet
    where
      go : IsQuietFor d r → Goes d r next
      go (inl enough) = grind (arith, stands_waits, sizes, stands.begins, first_waits, nearer)
      go (inr x) = grind (arith, first_waits, stands.kept, stands.begins, nearer)

  goes_on : (behind.state ≡ r.state → weight behind.state.machine ≡ 0 → ⊥) → Goes d r next
  goes_on busy = grind (arith, move.lighter, lighter, stood)

-- a run that isn't over takes fewer rounds behind the next one
round_goes : (d : ℕ) (r : Run) → IsSound r → IsQuietFor d r → is_over r ≡ false → Goes d r (after_round r)
unfolding after_round ask weight_of after_event
round_goes d r sound quiet going = go r.left refl sound.requests
  where
    behind : Course
    behind = moves (begun r)

    move : Move (begun r) behind (Stands (begun r) behind)
    move = round_moves _ (begun_steady r sound)

    over : r.left ≡ [] → behind.state ≡ r.state → weight behind.state.machine ≡ 0 → ⊥
    over e same rest = grind arith

    next : Event → List Event → Bool → Run
    next event rest b =
        record {
          state = after_event behind.state event;
          schedule = behind.schedule;
          left = cond b rest (event ∷ rest);
          told = r.told ++ (ask event behind).notes;
        }

    steady_then : (event : Event) → ((b : ℕ) → leaves_commands b event) → IsSteady (after_event behind.state event) behind.schedule
    steady_then event leaves = steady_after event behind.state behind.schedule move.steady leaves

    asks : (event : Event) (rest : List Event) → r.left ≡ event ∷ rest → is_request event ≡ true → list_all is_request rest ≡ true
        → (b : Bool) → ends event behind ≡ b → Goes d r (next event rest b)
    asks event rest e request requests true h =
        grind (arith, next, steady_then, request_leaves, shorter, move.latency, move.round, move.sizes)
    asks event rest e request requests false h =
        let next_sound : IsSound (next event rest false) =
        record { steady = steady_then event (request_leaves event request); requests = grind arith } in
        goes_on d r sound quiet _ move (request_stays behind.state event request h) refl (sym (ap length e)) next_sound
        (λ stood light. grind (arith, request_ends, serves, move.steady.whole))

    go : (left : List Event) → r.left ≡ left → list_all is_request r.left ≡ true → Goes d r (asked r.told left behind)
    go [] e requests = grind (arith, behind, goes_on, move, over)
    go (event ∷ rest) e requests =
        let parts = and_parts _ _ (sym (ap (list_all is_request) e) ∙ requests) in
        asks event rest e parts.0 parts.1 _ refl

-- ---- whole runs

-- so many rounds are enough, the last of which is this one at most
record RoundsLeft (last n : ℕ) (r : Run) : Type 0 where
  sound : IsSound r
  quiet : ℕ
  is_quiet : IsQuietFor quiet r
  few : cost r + quiet ≤ n
  early : r.schedule.round + n ≤ last

rests : (last : ℕ) (r : Run) → RoundsLeft last 0 r → is_over r ≡ true
rests last r l = go (is_over r) refl
  where
    go : (b : Bool) → is_over r ≡ b → b ≡ true
    go true e = refl
    go false e = let more = (round_goes l.quiet r l.sound l.is_quiet e).cheaper in absurd (omega (arith, more, l.few))

goes_by : (last n : ℕ) (r : Run) → is_over r ≡ false → RoundsLeft last (suc n) r → RoundsLeft last n (after_round r)
goes_by last n r e l =
    let more = round_goes l.quiet r l.sound l.is_quiet e in
    record {
      sound = more.sound;
      quiet = more.quiet;
      is_quiet = more.is_quiet;
      few = omega (arith, more.cheaper, l.few);
      early = omega (arith, more.round, l.early);
    }

rounds_end : (last n : ℕ) (r : Run) → RoundsLeft last n r → Ended is_over after_round (RoundsLeft last) (rounds_until_over n r)
unfolding rounds_until_over
rounds_end last = driving.ends is_over after_round (RoundsLeft last) (rests last) (goes_by last)

pub requests_end : (timing : Timing) (s : MachineState) (requests : List Event) → IsWholeState s → RequestsEnd timing s requests
requests_end timing s requests whole all =
    let last = start.schedule.round + most in
    let left : RoundsLeft last most start = record {
      sound = sound;
      quiet = timing.latency;
      is_quiet = inl (omega arith);
      few = room.1;
      early = omega arith;
    } in
    let rest = rounds_end last most start left in
    let same : whole_run timing s requests ≡ rounds_until_over most start = round_over most _ start (omega (arith, room)) rest.is_over in
    record { over = rw same rest.is_over; in_time = rw same (omega (arith, rest.still.early, room)) }
  where
    start : Run
    start = start_of timing s requests

    -- a round less than there may be
    most : ℕ
    most = most_rounds s.sizes timing.latency (length requests) - 1

    sound : IsSound start
    sound = grind arith

    little : weight s.machine * (timing.latency + 1) + (timing.latency + 1) ≤ most_moves s.sizes * (timing.latency + 1)
    little = cheap s _ whole

    -- of a request more than there are, all rounds but one are enough for what is on its way
    with_room : (n each moving latency : ℕ) → moving + (latency + 1) ≤ each
        → ((n + 1) * each - 1 < (n + 1) * each) × (n * each + moving + latency ≤ (n + 1) * each - 1)
    with_room n each moving latency h = grind arith

    room : (most < most_rounds s.sizes timing.latency (length requests)) × (cost start + timing.latency ≤ most)
    room = grind (arith, with_room, little)
