-- The moves of a round: one of them lowers the weight, or all leave the machine as it was, and show why.
use Rattle.std.proofs.Common.{◌≡◌, ℕ, zero, suc, ◌+◌, ◌-◌, ◌<◌, ◌≤◌, Bool, true, false, cond, ◌&&◌, nat_lt, List, [], ◌∷◌, ◌++◌}
use Rattle.std.proofs.Common.{length, drop, slice_get, Option, Some, None, refl, sym, ap, subst, arith, ◌⊎◌, inl, ⊎_elim}
use Rattle.std.proofs.Common.{length-set, get_or-set_same, get_or-set_other, ltb-true, lt-ltb}
use Rattle.std.proofs.lemmas.Bool.{and_parts, cases_eq, cases_lt, true≢false as never}
use Rattle.std.proofs.lemmas.List.{get_or_past, length-append}
use Rattle.flat_model.specs.declared.limits.TheConstants.{MAX_BANKS}
use Rattle.machine_core.specs.Words.{Event, Drain, Serve, Arrive, Process, Take, BankAnswer, Sizes}
use Rattle.machine_core.specs.Banks.{bank_at}
use Rattle.machine_core.specs.Machine.{Machine, MachineState, apply}
use Rattle.machine_core.specs.Pump.{weight, has_items}
use Rattle.machine_core.specs.Law.{IsLawful, HasRoom}
use Rattle.machine_core.specs.Sound.{IsSound}
use Rattle.machine_core.specs.Whole.{IsWholeState}
use Rattle.machine_core.specs.AnyMachine.{after_event}
use Rattle.machine_core.proofs.Walking.{sound_apply}
use Rattle.machine_core.proofs.Whole.{lawful, roomy}
use Rattle.machine_core.proofs.Weighing.{arrive_lowers, items_none}
use Rattle.machine_core.proofs.Weighing.{FallsOr, HasCommand, take_falls, process_falls, serve_falls, drain_falls, leaves_commands}
use Rattle.round_driver.specs.declared.schedule.Schedule.{Schedule}
use Rattle.round_driver.specs.Machines.{command_count, has_answer, has_stack_room}
use Rattle.round_driver.specs.Rounds.{Course, scheduled, begun_at, with_begun, first_begun, is_free, with_begin}
use Rattle.round_driver.specs.Rounds.{without_first, is_due_since, attempt, begin, serve_due, bank_turns, first_with_answer}
use Rattle.round_driver.specs.Rounds.{next_with_answer, arrive_from, arrive, moves}
use Rattle.round_driver.proofs.Commands.{commands_stay, one_served}

-- ---- where a run stands

-- a command waits at a bank
abbrev pub Waits : MachineState → ℕ → Type 0
Waits s b = has_items (bank_at s.machine.banks b).queue ≡ true

abbrev waiting : MachineState → ℕ → ℕ
waiting s b = length (bank_at s.machine.banks b).queue

-- each of these rounds is this one or an earlier one
abbrev pub AreBy : ℕ → List ℕ → Type 0
AreBy round [] = Unit {0}
AreBy round (t ∷ ts) = (t ≤ round) × AreBy round ts

-- what a bank has begun was begun by this round, and all of it still waits
pub record IsInFlight (round number : ℕ) (begun : List ℕ) : Type 0 where
  pub early : AreBy round begun
  pub fits : length begun ≤ number

-- the machine is whole, and each bank has the commands that it began
pub record IsSteady (s : MachineState) (p : Schedule) : Type 0 where
  pub whole : IsWholeState s
  pub places : length p.begun ≡ MAX_BANKS
  pub busy : (b : ℕ) → IsInFlight p.round (length (bank_at s.machine.banks b).queue) (begun_at p b)

-- the first command that a bank began was begun by this round, and it waits
pub first_waits : (s : MachineState) (p : Schedule) → IsSteady s p → (b t : ℕ) → first_begun p b ≡ Some t → (t ≤ p.round) × Waits s b
first_waits s p steady b t e = go _ (steady.busy b) e
  where
    go : (begun : List ℕ) → IsInFlight p.round (waiting s b) begun → slice_get begun 0 ≡ Some t → (t ≤ p.round) × Waits s b
    go [] h q = cc
    go _ h q = grind arith

abbrev Steady : Course → Type 0
Steady c = IsSteady c.state c.schedule

abbrev law : (s : MachineState) → IsWholeState s → IsLawful s.sizes
law s whole = lawful s.sizes whole.in_range

abbrev room : (s : MachineState) → IsWholeState s → HasRoom s.sizes
room s whole = roomy s.sizes whole.in_range

pub whole_after : (s : MachineState) (event : Event) → IsWholeState s → IsWholeState (after_event s event)
unfolding after_event
whole_after s event h =
    record {
      in_range = h.in_range;
      sound = sound_apply s.sizes (law s h) s.machine h.sound event;
    }

-- an event that leaves the banks their commands
pub steady_after : (event : Event) (s : MachineState) (p : Schedule) → IsSteady s p → ((b : ℕ) → leaves_commands b event)
    → IsSteady (after_event s event) p
unfolding after_event
steady_after event s p steady leaves = record {
  whole = whole_after s event steady.whole;
  places = steady.places;
  busy = λ b. let all = steady.busy b in record {
    early = all.early;
    fits = commands_stay s.sizes s.machine b _ all.fits event (leaves b);
  };
}

-- ---- from one course to the next

-- some moves: the run stays steady, and its weight falls or they show why it doesn't
pub record Move (c d : Course) (why : Type 0) : Type 0 where
  pub steady : IsSteady d.state d.schedule
  pub round : d.schedule.round ≡ c.schedule.round
  pub latency : d.schedule.timing.latency ≡ c.schedule.timing.latency
  pub sizes : d.state.sizes ≡ c.state.sizes
  pub lighter : (weight d.state.machine < weight c.state.machine) ⊎ ((d.state ≡ c.state) × why)

-- two moves, one after the other
then : {F G H : Type 0} (c d e : Course) → Move c d F → Move d e G → (F → G → d.state ≡ c.state → e.state ≡ d.state → H) → Move c e H
then {F} {G} {H} c d e first second both = grind arith

-- ---- the banks

-- what holds of these at the bank, and of the others as they were, holds at each bank
at_each : (P : ℕ → List ℕ → Type 0) (p : Schedule) (b : ℕ) (begun : List ℕ) → b < length p.begun → P b begun
    → ((k : ℕ) → (k ≡ b → ⊥) → P k (begun_at p k)) → (k : ℕ) → P k (begun_at (with_begun p b begun) k)
at_each P p b begun l here other k =
    ⊎_elim (λ q. grind (arith, get_or-set_same)) (λ apart. subst (P k) (sym (get_or-set_other p.begun b k begun [] apart)) (other k apart))
    (cases_eq k b)

-- one more that was begun in this round
more_by : (round : ℕ) (begun : List ℕ) → AreBy round begun → AreBy round (begun ++ round ∷ [])
more_by round [] h = (omega arith, tt)
more_by round (t ∷ ts) h = (h.0, more_by round ts h.1)

-- behind it there is a first one, which is the first as before
first_more : (begun : List ℕ) (round : ℕ)
    → (t : ℕ) × (slice_get (begun ++ round ∷ []) 0 ≡ Some t) × ((u : ℕ) → slice_get begun 0 ≡ Some u → t ≡ u)
first_more [] round = (round, refl, λ u e. cc)
first_more (t ∷ ts) round = (t, refl, λ u e. cc)

long : {X : Type 0} (xs : List X) → has_items xs ≡ true → 0 < length xs
long [] e = cc
long (x ∷ xs) e = omega arith

-- behind its begin a bank at which a command waits has begun one
record Begun (b : ℕ) (c d : Course) : Type 0 where
  steady : IsSteady d.state d.schedule
  state : d.state ≡ c.state
  round : d.schedule.round ≡ c.schedule.round
  latency : d.schedule.timing.latency ≡ c.schedule.timing.latency
  kept : (k t : ℕ) → first_begun c.schedule k ≡ Some t → first_begun d.schedule k ≡ Some t
  begins : Waits c.state b → (t : ℕ) × (first_begun d.schedule b ≡ Some t)

begun : (b : ℕ) (c : Course) → Steady c → b < MAX_BANKS → Begun b c (begin b c)
unfolding begin command_count
begun b c steady few = go _ refl
  where
    before : List ℕ
    before = begun_at c.schedule b

    now : Course
    now = scheduled (with_begin c.schedule b) c

    there : b < length c.schedule.begun
    there = grind arith

    starts : length before < waiting c.state b → Begun b c now
    starts free =
        let first = first_more before c.schedule.round in
        record {
          steady = record {
            whole = steady.whole;
            places = grind (arith, length-set);
            busy = at_each (λ k begun. IsInFlight c.schedule.round (waiting c.state k) begun) c.schedule b _ there
                (record { early = more_by c.schedule.round before (steady.busy b).early; fits = grind (arith, length-append) })
                (λ k apart. steady.busy k);
          };
          state = refl;
          round = refl;
          latency = refl;
          kept = at_each (λ k begun. (t : ℕ) → first_begun c.schedule k ≡ Some t → slice_get begun 0 ≡ Some t) c.schedule b _ there
              (λ t e. grind (arith, first)) (λ k apart t e. e);
          begins = λ w. (first.0, grind (arith, first, get_or-set_same));
        }

    -- a bank that begins nothing, and has a command, has begun one
    held : (l : List ℕ) → before ≡ l → (is_free c.schedule b && nat_lt (length before) (waiting c.state b)) ≡ false → Waits c.state b
        → (t : ℕ) × (first_begun c.schedule b ≡ Some t)
    held (t ∷ ts) q e w = (t, ap (λ l. slice_get l 0) q)
    held [] q e w = grind (arith, lt-ltb, c.state, long, c.schedule, never)

    go : (h : Bool) → (is_free c.schedule b && nat_lt (length before) (waiting c.state b)) ≡ h → Begun b c (cond h now c)
    go true e = grind (arith, and_parts, starts, ltb-true)
    go false e = grind (arith, held before refl e)

-- a command that isn't due yet
abbrev pub NotDue : Course → ℕ → Type 0
NotDue c t = c.schedule.round - t < c.schedule.timing.latency

-- a bank has begun a command that isn't due
abbrev pub IsBusy : Course → ℕ → Type 0
IsBusy c b = (t : ℕ) × (first_begun c.schedule b ≡ Some t) × NotDue c t

-- behind its turn a bank has served the first command that it began, or that isn't due
abbrev ServedOrNot : ℕ → Course → Course → Type 0
ServedOrNot b c d = (d.schedule.begun ≡ c.schedule.begun) × ((t : ℕ) → first_begun c.schedule b ≡ Some t → NotDue c t)

serves : (b : ℕ) (c : Course) → Steady c → b < c.state.sizes.banks → Move c (serve_due b c) (ServedOrNot b c (serve_due b c))
unfolding serve_due attempt after_event
serves b c steady there = go (begun_at c.schedule b) refl _ refl
  where
    ended : Course
    ended = attempt (Serve b) (scheduled (without_first c.schedule b) c)

    after : MachineState
    after = after_event c.state (Serve b)

    ends : (t : ℕ) (ts : List ℕ) → begun_at c.schedule b ≡ t ∷ ts → Move c ended (ServedOrNot b c ended)
    ends t ts e =
        let before : IsInFlight c.schedule.round (waiting c.state b) (t ∷ ts) = grind (arith, steady.busy) in
        let rest : IsInFlight c.schedule.round (waiting after b) ts =
        record { early = before.early.1; fits = one_served c.state.sizes c.state.machine b _ before.fits } in
        record {
          steady = record {
            whole = whole_after c.state (Serve b) steady.whole;
            places = grind (arith, length-set);
            busy = at_each (λ k begun. IsInFlight c.schedule.round (waiting after k) begun) c.schedule b _
                (omega (arith, there, steady.places, steady.whole.in_range.few_banks))
                (subst (λ l. IsInFlight c.schedule.round (waiting after b) (drop 1 l)) (sym e) rest)
                (λ k apart. let all = steady.busy k in
                record { early = all.early; fits = commands_stay c.state.sizes c.state.machine k _ all.fits (Serve b) apart });
          };
          round = refl;
          latency = refl;
          sizes = refl;
          lighter = inl (grind (arith, steady.whole, first_waits, c.state, c.schedule, serve_falls));
        }

    go : (begun : List ℕ) → begun_at c.schedule b ≡ begun → (due : Bool) → is_due_since c.schedule (slice_get begun 0) ≡ due
        → Move c (cond due ended c) (ServedOrNot b c (cond due ended c))
    go [] e true q = cc
    go (t ∷ ts) e true q = ends t ts e
    go [] e false q = grind arith
    go (t ∷ ts) e false q = grind arith

-- n banks from this one on had their turns and served nothing: each that has a command has begun one, which isn't due
pub record Turned (from n : ℕ) (c d : Course) : Type 0 where
  pub kept : (b t : ℕ) → first_begun c.schedule b ≡ Some t → first_begun d.schedule b ≡ Some t
  pub begins : (b : ℕ) → from ≤ b → b < from + n → Waits c.state b → IsBusy d b

abbrev AllTurns : ℕ → ℕ → Course → Type 0
AllTurns n b c = Move c (bank_turns n b c) (Turned b n c (bank_turns n b c))

-- one bank's turn, and then those of the banks behind it
turn_then : (n b : ℕ) (c : Course) → Steady c → b + suc n ≡ c.state.sizes.banks
    → (Steady (serve_due b (begin b c)) → b + 1 + n ≡ (serve_due b (begin b c)).state.sizes.banks
    → AllTurns n (b + 1) (serve_due b (begin b c))) → AllTurns (suc n) b c
unfolding bank_turns
turn_then n b c steady all later = then c e f first rest both
  where
    there : b < c.state.sizes.banks
    there = omega (arith, all)

    begins : Begun b c (begin b c)
    begins = grind (arith, begun, there)

    d : Course
    d = begin b c

    e : Course
    e = serve_due b d

    f : Course
    f = bank_turns n (b + 1) e

    sizes : d.state.sizes ≡ c.state.sizes
    sizes = ap (λ s. s.sizes) begins.state

    serving : Move d e (ServedOrNot b d e)
    serving = grind (arith, serves, d, begins.steady, sizes, there)

    first : Move c e (ServedOrNot b d e)
    first = grind (arith, begins, serving)

    rest : Move e f (Turned (b + 1) n e f)
    rest = grind (arith, first.steady, first.sizes)

    both : ServedOrNot b d e → Turned (b + 1) n e f → e.state ≡ c.state → f.state ≡ e.state → Turned b (suc n) c f
    both served turned same stayed =
        record {
          kept = grind (arith, turned.kept, begins.kept, served.0);
          begins = λ k lo hi w. ⊎_elim (λ q. here k q w) (λ apart. grind (arith, turned.begins)) (cases_eq k b);
        }
      where
        here : (k : ℕ) → k ≡ b → Waits c.state k → IsBusy f k
        here k q w =
            let at = begins.begins (subst (Waits c.state) q w) in
            (at.0, grind (arith, turned.kept b at.0, served.0), grind (arith, served.1 at.0 at.1, rest, serving))

turns : (n b : ℕ) (c : Course) → Steady c → b + n ≡ c.state.sizes.banks → AllTurns n b c
unfolding bank_turns
turns zero b c steady all = grind arith
turns (suc n) b c steady all = turn_then n b c steady all (λ s a. turns n _ _ s a)

-- ---- one arrival

answer_there : (s : MachineState) (n b k : ℕ) → first_with_answer s n b ≡ Some k → has_answer s k ≡ true
unfolding first_with_answer
answer_there s zero b k e = cc
answer_there s (suc n) b k e = grind (arith, answer_there s n (b + 1) k)

no_answer : (s : MachineState) (n b k : ℕ) → first_with_answer s n b ≡ None → b ≤ k → k < b + n → has_answer s k ≡ false
unfolding first_with_answer
no_answer s zero b k e lo hi = grind arith
no_answer s (suc n) b k e lo hi = grind (arith, no_answer s n (b + 1) k)

-- no bank has an answer
abbrev pub NoAnswers : MachineState → Type 0
NoAnswers s = (b : ℕ) → b < s.sizes.banks → (bank_at s.machine.banks b).answers ≡ []

next_there : (s : MachineState) (next k : ℕ) → next_with_answer s next ≡ Some k → has_answer s k ≡ true
next_there s next k e = grind (arith, answer_there)

nowhere : (s : MachineState) (next : ℕ) → next_with_answer s next ≡ None → NoAnswers s
unfolding has_answer
nowhere s next e b l =
    items_none (bank_at s.machine.banks b).answers (grind (arith, no_answer s next 0 b, no_answer s (s.sizes.banks - next) next b))

-- the stack is full, or there is nothing to arrive
abbrev pub NothingArrives : MachineState → Type 0
NothingArrives s = (s.sizes.depth ≤ length s.machine.cache.stack) ⊎ NoAnswers s

-- the schedule's banks stand as they did, and this is so of the machine
abbrev Shows : Course → Course → (MachineState → Type 0) → Type 0
Shows c d why = (d.schedule.begun ≡ c.schedule.begun) × why d.state

attempt_steady : (event : Event) (c : Course) → Steady c → ((b : ℕ) → leaves_commands b event) → Steady (attempt event c)
unfolding attempt
attempt_steady event c steady leaves = steady_after event _ _ steady leaves

arrives : (c : Course) → Steady c → Move c (arrive c) (Shows c (arrive c) NothingArrives)
unfolding arrive has_stack_room has_answer attempt after_event
arrives c steady = go _ refl (next_with_answer c.state c.schedule.next) refl
  where
    comes : length c.state.machine.cache.stack < c.state.sizes.depth → (b : ℕ) → has_answer c.state b ≡ true
        → Move c (arrive_from (Some b) c) (Shows c (arrive_from (Some b) c) NothingArrives)
    comes room_left b some =
        record {
          steady = attempt_steady (Arrive b 0) behind same (λ k. tt);
          round = refl;
          latency = refl;
          sizes = refl;
          lighter = inl (falls (bank_at c.state.machine.banks b).answers refl);
        }
      where
        behind : Course
        behind = scheduled (record c.schedule { next = b + 1 }) c

        same : Steady behind
        same = record { whole = steady.whole; places = steady.places; busy = steady.busy }

        falls : (answers : List BankAnswer) → (bank_at c.state.machine.banks b).answers ≡ answers
            → weight (apply c.state.sizes c.state.machine (Arrive b 0)).machine < weight c.state.machine
        falls [] e = let none = ap has_items e in cc
        falls (a ∷ rest) e =
            let w = steady.whole in
            let within = ⊎_elim (λ l. l) (λ past. grind (arith, get_or_past)) (cases_lt b (length c.state.machine.banks)) in
            arrive_lowers _ (law c.state w) (room c.state w) _ w.sound b a rest within e room_left

    go : (h : Bool) → nat_lt (length c.state.machine.cache.stack) c.state.sizes.depth ≡ h → (o : Option ℕ)
        → next_with_answer c.state c.schedule.next ≡ o
        → Move c (cond h (arrive_from o c) c) (Shows c (cond h (arrive_from o c) c) NothingArrives)
    go true l None e = grind (arith, nowhere c.state c.schedule.next e)
    go true l (Some b) e = comes (ltb-true _ _ l) b (next_there c.state c.schedule.next b e)
    go false l o e = grind arith

-- ---- the stack, the replies, the write queue

attempted : (event : Event) (c : Course) (why : MachineState → Type 0) → Steady c → ((b : ℕ) → leaves_commands b event)
    → ((z : Sizes) → IsLawful z → HasRoom z → (m : Machine) → IsSound z m
    → FallsOr m (apply z m event).machine (why (record { sizes = z; machine = m })))
    → Move c (attempt event c) (Shows c (attempt event c) why)
unfolding attempt after_event
attempted event c why steady leaves falls =
    record {
      steady = attempt_steady event c steady leaves;
      round = refl;
      latency = refl;
      sizes = refl;
      lighter = grind arith;
    }

-- ---- all moves of a round

abbrev pub Drained : MachineState → Type 0
Drained s = (s.machine.cache.queue ≡ []) ⊎ HasCommand s.sizes s.machine

-- why no move of a round did anything
pub record Stands (c d : Course) : Type 0 where
  pub kept : (b t : ℕ) → first_begun c.schedule b ≡ Some t → first_begun d.schedule b ≡ Some t
  pub begins : (b : ℕ) → b < c.state.sizes.banks → Waits c.state b → IsBusy d b
  pub arrived : NothingArrives d.state
  pub processed : d.state.machine.cache.stack ≡ []
  pub taken : d.state.machine.cache.ready ≡ []
  pub drained : Drained d.state

pub round_moves : (c : Course) → IsSteady c.state c.schedule → Move c (moves c) (Stands c (moves c))
unfolding moves
round_moves c steady = then c c3 c5 (then c c1 c3 turned first (λ f g p q. (f, g))) last all
  where
    c1 : Course
    c1 = bank_turns c.state.sizes.banks 0 c

    c2 : Course
    c2 = arrive c1

    c3 : Course
    c3 = attempt (Process 0) c2

    c4 : Course
    c4 = attempt (Take 0) c3

    c5 : Course
    c5 = attempt Drain c4

    turned : AllTurns c.state.sizes.banks 0 c
    turned = grind (arith, turns)

    arrival : Move c1 c2 (Shows c1 c2 NothingArrives)
    arrival = arrives c1 turned.steady

    processing : Move c2 c3 (Shows c2 c3 (λ s. s.machine.cache.stack ≡ []))
    processing = attempted _ c2 (λ s. s.machine.cache.stack ≡ []) arrival.steady (λ b. tt) process_falls

    taking : Move c3 c4 (Shows c3 c4 (λ s. s.machine.cache.ready ≡ []))
    taking = attempted _ c3 (λ s. s.machine.cache.ready ≡ []) processing.steady (λ b. tt) take_falls

    draining : Move c4 c5 (Shows c4 c5 Drained)
    draining = attempted Drain c4 Drained taking.steady (λ b. tt) drain_falls

    first : Move c1 c3 (Shows c1 c3 (λ s. NothingArrives s × (s.machine.cache.stack ≡ [])))
    first = grind (arith, then, c1, c2, c3, arrival, processing)

    last : Move c3 c5 (Shows c3 c5 (λ s. (s.machine.cache.ready ≡ []) × Drained s))
    last = grind (arith, then, c3, c4, c5, taking, draining)

    all : Turned 0 c.state.sizes.banks c c1 × Shows c1 c3 (λ s. NothingArrives s × (s.machine.cache.stack ≡ []))
        → Shows c3 c5 (λ s. (s.machine.cache.ready ≡ []) × Drained s) → c3.state ≡ c.state → c5.state ≡ c3.state → Stands c c5
    all f g p q =
        record {
          kept = grind (arith, f, g);
          begins = λ b l w. let busy = f.0.begins b (omega arith) (omega (arith, l)) w in
              (busy.0, grind (arith, busy, f, g), grind (arith, busy, last, first));
          arrived = grind arith;
          processed = grind arith;
          taken = g.1.0;
          drained = g.1.1;
        }
