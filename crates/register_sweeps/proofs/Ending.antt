-- Each request of a sweep ends, and each accepted load is paid.
use Rattle.std.proofs.Common.{◌≡◌, ℕ, zero, suc, ◌+◌, ◌-◌, ◌<◌, ◌≤◌, Bool, true, false, cond, nat_lt, List, [], ◌∷◌, length, Option, Some}
use Rattle.std.proofs.Common.{None, is_some, is_none, refl, sym, ap, subst, ◌∙◌, arith}
use Rattle.machine_core.specs.Words.{Word, Event, Load, Take, Answer, Accepted, Value, Refused, Sizes}
use Rattle.flat_model.specs.Memory.{is_load}
use Rattle.flat_model.specs.Flat.{Flat, may_answer, flat_after, flat_step, word_at}
use Rattle.machine_core.specs.Machine.{Machine, MachineState, flat_of, flat_due}
use Rattle.std.specs.Option.{option_map}
use Rattle.std.specs.List.{list_all}
use Rattle.std.proofs.lemmas.Bool.{and_parts, true≢false as no}
use Rattle.machine_core.specs.AnyMachine.{answered, after_event, after_some, pump_tells, pump_leaves, weight_of}
use Rattle.machine_core.specs.Pump.{pumped, weight, until}
use Rattle.machine_core.specs.Whole.{IsWholeState}
use Rattle.machine_core.proofs.Walking.{flat_apply}
use Rattle.machine_core.proofs.Weighing.{pumped_rests, pumped_at_rest}
use Rattle.machine_core.proofs.Whole as lighter
use Rattle.machine_core.proofs.Driving as driving
use Rattle.machine_core.specs.Pump as machine_pump
use Rattle.machine_core.proofs.Whole.{lawful, roomy}
use Rattle.round_driver.specs.Rounds.{is_end}
use Rattle.round_driver.specs.Walks.{is_request}
use Rattle.round_driver.proofs.Requests.{request_stays, request_ends}
use Rattle.round_driver.proofs.Moves.{whole_after}
use Rattle.round_driver.proofs.Ends.{serves}
use Rattle.register_sweeps.specs.declared.row.Row.{Row}
use Rattle.register_sweeps.specs.Sweep.{Course, course, with_pump, with_pumped, pump_once, with_end, ask, ends, stall, pump_and_wait}
use Rattle.register_sweeps.specs.Sweep.{ask_again, serve, serve_all, pump_times, run_dry, loads_between, accepted_loads, empty_row}
use Rattle.register_sweeps.specs.Sweep.{row_from}
use Rattle.register_sweeps.proofs.Turns.{ask_again_step, pump_keeps}
use Rattle.register_sweeps.proofs.Owing.{Owing, owe, pay, all_paid}
use Rattle.register_sweeps.proofs.Steps.{listed, changed}

-- the step of flat memory that an event makes
step_of : (s : MachineState) (event : Event) → IsWholeState s → flat_step (flat_of s.sizes s.machine) event (answered s event)
    ≡ Some (flat_of s.sizes (after_event s event).machine)
unfolding answered after_event
step_of s event g = flat_apply s.sizes (lawful s.sizes g.in_range) s.machine g.sound event

may_of : (s : MachineState) (event : Event) → IsWholeState s → may_answer (flat_of s.sizes s.machine) event (answered s event) ≡ true
may_of s event g = listed _ _ event (answered s event) (step_of s event g)

-- ---- a pump lowers the weight

pub pump_lighter : (s : MachineState) → IsWholeState s → weight (pump_leaves s).machine ≤ weight s.machine - 1
unfolding pump_leaves after_event
pump_lighter s g = go (pumped s.sizes s.machine) (lighter.pump_lighter s.sizes (lawful s.sizes g.in_range) (roomy s.sizes g.in_range)
    s.machine g.sound _ refl)
  where
    go : (o : Option Event) → weight (machine_pump.after_event s.sizes s.machine o) ≤ weight s.machine - 1
        → weight (after_some s o).machine ≤ weight s.machine - 1
    go None l = l
    go (Some event) l = l

-- ---- at weight 0 a request ends

-- one that doesn't end finds something on its way
pub some_weight : (s : MachineState) (event : Event) → IsWholeState s → is_request event ≡ true → is_end (answered s event) ≡ false
    → 0 < weight s.machine
some_weight s event g r h =
    let heavy : (weight s.machine ≡ 0 → ⊥) = λ rests. no (sym (request_ends s (serves s g rests) event r) ∙ h) in
    omega (arith, heavy)

-- ---- the counts and what is owed

abbrev due_of : MachineState → ℕ → Option Word
due_of s = flat_due s.machine

-- so many requests have ended, and so many loads were accepted, of which these tags are still owed
record IsCounted (s : MachineState) (all values ended loads : ℕ) : Type 0 where
  good : IsWholeState s
  ends : all ≡ ended
  tags : List ℕ
  owes : Owing (due_of s) tags
  paid : length tags + values ≡ loads

with_counts : {s : MachineState} {all values m n ended loads : ℕ} → IsCounted s all values m n → m ≡ ended → n ≡ loads
    → IsCounted s all values ended loads
with_counts k p q = grind arith

abbrev Counted : Course → ℕ → ℕ → Type 0
Counted c ended loads = IsCounted c.state (c.row.accepted + c.row.denied) c.row.values ended loads

-- what an event does to what is owed
due_after : (s : MachineState) (event : Event) → IsWholeState s
    → due_of (after_event s event) ≡ (flat_after (flat_of s.sizes s.machine) event (answered s event)).due
due_after s event g = grind (arith, changed, step_of)

-- what an answer leaves owed: a value pays one tag
record Settled (due : ℕ → Option Word) (tags : List ℕ) (a : Answer) : Type 0 where
  left : List ℕ
  owing : Owing due left
  values : (row : Row) → length left + (with_pump row a).values ≡ length tags + row.values

settles : (f : Flat) (event : Event) (a : Answer) (tags : List ℕ) → Owing f.due tags → may_answer f event a ≡ true → is_load event ≡ false
    → Settled (flat_after f event a).due tags a
settles f (Load tag at) a tags owes may load = cc
settles f (Take place) (Value t w) tags owes may load =
    let paid = pay f.due tags t owes (grind arith) in
    record { left = paid.0; owing = paid.1; values = λ row. omega (arith, paid.2) }
settles f event (Value t w) tags owes may load = absurd (no (sym may))
settles f event a tags owes may load = record { left = tags; owing = owes; values = λ row. refl }

-- ---- the driver's events

abbrev Moves : Option Event → Type 0
Moves None = Unit {0}
Moves (Some event) = is_load event ≡ false

pumped_moves : (z : Sizes) (m : Machine) → Moves (pumped z m)
pumped_moves z m = grind arith

pump_ends : (row : Row) (a : Answer) → (with_pump row a).accepted + (with_pump row a).denied ≡ row.accepted + row.denied
pump_ends row a = grind arith

pumped_accepts : (row : Row) (o : Option (Event × Answer)) → (with_pumped row o).accepted ≡ row.accepted
pumped_accepts row o = grind arith

-- a pump ends no request, and pays what it takes
counted_pump : (c : Course) (ended loads : ℕ) → Counted c ended loads → Counted (pump_once c) ended loads
unfolding pump_tells pump_leaves
counted_pump c ended loads k = go (pumped c.state.sizes c.state.machine) (pumped_moves c.state.sizes c.state.machine)
  where
    go : (o : Option Event) → Moves o → Counted (course (after_some c.state o) (with_pumped c.row
        (option_map (λ event. (event, answered c.state event)) o))) ended loads
    go None moves = k
    go (Some event) moves =
        let a = answered c.state event in
        let f = flat_of c.state.sizes c.state.machine in
        let s = settles f event a k.tags k.owes (may_of c.state event k.good) moves in
        record {
          good = whole_after c.state event k.good;
          ends = pump_ends c.row a ∙ k.ends;
          tags = s.left;
          owes = subst (λ d. Owing d s.left) (sym (due_after c.state event k.good)) s.owing;
          paid = s.values c.row ∙ k.paid;
        }

-- ---- a request is asked

end_counts : (row : Row) (a : Answer) → is_end a ≡ true → (with_end row a).accepted + (with_end row a).denied
    ≡ row.accepted + row.denied + 1
end_counts row a h = grind arith

end_waits : (row : Row) (a : Answer) → is_end a ≡ false → with_end row a ≡ row
end_waits row a h = grind arith

end_values : (row : Row) (a : Answer) → (with_end row a).values ≡ row.values
end_values row a = grind arith

-- what an answer to a request leaves owed: an accepted load's tag more
record Taken (due : ℕ → Option Word) (tags : List ℕ) (event : Event) (row : Row) (a : Answer) : Type 0 where
  left : List ℕ
  owing : Owing due left
  more : length left ≡ length tags + loads_between event row (with_end row a)

takes : (f : Flat) (event : Event) (a : Answer) (tags : List ℕ) (row : Row) → Owing f.due tags → may_answer f event a ≡ true
    → is_request event ≡ true → Taken (flat_after f event a).due tags event row a
takes f (Load tag at) Accepted tags row owes may r =
    record {
      left = tag ∷ tags;
      owing = owe f.due tags tag (word_at f.mem at) owes (and_parts (nat_lt at (length f.mem)) (is_none (f.due tag)) may).1;
      more = omega arith;
    }
takes f (Load tag at) (Refused cause) tags row owes may r = record { left = tags; owing = owes; more = grind arith }
takes f (Load tag at) a tags row owes may r = cc
takes f event Accepted tags row owes may r = record { left = tags; owing = owes; more = omega arith }
takes f event (Refused cause) tags row owes may r = record { left = tags; owing = owes; more = omega arith }
takes f event a tags row owes may r = cc

counted_end : (event : Event) (c : Course) (ended loads : ℕ) → is_request event ≡ true → Counted c ended loads → ends event c ≡ true
    → Counted (ask event c) (ended + 1) (loads + loads_between event c.row (ask event c).row)
counted_end event c ended loads r k h =
    let a = answered c.state event in
    let f = flat_of c.state.sizes c.state.machine in
    let t = takes f event a k.tags c.row k.owes (may_of c.state event k.good) r in
    let counts = end_counts c.row a h in
    let values = end_values c.row a in
    record {
      good = whole_after c.state event k.good;
      ends = omega (arith, counts, k.ends);
      tags = t.left;
      owes = subst (λ d. Owing d t.left) (sym (due_after c.state event k.good)) t.owing;
      paid = omega (arith, values, t.more, k.paid);
    }

-- a request that has to wait leaves the course as it was
pub waits : (event : Event) (c : Course) → is_request event ≡ true → ends event c ≡ false → ask event c ≡ c
waits event c r h = λ i. record { state = request_stays c.state event r h i; row = end_waits c.row (answered c.state event) h i }

-- ---- a request is asked until it ends

-- where a request ends: one more has ended, and its load, if it is one and was accepted, is counted
abbrev Served : Event → Course → Course → ℕ → ℕ → Type 0
Served event c d ended loads = Counted d (ended + 1) (loads + loads_between event c.row d.row)

-- a request that is asked again and again waits while the driver pumps, and is asked where it ends
pub turns_are : (n : ℕ) (event : Event) (c : Course) → is_request event ≡ true → ends event c ≡ false
    → ask_again n event c ≡ ask event (until (ends event) pump_and_wait n c)
unfolding ask_again
turns_are zero event c r h = sym (waits event c r h)
turns_are (suc n) event c r h = go (ends event p) refl (turns_are n event p r)
  where
    p : Course
    p = pump_and_wait c

    first : until (ends event) pump_and_wait (suc n) c ≡ until (ends event) pump_and_wait n p
    first = driving.goes (ends event) pump_and_wait n c h

    go : (b : Bool) → ends event p ≡ b
        → (ends event p ≡ false → ask_again n event p ≡ ask event (until (ends event) pump_and_wait n p))
        → ask_again (suc n) event c ≡ ask event (until (ends event) pump_and_wait (suc n) c)
    go true e later = ask_again_step n event c true e
        ∙ ap (ask event) (sym (first ∙ driving.stays (ends event) pump_and_wait n p e))
    go false e later = ask_again_step n event c false e ∙ ap (ask_again n event) (waits event p r e) ∙ later e ∙ ap (ask event) (sym first)

-- so many turns are enough for it, and this is so behind each
pub record TurnsLeft (Keeps : Course → Type 0) (n : ℕ) (c : Course) : Type 0 where
  pub kept : Keeps c
  pub whole : IsWholeState c.state
  pub few : weight c.state.machine ≤ n

pub turns_end : (Keeps : Course → Type 0) → ((c : Course) → Keeps c → Keeps (pump_and_wait c)) → (event : Event) → is_request event ≡ true
    → (n : ℕ) (c : Course) → TurnsLeft Keeps n c
    → driving.Ended (ends event) pump_and_wait (TurnsLeft Keeps) (until (ends event) pump_and_wait n c)
turns_end Keeps keeps event r = driving.ends (ends event) pump_and_wait (TurnsLeft Keeps) rests less
  where
    rests : (c : Course) → TurnsLeft Keeps 0 c → ends event c ≡ true
    rests c l = go (ends event c) refl
      where
        go : (b : Bool) → ends event c ≡ b → b ≡ true
        go true e = refl
        go false e = absurd (omega (arith, some_weight c.state event l.whole r e, l.few))

    less : (n : ℕ) (c : Course) → ends event c ≡ false → TurnsLeft Keeps (suc n) c → TurnsLeft Keeps n (pump_and_wait c)
    less n c e l = record {
      kept = keeps c l.kept;
      whole = pump_keeps IsWholeState whole_after c.state l.whole;
      few = omega (arith, pump_lighter c.state l.whole, l.few);
    }

asked_again : (n : ℕ) (event : Event) (c : Course) (ended loads : ℕ) → is_request event ≡ true → ends event c ≡ false
    → Counted c ended loads → weight c.state.machine ≤ n → Served event c (ask_again n event c) ended loads
asked_again n event c ended loads r h k few =
    subst (λ d. Served event c d ended loads) (sym (turns_are n event c r h))
    (with_counts (counted_end event last ended loads r end.still.kept.0 end.is_over) refl same_loads)
  where
    -- no request has ended yet
    Keeps : Course → Type 0
    Keeps d = Counted d ended loads × (d.row.accepted ≡ c.row.accepted)

    last : Course
    last = until (ends event) pump_and_wait n c

    end : driving.Ended (ends event) pump_and_wait (TurnsLeft Keeps) last
    end = turns_end Keeps (λ d p. (counted_pump d ended loads p.0, pumped_accepts d.row (pump_tells d.state) ∙ p.1)) event r n c
        (record { kept = (k, refl); whole = k.good; few = few })

    same_loads : loads + loads_between event last.row (ask event last).row ≡ loads + loads_between event c.row (ask event last).row
    same_loads = ap (λ n. loads + cond (is_load event) ((ask event last).row.accepted - n) 0) end.still.kept.1

served : (event : Event) (c : Course) (ended loads : ℕ) → is_request event ≡ true → Counted c ended loads
    → Served event c (serve event c) ended loads
unfolding weight_of
served event c ended loads r k = go (ends event c) refl
  where
    go : (b : Bool) → ends event c ≡ b → Served event c (cond b (ask event c) (ask_again (weight_of (after_event c.state event)) event
        (stall (ask event c)))) ended loads
    go true e = counted_end event c ended loads r k e
    go false e =
        let asked = asked_again (weight c.state.machine) event (stall c) ended loads r e k (omega arith) in
        subst (λ d. Served event c (ask_again (weight d.state.machine) event (stall d)) ended loads) (sym (waits event c r e)) asked

counted_all : (events : List Event) (c : Course) (ended loads : ℕ) → list_all is_request events ≡ true → Counted c ended loads
    → Counted (serve_all events c) (ended + length events) (loads + accepted_loads events c)
counted_all [] c ended loads r k = grind arith
counted_all (event ∷ events) c ended loads r k =
    let requests = and_parts (is_request event) (list_all is_request events) r in
    let one = served event c ended loads requests.0 k in
    with_counts (counted_all events (serve event c) (ended + 1) _ requests.1 one) (omega arith) (omega arith)

-- ---- the last pumps

-- so much is left to do at most
record PumpsLeft (ended loads n : ℕ) (c : Course) : Type 0 where
  counted : Counted c ended loads
  few : weight c.state.machine ≤ n

dry : (n : ℕ) (c : Course) (ended loads : ℕ) → Counted c ended loads → weight c.state.machine ≤ n → Counted (pump_times n c) ended loads ×
    (weight (pump_times n c).state.machine ≡ 0)
unfolding pump_times pump_tells
dry n c ended loads k h =
    let end = driving.ends (λ c. is_none (pump_tells c.state)) pump_once (PumpsLeft ended loads) rests goes n c
    (record { counted = k; few = h }) in
    (end.still.counted, at_rest (pump_times n c) end.still.counted end.is_over)
  where
    tell : MachineState → Event → Event × Answer
    tell s event = (event, answered s event)

    rests : (c : Course) → PumpsLeft ended loads 0 c → is_none (pump_tells c.state) ≡ true
    rests c l =
        let z = c.state.sizes in
        let good = l.counted.good in
        let none = pumped_at_rest z (lawful z good.in_range) (roomy z good.in_range) c.state.machine good.sound (omega (arith, l.few)) in
        ap (λ o. is_none (option_map (tell c.state) o)) none

    goes : (n : ℕ) (c : Course) → is_none (pump_tells c.state) ≡ false → PumpsLeft ended loads (suc n) c
        → PumpsLeft ended loads n (pump_once c)
    goes n c e l =
        let light = pump_lighter c.state l.counted.good in
        record { counted = counted_pump c ended loads l.counted; few = omega (arith, light, l.few) }

    none_of : {X Y : Type 0} (f : X → Y) (o : Option X) → is_none (option_map f o) ≡ true → o ≡ None
    none_of f None e = refl
    none_of f (Some x) e = cc

    at_rest : (c : Course) → Counted c ended loads → is_none (pump_tells c.state) ≡ true → weight c.state.machine ≡ 0
    at_rest c k e =
        let z = c.state.sizes in
        pumped_rests z (lawful z k.good.in_range) (roomy z k.good.in_range) c.state.machine k.good.sound (none_of _ _ e)

-- a machine at rest owes nothing
owes_nothing : (s : MachineState) → IsWholeState s → weight s.machine ≡ 0 → (tag : ℕ) → is_some (due_of s tag) ≡ false
unfolding answered
owes_nothing s g rest tag =
    let accepted = (serves s g rest).loads tag 0 (omega (arith, g.in_range.some_memory)) in
    let may = may_of s (Load tag 0) g in
    grind (arith, accepted, may)

-- ---- the row

-- each request is counted once, each accepted load has its value, and nothing is left to do
pub row_counts : (s : MachineState) (regs : ℕ) (events : List Event) → IsWholeState s
    → ((tag : ℕ) → is_some (due_of s tag) ≡ false) → list_all is_request events ≡ true
    → ((row_from s regs events).accepted + (row_from s regs events).denied ≡ length events) ×
    ((row_from s regs events).values ≡ accepted_loads events (course s (empty_row regs))) ×
    (pump_tells (run_dry (serve_all events (course s (empty_row regs)))).state ≡ None)
unfolding pump_tells weight_of
row_counts s regs events g none r =
    let begin = course s (empty_row regs) in
    let nothing : Owing (due_of s) [] = record { apart = tt; owed = none } in
    let opened : Counted begin 0 0 = record { good = g; ends = refl; tags = []; owes = nothing; paid = refl } in
    let end = serve_all events begin in
    let dried = dry (weight end.state.machine) end (0 + length events) (0 + accepted_loads events begin)
    (counted_all events begin 0 0 r opened) (omega arith) in
    let last = run_dry end in
    let k : Counted last (0 + length events) (0 + accepted_loads events begin) = dried.0 in
    let paid = all_paid (due_of last.state) k.tags k.owes (owes_nothing last.state k.good dried.1) in
    let z = last.state.sizes in
    let rests = pumped_at_rest z (lawful z k.good.in_range) (roomy z k.good.in_range) last.state.machine k.good.sound dried.1 in
    let left : pump_tells last.state ≡ None = ap (option_map (λ event. (event, answered last.state event))) rests in
    (omega (arith, k.ends), omega (arith, paid, k.paid), left)
