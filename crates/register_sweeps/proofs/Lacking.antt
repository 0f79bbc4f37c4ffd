-- A request that lacks room for a miss is refused again until a word is processed or a queued word is drained.
use Rattle.std.proofs.Common.{◌≡◌, ℕ, zero, suc, ◌+◌, ◌%◌, ◌==◌, Bool, true, false, ◌&&◌, not, nat_lt, List, [], ◌∷◌, length, get_or}
use Rattle.std.proofs.Common.{set, Option, Some, None, is_some, is_none, find, filter, refl, ap, ◌∙◌, arith}
use Rattle.std.proofs.lemmas.Bool.{not-false}
use Rattle.machine_core.specs.Words.{Word, Cause, NoRegister, SetPending, QueueFull, Event, Load, Store, Prefetch, Serve, Arrive, Take}
use Rattle.machine_core.specs.Words.{Answer, Refused, Reply, Sizes}
use Rattle.machine_core.specs.State.{Cache, Register, free_register, register_at, frame_at, live_for, is_present, is_pending_block}
use Rattle.machine_core.specs.State.{is_pending, block_of, order_of}
use Rattle.machine_core.specs.Registers.{marked}
use Rattle.machine_core.proofs.FormsEvents.{live-marked}
use Rattle.machine_core.specs.Causes.{first_cause, choose, is_resident_block, ways_of, lacks_places, load_cause, store_cause}
use Rattle.machine_core.specs.Causes.{prefetch_cause}
use Rattle.machine_core.specs.Steps.{load_step, store_step, prefetch_step, take_step, arrived}
use Rattle.machine_core.specs.Machine.{Machine, MachineState, apply}
use Rattle.machine_core.specs.AnyMachine.{answered, after_event, after_some, pump_tells, pump_leaves}
use Rattle.machine_core.specs.Pump.{pumped}
use Rattle.std.specs.Option.{option_map, option_or}
use Rattle.std.specs.List.{list_all}
use Rattle.round_driver.specs.Rounds.{is_end}
use Rattle.round_driver.specs.Walks.{is_request}
use Rattle.register_sweeps.specs.declared.row.Row.{Row}
use Rattle.register_sweeps.specs.Sweep.{Course, course, ask, ends, pump_once, pump_and_wait}
use Rattle.register_sweeps.proofs.Turns.{waited}
use Rattle.register_sweeps.specs.Lacking.{is_lack, is_of_a_word, is_refused_room, leaves_room, may_make_room, lacks_room_at, lacks_room_in}
use Rattle.register_sweeps.specs.Lacking.{lacks_room}
use Rattle.register_sweeps.proofs.Ending.{waits}

-- ---- a request that was refused for want of room lacks it

refused_lacks : (s : MachineState) (event : Event) (x : Cause) → (is_of_a_word event && is_lack x) ≡ true → answered s event ≡ Refused x
    → lacks_room s event ≡ true
unfolding answered load_step load_cause store_step store_cause prefetch_step prefetch_cause
refused_lacks s (Load tag at) x l h = grind arith
refused_lacks s event x l h = grind arith

pub lacks_where_refused : (s : MachineState) (event : Event) (a : Answer) → answered s event ≡ a → is_refused_room event a ≡ true
    → lacks_room s event ≡ true
lacks_where_refused s event (Refused x) e h = refused_lacks s event x h e
lacks_where_refused s event a e h = cc

-- ---- a request that lacks room waits

pub lacking_waits : (s : MachineState) (event : Event) → lacks_room s event ≡ true → (is_request event ≡ true) ×
    (is_end (answered s event) ≡ false)
unfolding answered load_step load_cause store_step store_cause prefetch_step prefetch_cause
lacking_waits s (Load tag at) h = (refl, grind arith)
lacking_waits s (Store at word lanes) h = (refl, grind arith)
lacking_waits s (Prefetch at) h = (refl, grind arith)
lacking_waits s event h = cc

-- so to ask it changes nothing
pub lacking_stays : (c : Course) (event : Event) → lacks_room c.state event ≡ true → (ends event c ≡ false) × (ask event c ≡ c)
lacking_stays c event h = let w = lacking_waits c.state event h in (w.1, waits event c w.0 w.1)

-- ---- events that leave room alone

-- an element that passes as the one before it did leaves as many that pass
count_same : {X : Type 0} (p : X → Bool) (d : X) (xs : List X) (k : ℕ) (new : X) → p new ≡ p (get_or xs k d)
    → length (filter p (set xs k new)) ≡ length (filter p xs)
count_same p d [] k new e = refl
count_same p d (x ∷ xs) zero new e = grind arith
count_same p d (x ∷ xs) (suc k) new e = grind (arith, count_same p d xs k new e)

module _ (z : Sizes) (c : Cache) where
  -- the replies are no part of it
  with_ready : (ready : List Reply) (event : Event) → lacks_room_in z (record c { ready = ready }) event ≡ lacks_room_in z c event
  unfolding choose
  with_ready ready event = grind arith

  -- nor is a word that arrives, which is only marked in its register
  module _ (slot i : ℕ) (word : Word) where
    abbrev after : Cache
    after = arrived c slot i word

    live : (block : ℕ) → live_for after block ≡ live_for c block
    unfolding arrived
    live block = live-marked c slot i block

    pending : (o : Option ℕ) → is_pending_block after o ≡ is_pending_block c o
    pending None = refl
    pending (Some block) = ap is_some (live block)

    resident : (o : Option ℕ) → is_resident_block after o ≡ is_resident_block c o
    resident None = refl
    resident (Some block) = ap is_none (live block)

    chosen : (block : ℕ) → choose z after block ≡ choose z c block
    unfolding choose arrived
    chosen block =
        ap (option_or (find (λ f. is_none (frame_at c f).block) (ways_of z block)))
        (λ i. find (λ f. resident (frame_at c f).block i) (order_of c.directory (block % z.sets)))

    all_pending : (block : ℕ) → list_all (is_pending after) (ways_of z block) ≡ list_all (is_pending c) (ways_of z block)
    unfolding arrived
    all_pending block = λ i. list_all (λ f. pending (frame_at c f).block i) (ways_of z block)

    taken_registers : length (filter (λ (r : Register). r.valid) after.registers) ≡ length (filter (λ (r : Register). r.valid) c.registers)
    unfolding arrived marked
    taken_registers = count_same (λ (r : Register). r.valid) free_register c.registers slot (marked (register_at c slot) i) refl

    room_at : (at : ℕ) → lacks_room_at z after at ≡ lacks_room_at z c at
    unfolding arrived
    room_at at =
        let block = block_of z at in
        λ i. nat_lt at z.words && (not (is_present c block) && is_some (first_cause
        ((taken_registers i == z.regs, NoRegister) ∷ (all_pending block i, SetPending)
        ∷ (lacks_places z c (chosen block i), QueueFull) ∷ [])))

    with_arrived : (event : Event) → lacks_room_in z after event ≡ lacks_room_in z c event
    with_arrived event = grind (arith, room_at)

module _ (z : Sizes) (m : Machine) (event : Event) where
  abbrev Keeps : Machine → Type 0
  Keeps n = lacks_room_in z n.cache event ≡ lacks_room_in z m.cache event

  made : (e : Event) → leaves_room e ≡ true → Keeps (apply z m e).machine
  unfolding take_step
  made (Take place) h = grind (arith, with_ready)
  made (Serve bank) h = grind arith
  made (Arrive bank place) h = grind (arith, with_arrived)
  made event h = cc

-- a pump that doesn't make room leaves a request without it
pub still_lacks : (s : MachineState) (event : Event) → may_make_room (pump_tells s) ≡ false → lacks_room s event ≡ true
    → lacks_room (pump_leaves s) event ≡ true
unfolding pump_tells pump_leaves after_event
still_lacks s event none h = go (pumped s.sizes s.machine) none
  where
    go : (o : Option Event) → may_make_room (option_map (λ e. (e, answered s e)) o) ≡ false → lacks_room (after_some s o) event ≡ true
    go None n = h
    go (Some e) n = made s.sizes s.machine event e (not-false _ n) ∙ h

-- behind an ask that was refused room, too
pub asked_lacks : (s : MachineState) (row : Row) (event : Event) (a : Answer) → answered s event ≡ a → is_refused_room event a ≡ true
    → lacks_room (after_event s event) event ≡ true
asked_lacks s row event a e h = grind (arith, lacks_where_refused, lacking_stays (course s row) event)

-- a turn in which such a request isn't asked is one in which it was refused again
pub record IsRefusedAgain (s t : MachineState) (row counted : Row) (event : Event) : Type 0 where
  pub lacks : lacks_room t event ≡ true
  pub ends : false ≡ ends event (pump_and_wait (course s row))
  pub course : course t counted ≡ ask event (pump_and_wait (course s row))

pub refused_again : (s t : MachineState) (row told : Row) (event : Event) → course t told ≡ pump_once (course s row)
    → may_make_room (pump_tells s) ≡ false → lacks_room s event ≡ true
    → IsRefusedAgain s t row (record told { waited = told.waited + 1 }) event
refused_again s t row told event h none lacked =
    let pumped = waited s t row told h in
    let stays = lacking_stays (course t (record told { waited = told.waited + 1 })) event in
    record {
      lacks = grind (arith, still_lacks);
      ends = grind (arith, still_lacks, pumped, stays);
      course = grind (arith, still_lacks, pumped, stays);
    }
