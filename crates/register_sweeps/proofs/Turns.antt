-- The turns of a sweep's loops, one at a time, and that none changes a machine's sizes.
use Rattle.std.proofs.Common.{◌≡◌, ℕ, zero, suc, ◌+◌, ◌-◌, ◌<◌, ◌≤◌, Bool, true, false, cond, Option, Some, None, is_none, refl, sym, ap}
use Rattle.std.proofs.Common.{◌∙◌, arith}
use Rattle.machine_core.specs.Words.{Event, Answer}
use Rattle.machine_core.specs.Machine.{MachineState}
use Rattle.machine_core.specs.AnyMachine.{answered, after_event, after_some, pump_tells, pump_leaves}
use Rattle.machine_core.specs.Pump as driver
use Rattle.machine_core.specs.Pump.{pumped, until}
use Rattle.machine_core.proofs.Driving.{stays, goes}
use Rattle.machine_core.specs.Whole.{with_answer}
use Rattle.std.specs.Option.{option_map}
use Rattle.register_sweeps.specs.declared.row.Row.{Row}
use Rattle.round_driver.proofs.Turns.{left}
use Rattle.register_sweeps.specs.Sweep.{Course, course, with_pumped, pump_once, pump_and_wait, ask, ends, ask_again, pump_times}

pub waited : (s t : MachineState) (row told : Row) → course t told ≡ pump_once (course s row)
    → course t (record told { waited = told.waited + 1 }) ≡ pump_and_wait (course s row)
waited s t row told h = ap (λ c. course c.state (record c.row { waited = c.row.waited + 1 })) h

pub ask_again_step : (n : ℕ) (event : Event) (c : Course) (b : Bool) → ends event (pump_and_wait c) ≡ b
    → ask_again (suc n) event c ≡ cond b (ask event (pump_and_wait c)) (ask_again n event (ask event (pump_and_wait c)))
unfolding ask_again
ask_again_step n event c b e = grind arith

module _ (n i : ℕ) (event : Event) (c d e : Course) (pumped : d ≡ pump_and_wait c) (asked : e ≡ ask event d) (turn : i < n) where
  told : e ≡ ask event (pump_and_wait c)
  told = grind arith

  once : (b : Bool) → ends event d ≡ b → ask_again (n - i) event c
      ≡ cond b (ask event (pump_and_wait c)) (ask_again (n - (i + 1)) event (ask event (pump_and_wait c)))
  once b h = grind (arith, left, ask_again_step)

  pub turn_ends : ends event d ≡ true → ask_again (n - i) event c ≡ e
  turn_ends h = once true h ∙ sym told

  pub turn_goes_on : ends event d ≡ false → ask_again (n - i) event c ≡ ask_again (n - (i + 1)) event e
  turn_goes_on h = once false h ∙ ap (ask_again (n - (i + 1)) event) (sym told)

pub no_turn_left : (n i : ℕ) (event : Event) (c : Course) → n ≤ i → ask_again (n - i) event c ≡ c
unfolding ask_again
no_turn_left n i event c h = grind arith

-- with nothing to do a pump changes nothing
no_pump : (c : Course) → is_none (pump_tells c.state) ≡ true → pump_once c ≡ c
unfolding pump_tells pump_leaves
no_pump c e = go (pumped c.state.sizes c.state.machine) e
  where
    tell : Event → Event × Answer
    tell event = (event, answered c.state event)

    go : (o : Option Event) → is_none (option_map tell o) ≡ true
        → course (after_some c.state o) (with_pumped c.row (option_map tell o)) ≡ c
    go None e = refl
    go (Some event) e = cc

one_pump : (n : ℕ) (c : Course) → pump_times (suc n) c ≡ pump_times n (pump_once c)
unfolding pump_times
one_pump n c = go (is_none (pump_tells c.state)) refl
  where
    over : Course → Bool
    over c = is_none (pump_tells c.state)

    go : (b : Bool) → over c ≡ b → until over pump_once (suc n) c ≡ until over pump_once n (pump_once c)
    go true e = stays over pump_once (suc n) c e ∙ sym (ap (until over pump_once n) (no_pump c e) ∙ stays over pump_once n c e)
    go false e = goes over pump_once n c e

pub pump_turn : (n i : ℕ) (c d : Course) → d ≡ pump_once c → i < n → pump_times (n - i) c ≡ pump_times (n - (i + 1)) d
pump_turn n i c d h turn =
    let k : n - i ≡ suc (n - (i + 1)) = omega arith in
    ap (λ k. pump_times k c) k ∙ one_pump _ c ∙ ap (pump_times _) (sym h)

pub no_pump_left : (n i : ℕ) (c : Course) → n ≤ i → pump_times (n - i) c ≡ c
unfolding pump_times
no_pump_left n i c h = grind arith

-- what each event keeps, a pump keeps, and so do turns
module _ (Keeps : MachineState → Type 0) (event_keeps : (s : MachineState) (event : Event) → Keeps s → Keeps (after_event s event)) where
  pub pump_keeps : (s : MachineState) → Keeps s → Keeps (pump_leaves s)
  unfolding pump_leaves
  pump_keeps s k = grind arith

  pub turns_keep : (n : ℕ) (event : Event) (c : Course) → Keeps c.state → Keeps (ask_again n event c).state
  unfolding ask_again
  turns_keep zero event c k = k
  turns_keep (suc n) event c k =
      let asked = event_keeps _ event (pump_keeps c.state k) in
      grind (arith, asked, turns_keep n event (ask event (pump_and_wait c)) asked)

pub again_sizes : (n : ℕ) (event : Event) (c : Course) → (ask_again n event c).state.sizes ≡ c.state.sizes
unfolding after_event
again_sizes n event c = turns_keep (λ s. s.sizes ≡ c.state.sizes) (λ s event e. e) n event c refl

-- what a pump of the machine leaves and tells, by its state
pub left_by_pump : (s : MachineState) → record s { machine = driver.after_event s.sizes s.machine (pumped s.sizes s.machine) }
    ≡ pump_leaves s
unfolding pump_leaves after_event
left_by_pump s = grind arith

pub told_by_pump : (s : MachineState) → option_map (with_answer s.sizes s.machine) (pumped s.sizes s.machine) ≡ pump_tells s
unfolding pump_tells answered
told_by_pump s = refl
