-- A request that waits at a whole machine ends within the machine's weight, so that more turns do the same.
use Rattle.std.proofs.Common.{◌≡◌, ℕ, ◌≤◌, true, false, sym, ap, ◌∙◌, arith}
use Rattle.machine_core.specs.Words.{Event}
use Rattle.machine_core.specs.Law.{most_weight}
use Rattle.machine_core.specs.AnyMachine.{weight_of}
use Rattle.machine_core.specs.Pump.{weight}
use Rattle.machine_core.specs.Whole.{IsWholeState}
use Rattle.machine_core.proofs.Driving.{no_more}
use Rattle.machine_core.proofs.Whole.{served_after_pumps, lawful, roomy}
use Rattle.round_driver.specs.Walks.{is_request}
use Rattle.round_driver.proofs.Moves.{whole_after}
use Rattle.register_sweeps.specs.Sweep.{Course, pump_and_wait, ask, ends, ask_again}
use Rattle.register_sweeps.proofs.Ending.{waits, turns_are, turns_end}
use Rattle.register_sweeps.proofs.Turns.{turns_keep}

pub whole_after_turns : (n : ℕ) (event : Event) (c : Course) → IsWholeState c.state → IsWholeState (ask_again n event c).state
whole_after_turns = turns_keep IsWholeState whole_after

-- ---- a request that waits

pub still_waits : (event : Event) (c : Course) → is_request event ≡ true → ends event c ≡ false → ends event (ask event c) ≡ false
still_waits event c request h = ap (ends event) (waits event c request h) ∙ h

-- as many turns as any weight do what as many as this machine's weight do
pub enough_turns : (n : ℕ) (event : Event) (c : Course) → is_request event ≡ true → IsWholeState c.state → ends event c ≡ false
    → most_weight c.state.sizes ≤ n → ask_again n event c ≡ ask_again (weight_of c.state) event c
unfolding weight_of
enough_turns n event c request whole h most =
    let z = c.state.sizes in
    let range = whole.in_range in
    let bound = (served_after_pumps z (lawful z range) (roomy z range) c.state.machine whole.sound).few in
    let w = weight c.state.machine in
    let end = turns_end (λ c. Unit {0}) (λ c k. tt) event request w c (record { kept = tt; whole = whole; few = omega arith }) in
    turns_are n event c request h
    ∙ ap (ask event) (no_more (ends event) pump_and_wait w n c (omega (arith, bound, most)) end.is_over)
    ∙ sym (turns_are w event c request h)
