-- A round answers one load at most.
use Rattle.std.proofs.Common.{◌≡◌, ◌≤◌, Bool, true, false, List, [], ◌∷◌, ◌++◌, length, append-nil}
use Rattle.std.proofs.Common.{Option, Some, None, refl, sym, subst, arith}
use Rattle.std.specs.List.{list_all}
use Rattle.std.proofs.lemmas.List.Elements.{filter-append}
use Rattle.std.proofs.lemmas.Bool.{and_parts}
use Rattle.machine_core.specs.Words.{Event, Drain, Serve, Arrive, Process, Take}
use Rattle.machine_core.specs.Steps.{load_step, store_step, prefetch_step, evict_step, drain_step, process_step}
use Rattle.machine_core.specs.Machine.{MachineState}
use Rattle.machine_core.specs.AnyMachine.{answered}
use Rattle.round_driver.specs.declared.note.Note.{Note}
use Rattle.round_driver.specs.Rounds.{Course, attempt, ask}
use Rattle.round_driver.specs.Rounds.{moves, asked, after_round}
use Rattle.round_driver.specs.Walks.{is_request}
use Rattle.round_driver.proofs.Kept.{arrives}
use Rattle.round_driver.specs.Stepping.{RoundsState, offered, is_value, answers, AnswersOneLoad}

-- ---- events that never answer a load

abbrev is_take : Event → Bool
is_take (Take place) = true
is_take event = false

abbrev IsQuiet : Event → Type 0
IsQuiet event = (s : MachineState) → is_value (answered s event) ≡ false

-- a request, and each move but a take
quiet : (event : Event) → is_take event ≡ false → IsQuiet event
unfolding answered load_step store_step prefetch_step evict_step drain_step process_step
quiet (Take place) h s = cc
quiet event h s = grind arith

-- ---- what was answered in a round so far

abbrev so_far : Course → List Note
so_far c = answers c.notes

quiet_note : (n : Note) (notes : List Note) → is_value n.answer ≡ false → answers (notes ++ n ∷ []) ≡ answers notes
quiet_note n notes h = grind (arith, filter-append, append-nil)

-- so far these loads were answered
record Answered (before : List Note) (c : Course) : Type 0 where
  same : so_far c ≡ before

attempted : (before : List Note) (event : Event) (c : Course) → is_take event ≡ false → Answered before c
    → Answered before (attempt event c)
unfolding attempt
attempted before event c h w = grind (arith, quiet_note, quiet)

-- one take answers one load at most
taken : (c : Course) → so_far c ≡ [] → length (so_far (attempt (Take 0) c)) ≤ 1
unfolding attempt
taken c none = grind (arith, filter-append)

moved : (c : Course) → so_far c ≡ [] → length (so_far (moves c)) ≤ 1
unfolding moves
moved c none =
    let before = attempt _ _ in
    let arrived = arrives (Answered []) (λ p c w. record { same = w.same }) (λ b c w. attempted [] (Serve b) c refl w)
    (λ b c w. attempted [] (Arrive b 0) c refl w) _ 0 c (record { same = none }) in
    let processed = attempted [] (Process 0) _ refl arrived in
    let drained : Answered _ (attempt Drain (attempt _ before)) = attempted _ Drain _ refl (record { same = refl }) in
    subst (λ l. length l ≤ 1) (sym drained.same) (taken before processed.same)

asks : (request : Option Event) (c : Course) → list_all is_request (offered request) ≡ true
    → answers (asked [] (offered request) c).told ≡ so_far c
unfolding ask
asks None c h = refl
asks (Some event) c h = quiet_note _ c.notes (quiet event (no_take event (and_parts _ true h).0) _)
  where
    no_take : (event : Event) → is_request event ≡ true → is_take event ≡ false
    no_take (Take place) h = cc
    no_take event h = refl

pub answers_one_load : (s : MachineState) (r : RoundsState) (request : Option Event) → AnswersOneLoad s r request
unfolding after_round
answers_one_load s r request h = grind (arith, asks, moved)
