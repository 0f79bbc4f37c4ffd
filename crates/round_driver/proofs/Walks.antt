-- What is told of a run is the machine's walk, and each request ends once.
use Rattle.std.proofs.Common.{◌≡◌, ℕ, Bool, true, false, cond, List, [], ◌∷◌, ◌++◌}
use Rattle.std.proofs.Common.{append_assoc, append-nil, refl, sym, ap, subst, arith}
use Rattle.std.specs.List.{list_all}
use Rattle.std.proofs.lemmas.List.{map-append}
use Rattle.std.proofs.lemmas.Bool.{and_parts}
use Rattle.machine_core.specs.Words.{Event, Drain, Sizes}
use Rattle.machine_core.specs.Steps.{drain_step, process_step, take_step}
use Rattle.machine_core.specs.Machine.{Machine, MachineState, apply, walked, told}
use Rattle.machine_core.specs.AnyMachine.{answered, after_event}
use Rattle.machine_core.proofs.Driving.{keeps}
use Rattle.round_driver.specs.declared.note.Note.{Note}
use Rattle.round_driver.specs.declared.timing.Timing.{Timing}
use Rattle.round_driver.specs.Rounds.{Course, course, Run, is_done, note_of, request_note, attempt, ask}
use Rattle.round_driver.specs.Rounds.{moves, asked, after_round, is_over, rounds_until_over, start_of}
use Rattle.round_driver.proofs.Kept.{arrives}
use Rattle.round_driver.specs.Walks.{IsWalk, is_request, ended, RunIsTold}

-- ---- an event that does nothing leaves the machine as it was

nothing_done : (z : Sizes) (m : Machine) (event : Event) → is_request event ≡ false → is_done (apply z m event).answer ≡ false
    → (apply z m event).machine ≡ m
unfolding drain_step process_step take_step
nothing_done z m Drain r h = grind arith
nothing_done z m event r h = grind arith

unchanged : (s : MachineState) (event : Event) → is_request event ≡ false → is_done (answered s event) ≡ false → after_event s event ≡ s
unfolding answered after_event
unchanged s event r h = grind (arith, nothing_done)

-- ---- a walk, and one event more

walked_then : (z : Sizes) (m : Machine) (xs ys : List Event) → walked z m (xs ++ ys) ≡ walked z (walked z m xs) ys
walked_then z m [] ys = refl
walked_then z m (x ∷ xs) ys = walked_then z (apply z m x).machine xs ys

told_then : (z : Sizes) (m : Machine) (xs ys : List Event) → told z m (xs ++ ys) ≡ told z m xs ++ told z (walked z m xs) ys
told_then z m [] ys = refl
told_then z m (x ∷ xs) ys = ap (λ l. (apply z m x).answer ∷ l) (told_then z (apply z m x).machine xs ys)

ended_then : (xs ys : List Note) → ended (xs ++ ys) ≡ ended xs ++ ended ys
ended_then [] ys = refl
ended_then (x ∷ xs) ys = grind (arith, ended_then xs ys)

walk_more : (s : MachineState) (ns : List Note) (t : MachineState) (n : Note) → IsWalk s ns t → n.answer ≡ answered t n.event
    → IsWalk s (ns ++ n ∷ []) (after_event t n.event)
unfolding answered after_event
walk_more s ns t n h e =
    record {
      ends = grind (arith, h.ends, map-append, walked_then, s.sizes, s.machine);
      tells = grind (arith, h.tells, h.ends, map-append, told_then, s.sizes, s.machine);
    }

-- ---- the moves of a round: what was told before it, and in it

record IsWalked (s : MachineState) (before : List Note) (c : Course) : Type 0 where
  walks : IsWalk s (before ++ c.notes) c.state
  none_ended : ended (before ++ c.notes) ≡ ended before

module _ (s : MachineState) (before : List Note) where
  attempted : (event : Event) (c : Course) → is_request event ≡ false → IsWalked s before c → IsWalked s before (attempt event c)
  unfolding attempt
  attempted event c r w = go _ refl
    where
      go : (b : Bool) → is_done (answered c.state event) ≡ b
          → IsWalked s before (course (after_event c.state event) c.schedule (cond b (c.notes ++ note_of c event ∷ []) c.notes))
      go true e =
          let more = walk_more s (before ++ c.notes) c.state _ w.walks refl in
          record {
            walks = subst (λ ns. IsWalk s ns (after_event c.state event)) (append_assoc before _ (note_of c event ∷ [])) more;
            none_ended = grind (
              arith,
              append_assoc before c.notes (note_of c event ∷ []),
              ended_then (before ++ c.notes) (note_of c event ∷ []),
              append-nil,
              w.none_ended,
            );
          }
      go false e = grind (arith, unchanged)

  moved : (c : Course) → IsWalked s before c → IsWalked s before (moves c)
  unfolding moves
  moved c w =
      let arrived = arrives _ (λ p c w. record { walks = w.walks; none_ended = w.none_ended })
      (λ b c w. attempted _ c refl w) (λ b c w. attempted _ c refl w) _ 0 c w in
      attempted Drain _ refl (attempted _ _ refl (attempted _ _ refl arrived))

-- ---- whole rounds

-- what was told is the machine's walk, and the requests that ended are those before the ones that are left
record IsToldSoFar (s : MachineState) (requests : List Event) (r : Run) : Type 0 where
  walks : IsWalk s r.told r.state
  in_order : list_all is_request requests ≡ true → (list_all is_request r.left ≡ true) × (ended r.told ++ r.left ≡ requests)

module _ (s : MachineState) (requests : List Event) where
  asks : (told : List Note) (left : List Event) (c : Course) → IsWalked s told c
      → (list_all is_request requests ≡ true → (list_all is_request left ≡ true) × (ended told ++ left ≡ requests))
      → IsToldSoFar s requests (asked told left c)
  unfolding ask
  asks told [] c w order = record { walks = w.walks; in_order = grind (arith, append-nil, w.none_ended) }
  -- a request that ended is told as such, and one that didn't is left
  asks told (event ∷ rest) c w order =
      let n = request_note c event in
      record {
        walks = subst (λ ns. IsWalk s ns (after_event c.state event)) (append_assoc told c.notes (n ∷ []))
            (walk_more s (told ++ c.notes) c.state n w.walks refl);
        in_order = λ h. grind (arith, and_parts, order h, append_assoc, ended_then, w.none_ended);
      }

  round_told : (r : Run) → IsToldSoFar s requests r → IsToldSoFar s requests (after_round r)
  unfolding after_round
  round_told r t =
      let none = append-nil r.told in
      let start : IsWalked s r.told _ =
      record { walks = subst (λ ns. IsWalk s ns r.state) (sym none) t.walks; none_ended = ap ended none } in
      asks r.told r.left _ (moved s r.told _ start) t.in_order

  rounds_told : (n : ℕ) (r : Run) → IsToldSoFar s requests r → IsToldSoFar s requests (rounds_until_over n r)
  unfolding rounds_until_over
  rounds_told n r t = keeps is_over after_round (IsToldSoFar s requests) (λ r e t. round_told r t) n r t

pub run_is_told : (timing : Timing) (s : MachineState) (requests : List Event) (n : ℕ) → RunIsTold timing s requests n
run_is_told timing s requests n =
    let start : IsToldSoFar s requests (start_of timing s requests) =
    record { walks = record { ends = refl; tells = refl }; in_order = λ h. (h, refl) } in
    let t = rounds_told s requests n _ start in
    record { walks = t.walks; in_order = λ h. (t.in_order h).1 }
