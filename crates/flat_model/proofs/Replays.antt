-- A replay that has come to a place, beside the whole run.
use Rattle.std.proofs.Common.{◌≡◌, ◌≢◌, ℕ, suc, ◌+◌, ◌<◌, ◌≤◌, Bool, true, false, List, [], ◌∷◌, length, get_or, drop, Option, Some, None}
use Rattle.std.proofs.Common.{refl, ap, ap₂, ◌∙◌, arith}
use Rattle.std.specs.Option.{option_map}
use Rattle.std.proofs.lemmas.List.{drop_more, drop_all}
use Rattle.flat_model.specs.declared.Event.{Event}
use Rattle.flat_model.specs.declared.Answer.{Answer}
use Rattle.flat_model.specs.Flat.{Flat, may_answer, flat_after, flat_run, first_fault}

-- from `t` on, the pairs at this place and after it go on as the whole run from `s`
pub record Follows (s t : Flat) (events : List Event) (answers : List Answer) (place : ℕ) : Type 0 where
  pub run : flat_run s events answers ≡ flat_run t (drop place events) (drop place answers)
  pub fault : first_fault s events answers ≡ option_map (λ k. k + place) (first_fault t (drop place events) (drop place answers))

one_more : (n : ℕ) (o : Option ℕ) → option_map (λ k. k + n) (option_map (λ k. suc k) o) ≡ option_map (λ k. k + (n + 1)) o
one_more n None = refl
one_more n (Some k) = ap Some (omega arith)

run_step : (t : Flat) (e : Event) (a : Answer) (events : List Event) (answers : List Answer) → may_answer t e a ≡ true
    → flat_run t (e ∷ events) (a ∷ answers) ≡ flat_run (flat_after t e a) events answers
run_step t e a events answers may = rw may refl

fault_step : (t : Flat) (e : Event) (a : Answer) (events : List Event) (answers : List Answer) → may_answer t e a ≡ true
    → first_fault t (e ∷ events) (a ∷ answers) ≡ option_map (λ k. suc k) (first_fault (flat_after t e a) events answers)
fault_step t e a events answers may = rw may refl

fault_here : (t : Flat) (e : Event) (a : Answer) (events : List Event) (answers : List Answer) → may_answer t e a ≡ false
    → first_fault t (e ∷ events) (a ∷ answers) ≡ Some 0
fault_here t e a events answers may = rw may refl

module _ (s t : Flat) (events : List Event) (answers : List Answer) (place : ℕ) (so_far : Follows s t events answers place) where
  module _ (e : Event) (a : Answer) (in_events : place < length events) (in_answers : place < length answers) where
    events_from : drop place events ≡ get_or events place e ∷ drop (place + 1) events
    events_from = drop_more events place e in_events

    answers_from : drop place answers ≡ get_or answers place a ∷ drop (place + 1) answers
    answers_from = drop_more answers place a in_answers

    pub follows_next : may_answer t (get_or events place e) (get_or answers place a) ≡ true
        → Follows s (flat_after t (get_or events place e) (get_or answers place a)) events answers (place + 1)
    follows_next may =
        let here = get_or events place e in
        let given = get_or answers place a in
        let later = drop (place + 1) events in
        let rest = drop (place + 1) answers in
        record {
          run = so_far.run ∙ ap₂ (flat_run t) events_from answers_from ∙ run_step t here given later rest may;
          fault = so_far.fault ∙ ap (option_map (λ k. k + place))
              (ap₂ (first_fault t) events_from answers_from ∙ fault_step t here given later rest may)
              ∙ one_more place (first_fault (flat_after t here given) later rest);
        }

    pub faulty_here : may_answer t (get_or events place e) (get_or answers place a) ≡ false → first_fault s events answers ≡ Some place
    faulty_here may =
        let later = drop (place + 1) events in
        let rest = drop (place + 1) answers in
        so_far.fault ∙ ap (option_map (λ k. k + place))
        (ap₂ (first_fault t) events_from answers_from ∙ fault_here t (get_or events place e) (get_or answers place a) later rest may)
        ∙ ap Some (omega arith)

  pub follows_to_end : length events ≤ place → length answers ≤ place → flat_run s events answers ≡ Some t
  follows_to_end h k = so_far.run ∙ ap₂ (flat_run t) (drop_all place events h) (drop_all place answers k)

run_from : (s : Flat) (e : Event) (a : Answer) (events : List Event) (answers : List Answer)
    → flat_run (flat_after s e a) events answers ≡ None → (b : Bool) → may_answer s e a ≡ b → flat_run s (e ∷ events) (a ∷ answers) ≡ None
run_from s e a events answers h false may = rw may refl
run_from s e a events answers h true may = rw may h

-- where there are more events or more answers there is no run
pub uneven_run : (s : Flat) (events : List Event) (answers : List Answer) → length events ≢ length answers
    → flat_run s events answers ≡ None
uneven_run s [] [] h = absurd (h refl)
uneven_run s [] (a ∷ answers) h = refl
uneven_run s (e ∷ events) [] h = refl
uneven_run s (e ∷ events) (a ∷ answers) h = run_from s e a events answers (uneven_run (flat_after s e a) events answers (λ q. h (ap suc q)))
    (may_answer s e a) refl
