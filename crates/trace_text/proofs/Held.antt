-- What is held of the lines so far.
use Rattle.std.proofs.Common.{◌≡◌, ℕ, suc, ◌+◌, ◌≤◌, Bool, true, false, Option, Some, None, Result, Ok, Err, OnOk, List, [], ◌∷◌, ◌++◌}
use Rattle.std.proofs.Common.{length, take, length-append, append-nil, append_assoc, refl, sym, ◌∙◌, ap, arith}
use Rattle.std.specs.Prelude.{cond, slice_get}
use Rattle.std.specs.Option.{option_map, option_to_list, option_and_then}
use Rattle.std.specs.List.{AllByRecursion}
use Rattle.std.proofs.Math.Seq.{get_or-append_seam, take-append-le}
use Rattle.std.proofs.lemmas.List.{get_or_append_left, take_all}
use Rattle.std.proofs.lemmas.Option.{slice_get_within, slice_get-get_or, get_or_from_slice_get}
use Rattle.flat_model.specs.declared.Event.{Event}
use Rattle.flat_model.specs.declared.Answer.{Answer}
use Rattle.flat_model.specs.Flat.{Flat, may_answer, flat_after, flat_step, flat_run, first_fault}
use Rattle.trace_text.specs.Lines.{line_of}
use Rattle.trace_text.specs.Pairs.{pair_of}
use Rattle.trace_text.specs.Requests.{IsRequest, request_in, request_of, requests_of}
use Rattle.trace_text.specs.Checks.{step_of, event_of, answer_of, number_of, events_in, answers_in, numbers_from, step_with, zeros}
use Rattle.trace_text.specs.Checks.{IsJudged, IsJudgedFrom, JudgedFrom, Judges}
use Rattle.trace_text.specs.declared.check.CheckEnd.{CheckEnd}
use Rattle.trace_text.specs.declared.check.CheckEnd.TheVariants.{Flat as FlatRun, Mismatch}
use Rattle.trace_text.specs.declared.check.Step.{Step}
use Rattle.trace_text.specs.declared.lines.Line.{Line}
use Rattle.trace_text.specs.declared.pairs.Pair.{Pair}
use Rattle.trace_text.proofs.Serving.{runs_then}

pub on_ok : {A E P Q : Type 0} (r : Result A E) → (P → Q) → OnOk r P → OnOk r Q
on_ok (Ok x) f p = f p
on_ok (Err e) f p = tt

-- ---- requests

requests_more : (texts : List (List ℕ)) (text : List ℕ) → requests_of (texts ++ text ∷ []) ≡ requests_of texts
    ++ option_to_list (request_of (line_of text))
requests_more [] text = grind (arith, append-nil)
requests_more (t ∷ ts) text = grind (arith, requests_more ts text, append_assoc)

pub requests_kept : (old new : List Event) (event : Option Event) (said : Line) (text : List ℕ)
    → event ≡ request_in said → Ok said ≡ line_of text → new ≡ old ++ option_to_list event
    → (texts : List (List ℕ)) → old ≡ requests_of texts → new ≡ requests_of (texts ++ text ∷ [])
requests_kept old new event said text is read e texts held = grind (arith, requests_more)

pub requests_are : (texts : List (List ℕ)) → AllByRecursion IsRequest (requests_of texts)
requests_are [] = tt
requests_are (t ∷ ts) = grind (arith, requests_are ts)

pub requests_few : (texts : List (List ℕ)) → length (requests_of texts) ≤ length texts
requests_few [] = omega arith
requests_few (t ∷ ts) = grind (arith, requests_few ts, length-append)

-- ---- steps

-- one line more
record More (n : ℕ) (texts : List (List ℕ)) (text : List ℕ) (o : Option Step) : Type 0 where
  events : events_in (texts ++ text ∷ []) ≡ events_in texts ++ event_of o
  answers : answers_in (texts ++ text ∷ []) ≡ answers_in texts ++ answer_of o
  numbers : numbers_from n (texts ++ text ∷ []) ≡ numbers_from n texts ++ number_of (n + length texts) o

more : (n : ℕ) (texts : List (List ℕ)) (text : List ℕ) (o : Option Step) → step_of (pair_of text) ≡ o → More n texts text o
more n [] text o is = record {
  events = grind (arith, append-nil);
  answers = grind (arith, append-nil);
  numbers = grind (arith, append-nil);
}
more n (t ∷ ts) text o is =
    let rest = more (n + 1) ts text o is in
    record {
      events = grind (arith, rest.events, append_assoc);
      answers = grind (arith, rest.answers, append_assoc);
      numbers = grind (arith, rest.numbers, append_assoc);
    }

-- as many numbers and answers as events, and no more than lines
record Even (n : ℕ) (texts : List (List ℕ)) : Type 0 where
  numbers : length (numbers_from n texts) ≡ length (events_in texts)
  answers : length (answers_in texts) ≡ length (events_in texts)
  few : length (events_in texts) ≤ length texts

even : (n : ℕ) (texts : List (List ℕ)) → Even n texts
even n [] = record { numbers = refl; answers = refl; few = omega arith }
even n (t ∷ ts) =
    let rest = even (n + 1) ts in
    record {
      numbers = grind (arith, rest.numbers, length-append);
      answers = grind (arith, rest.answers, length-append);
      few = grind (arith, rest.few, length-append);
    }

-- ---- a run that is judged as it goes

step_in : (b : Bool) (o p : Option ℕ) (place : ℕ) → ((k : ℕ) → o ≡ Some k → p ≡ Some k)
    → cond b (option_map (λ k. suc k) o) (Some 0) ≡ Some place → cond b (option_map (λ k. suc k) p) (Some 0) ≡ Some place
step_in false o p place more e = e
step_in true None p place more e = cc
step_in true (Some k) p place more e = grind arith

-- the first fault stands, whatever follows
fault_then : (xs ys : List Event) (xa ya : List Answer) (s : Flat) (place : ℕ) → first_fault s xs xa ≡ Some place
    → first_fault s (xs ++ ys) (xa ++ ya) ≡ Some place
fault_then (x ∷ xs) ys (a ∷ xa) ya s place e =
    step_in (may_answer s x a) (first_fault (flat_after s x a) xs xa) _ place (fault_then xs ys xa ya (flat_after s x a)) e
fault_then xs ys xa ya s place e = cc

no_run_in : (b : Bool) (o : Option ℕ) (place : ℕ) (s : Flat) (f : Flat → Option Flat) → ((k : ℕ) → o ≡ Some k → f s ≡ None)
    → cond b (option_map (λ k. suc k) o) (Some 0) ≡ Some place → option_and_then f (cond b (Some s) None) ≡ None
no_run_in false o place s f more e = refl
no_run_in true None place s f more e = cc
no_run_in true (Some k) place s f more e = more k refl

-- a run with a fault is none
fault_no_run : (xs : List Event) (xa : List Answer) (s : Flat) (place : ℕ) → first_fault s xs xa ≡ Some place → flat_run s xs xa ≡ None
fault_no_run (x ∷ xs) (a ∷ xa) s place e =
    no_run_in (may_answer s x a) _ place (flat_after s x a) (λ t. flat_run t xs xa) (fault_no_run xs xa (flat_after s x a)) e
fault_no_run xs xa s place e = cc

no_step : (b : Bool) (t : Flat) → cond b (Some t) None ≡ None → b ≡ false
no_step false t e = refl
no_step true t e = cc

end_in : (b : Bool) (s t : Flat) (o : Option ℕ) (f : Flat → Option Flat) (place : ℕ) → option_and_then f (cond b (Some s) None) ≡ Some t
    → (f s ≡ Some t → o ≡ Some place) → cond b (option_map (λ k. suc k) o) (Some 0) ≡ Some (suc place)
end_in b s t o f place e here = grind arith

-- a step behind a run that is none is the first fault
fault_at_end : (xs : List Event) (xa : List Answer) (x : Event) (a : Answer) (s t : Flat) → flat_run s xs xa ≡ Some t
    → flat_step t x a ≡ None → first_fault s (xs ++ x ∷ []) (xa ++ a ∷ []) ≡ Some (length xs)
fault_at_end [] [] x a s t run none =
    let may : may_answer t x a ≡ false = no_step (may_answer t x a) (flat_after t x a) none in
    cc
fault_at_end (y ∷ xs) (b ∷ xa) x a s t run none =
    end_in (may_answer s y b) (flat_after s y b) t _ (λ m. flat_run m xs xa) (length xs) run
    (λ here. fault_at_end xs xa x a _ t here none) ∙ ap Some (omega arith)
fault_at_end xs xa x a s t run none = cc

get_more : (ns ms : List ℕ) (place n : ℕ) → slice_get ns place ≡ Some n → slice_get (ns ++ ms) place ≡ Some n
get_more ns ms place n e =
    grind (arith, slice_get_within, slice_get-get_or, length-append, get_or_append_left, get_or_from_slice_get ns place n 0)

get_last : (ns : List ℕ) (place n : ℕ) → place ≡ length ns → slice_get (ns ++ n ∷ []) place ≡ Some n
get_last ns place n e = grind (arith, slice_get-get_or (ns ++ n ∷ []) place 0, length-append, get_or-append_seam ns n [] 0)

-- what goes behind the lists changes nothing of their first entries
first_run : (start now : Flat) (events more : List Event) (answers said : List Answer) (place : ℕ)
    → place ≤ length events → length answers ≡ length events
    → flat_run start (take place events) (take place answers) ≡ Some now
    → flat_run start (take place (events ++ more)) (take place (answers ++ said)) ≡ Some now
first_run start now events more answers said place within even run =
    rw (take-append-le place events more within, take-append-le place answers said (omega (arith, within, even))) run

-- a line that is no step
pub judged_still : (start now : Flat) (texts : List (List ℕ)) (text : List ℕ) (pair : Pair) (steps : ℕ) (o : Option ℕ)
    → Ok pair ≡ pair_of text → None ≡ step_with pair.line pair.answer → JudgedFrom start texts steps o now
    → JudgedFrom start (texts ++ text ∷ []) steps o now
judged_still start now texts text pair steps None read none judged =
    let all = more 1 texts text None cc in
    rw (all.events, all.answers, append-nil (events_in texts), append-nil (answers_in texts)) judged
judged_still start now texts text pair steps (Some n) read none judged =
    let all = more 1 texts text None cc in
    rw (
      all.events,
      all.answers,
      all.numbers,
      append-nil (events_in texts),
      append-nil (answers_in texts),
      append-nil (numbers_from 1 texts),
    )
    judged

-- a line that is a step
pub judged_more : (start now : Flat) (texts : List (List ℕ)) (text : List ℕ) (pair : Pair) (step : Step) (number steps : ℕ) (o : Option ℕ)
    (next : Flat) (steps' : ℕ) (o' : Option ℕ)
    → Ok pair ≡ pair_of text → Some step ≡ step_with pair.line pair.answer → number ≡ length texts + 1
    → JudgedFrom start texts steps o now → Judges number step.event step.answer now steps o next steps' o'
    → JudgedFrom start (texts ++ text ∷ []) steps' o' next
judged_more start now texts text pair step number steps (Some m) next steps' (Some o') read some at judged step_is =
    let all = more 1 texts text (Some step) cc in
    let size = even 1 texts in
    let within = slice_get_within (numbers_from 1 texts) judged.1.0 m judged.1.2 in
    rw (all.events, all.answers, all.numbers) (
      omega (arith, step_is.0, judged.0, length-append (events_in texts) (step.event ∷ [])),
      (
        judged.1.0,
        fault_then (events_in texts) (step.event ∷ []) (answers_in texts) (step.answer ∷ []) start judged.1.0 judged.1.1,
        get_more (numbers_from 1 texts) _ judged.1.0 m judged.1.2 ∙ sym step_is.1,
        first_run start next (events_in texts) _ (answers_in texts) _ judged.1.0 (omega (arith, size.numbers, within)) size.answers
            (judged.1.3 ∙ ap Some (sym step_is.2)),
      ),
    )
judged_more start now texts text pair step number steps None next steps' None read some at judged step_is =
    let all = more 1 texts text (Some step) cc in
    rw (all.events, all.answers) (
      omega (arith, step_is.1, judged.0, length-append (events_in texts) (step.event ∷ [])),
      runs_then (events_in texts) (step.event ∷ []) (answers_in texts) (step.answer ∷ []) start now next judged.1
          (ap (option_and_then (λ t. flat_run t [] [])) step_is.0),
    )
judged_more start now texts text pair step number steps None next steps' (Some n) read some at judged step_is =
    let all = more 1 texts text (Some step) cc in
    let size = even 1 texts in
    rw (all.events, all.answers, all.numbers) (
      omega (arith, step_is.1, judged.0, length-append (events_in texts) (step.event ∷ [])),
      (
        length (events_in texts),
        fault_at_end (events_in texts) (answers_in texts) step.event step.answer start now judged.1 step_is.0,
        get_last (numbers_from 1 texts) (length (events_in texts)) _ (sym size.numbers) ∙ ap Some (omega (arith, at, step_is.2)),
        first_run start next (events_in texts) _ (answers_in texts) _ (length (events_in texts)) (omega arith) size.answers
            (grind (arith, take_all, size.answers, judged.1, step_is.3)),
      ),
    )
judged_more start now texts text pair step number steps (Some m) next steps' None read some at judged step_is = absurd (cc step_is.1)

-- fewer steps than lines
pub few_steps : (start now : Flat) (texts : List (List ℕ)) (steps : ℕ) (o : Option ℕ) → JudgedFrom start texts steps o now
    → steps ≤ length texts
few_steps start now texts steps None judged = omega (arith, judged.0, (even 1 texts).few)
few_steps start now texts steps (Some n) judged = omega (arith, judged.0, (even 1 texts).few)

-- ---- what is answered

pub judged_flat : (start now : Flat) (texts : List (List ℕ)) (steps : ℕ) (o : Option ℕ) → JudgedFrom start texts steps o now
    → o ≡ None → IsJudgedFrom start texts (FlatRun steps) now
judged_flat start now texts steps None judged is = judged
judged_flat start now texts steps (Some n) judged is = cc

pub judged_mismatch : (start now : Flat) (texts : List (List ℕ)) (steps n : ℕ) (o : Option ℕ) → JudgedFrom start texts steps o now
    → o ≡ Some n → IsJudgedFrom start texts (Mismatch n) now
judged_mismatch start now texts steps n None judged is = cc
judged_mismatch start now texts steps n (Some m) judged is = grind (arith, fault_no_run)

-- from zeros on
pub judged_zeros : (words : ℕ) (start last : Flat) (texts : List (List ℕ)) (end : CheckEnd) → start ≡ zeros words
    → IsJudgedFrom start texts end last → IsJudged words texts end
judged_zeros words start last texts (FlatRun steps) opens judged = (judged.0, (last, cc (judged.1, opens)))
judged_zeros words start last texts (Mismatch n) opens judged =
    (cc (judged.0, opens), (judged.1.0, cc (judged.1.1, opens), judged.1.2))
