-- One line more of a recorded run.
use Rattle.std.proofs.Common.{◌≡◌, ℕ, ◌+◌, Option, Some, None, Result, Ok, OnOk, List, [], ◌∷◌, ◌++◌, length, length-append}
use Rattle.std.proofs.Common.{sym, ◌∙◌, ap, subst, arith}
use Rattle.flat_model.specs.declared.Event.{Event}
use Rattle.flat_model.specs.declared.Answer.{Answer}
use Rattle.flat_model.specs.Flat.{flat_step}
use Rattle.trace_text.specs.Pairs.{pair_of}
use Rattle.trace_text.specs.Recorded.{recorded}
use Rattle.trace_text.specs.Checks.{step_of, step_with, JudgedFrom}
use Rattle.trace_text.specs.declared.check.Step.{Step}
use Rattle.trace_text.specs.declared.pairs.Pair.{Pair}
use Rattle.trace_text.proofs.Held.{judged_still, judged_more}
use Rattle.run_reasons.specs.Origins.{Origins, origins_then, origins_from, origins_after}
use Rattle.run_reasons.specs.Shown.{shown}
use Rattle.run_reasons.specs.Lines.{HasTaken}
use Rattle.run_reasons.specs.declared.lines.Explaining.{Explaining}

-- ---- the origins

from_more : (n : ℕ) (o : Origins) (texts : List (List ℕ)) (text : List ℕ)
    → origins_from n o (texts ++ text ∷ []) ≡ origins_then (origins_from n o texts) (n + length texts) (step_of (pair_of text))
from_more n o [] text =
    let same : n ≡ n + 0 = omega arith in
    ap (λ k. origins_then o k _) same
from_more n o (t ∷ ts) text =
    let p = origins_then o n (step_of (pair_of t)) in
    let same : (n + 1) + length ts ≡ n + length (t ∷ ts) = omega arith in
    from_more (n + 1) p ts text ∙ ap (λ k. origins_then (origins_from (n + 1) p ts) k (step_of (pair_of text))) same

origins_more : (o : Origins) (texts : List (List ℕ)) (text : List ℕ) (pair : Pair) (s : Option Step) → Ok pair ≡ pair_of text
    → step_with pair.line pair.answer ≡ s
    → origins_from 1 o (texts ++ text ∷ []) ≡ origins_then (origins_from 1 o texts) (length texts + 1) s
origins_more o texts text pair s read is =
    let place : 1 + length texts ≡ length texts + 1 = omega arith in
    from_more 1 o texts text ∙ ap (λ n. origins_then (origins_from 1 o texts) n (step_of (pair_of text))) place
    ∙ ap (origins_then (origins_from 1 o texts) (length texts + 1)) (ap step_of (sym read) ∙ is)

pub recorded_step : (pair : Pair) (event : Event) (answer : Answer) → pair ≡ recorded event answer
    → step_with pair.line pair.answer ≡ Some (record { event = event; answer = answer })
recorded_step pair event answer e = grind arith

-- ---- what is taken

-- a line that is no step
pub taken_still : {o : Origins} {texts : List (List ℕ)} (e e' : Explaining) (text : List ℕ) (pair : Pair) (number : ℕ) → HasTaken o texts e
    → Ok pair ≡ pair_of text → step_with pair.line pair.answer ≡ None → number ≡ length texts + 1
    → shown e'.explainer ≡ shown e.explainer → e'.lines ≡ number → e'.steps ≡ e.steps → e'.mismatch ≡ e.mismatch
    → HasTaken o (texts ++ text ∷ []) e'
taken_still {o = o} {texts = texts} e e' text pair number h read none at explainer lines steps mismatch =
    let more = origins_more o texts text pair None read none in
    let flat = judged_still o.flat (origins_from 1 o texts).flat texts text pair e.steps None read (sym none) h.flat in
    let whole = subst (λ p. JudgedFrom o.flat (texts ++ text ∷ []) e.steps None p.flat) (sym more) flat in
    record {
      flat = subst (λ n. JudgedFrom o.flat (texts ++ text ∷ []) n None (origins_from 1 o (texts ++ text ∷ [])).flat) (sym steps) whole;
      origins = explainer ∙ h.origins ∙ sym more;
      lines = omega (arith, lines, at, length-append texts (text ∷ []));
      none = mismatch ∙ h.none;
    }

-- a step of flat memory
pub taken_step : {o : Origins} {texts : List (List ℕ)} (e e' : Explaining) (text : List ℕ) (pair : Pair) (event : Event) (answer : Answer)
    (number : ℕ) → HasTaken o texts e → Ok pair ≡ pair_of text → pair ≡ recorded event answer → number ≡ length texts + 1
    → flat_step (shown e.explainer).flat event answer ≡ Some (shown e'.explainer).flat
    → shown e'.explainer ≡ origins_after (shown e.explainer) number event answer
    → e'.lines ≡ number → e'.steps ≡ e.steps + 1 → e'.mismatch ≡ e.mismatch
    → HasTaken o (texts ++ text ∷ []) e'
taken_step {o = o} {texts = texts} e e' text pair event answer number h read is at step after lines steps mismatch =
    let p = origins_from 1 o texts in
    let s : Step = record { event = event; answer = answer } in
    let some = recorded_step pair event answer is in
    let more = origins_more o texts text pair (Some s) read some in
    let new = after ∙ ap (λ x. origins_after x number event answer) h.origins ∙ ap (λ n. origins_after p n event answer) at ∙ sym more in
    let makes = ap (λ x. flat_step x.flat event answer) (sym h.origins) ∙ step in
    let flat = judged_more o.flat p.flat texts text pair s number e.steps None (shown e'.explainer).flat e'.steps None read (sym some) at
    h.flat (makes, steps) in
    record {
      flat = subst (λ q. JudgedFrom o.flat (texts ++ text ∷ []) e'.steps None q.flat) new flat;
      origins = new;
      lines = omega (arith, lines, at, length-append texts (text ∷ []));
      none = mismatch ∙ h.none;
    }

-- ---- results

pub on_ok5 : {A E P Q R S T U : Type 0} (r : Result A E) → (P → Q → R → S → T → U) → OnOk r P → OnOk r Q → OnOk r R → OnOk r S → OnOk r T
    → OnOk r U
on_ok5 (Ok x) f p q r s t = f p q r s t
on_ok5 e f p q r s t = tt
