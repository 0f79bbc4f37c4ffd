-- How an explanation ends.
use Rattle.std.proofs.Common.{◌≡◌, ℕ, ◌+◌, Option, Some, None, Result, Err, List, [], ◌∷◌, ◌++◌, length, append_assoc}
use Rattle.std.proofs.Common.{refl, sym, ◌∙◌, ap, subst, inl, inr}
use Rattle.flat_model.specs.declared.Word.{Word}
use Rattle.flat_model.specs.Flat.{opening, flat_step}
use Rattle.trace_text.specs.Reading.{IsGood, FirstLine, ReadIntoWithin}
use Rattle.trace_text.specs.Collecting.{ReadsWithin}
use Rattle.trace_text.specs.Recorded.{recorded}
use Rattle.trace_text.specs.Checks.{pair_fault, JudgedFrom}
use Rattle.trace_text.specs.declared.check.Step.{Step}
use Rattle.trace_text.specs.declared.fault.TheConstants.{MAX_PAIR}
use Rattle.trace_text.specs.declared.fault.TraceFault.{TraceFault}
use Rattle.trace_text.specs.declared.fault.TraceFault.TheVariants as fault
use Rattle.trace_text.specs.declared.reading.Stop.{Stop}
use Rattle.trace_text.specs.declared.reading.Stop.TheVariants.{Fault, Halted}
use Rattle.trace_text.proofs.Held.{judged_more, judged_mismatch}
use Rattle.run_reasons.specs.Origins.{Origins, beginning, origins_from, origins_of}
use Rattle.run_reasons.specs.Reasons.{mismatch_at}
use Rattle.run_reasons.specs.Shown.{shown}
use Rattle.run_reasons.specs.Runs.{most_lines, IsFlat, IsMismatch, Explains}
use Rattle.run_reasons.specs.Lines.{HasTaken, StopsAt, explained_by}
use Rattle.run_reasons.specs.declared.lines.Explaining.{Explaining}
use Rattle.run_reasons.specs.declared.reason.Mismatch.{Mismatch}
use Rattle.run_reasons.proofs.LinesTaken.{recorded_step}

is_flat : {o : Origins} {texts : List (List ℕ)} (words : List Word) (e : Explaining) → o ≡ beginning words → HasTaken o texts e
    → IsFlat words texts e.steps
is_flat {texts = texts} words e begins h =
    subst (λ o. JudgedFrom o.flat texts e.steps None (origins_from 1 o texts).flat) begins h.flat

is_mismatch : {texts : List (List ℕ)} (words : List Word) (e : Explaining) (text : List ℕ) (m : Mismatch) → IsFlat words texts e.steps
    → shown e.explainer ≡ origins_of words texts → e.lines ≡ length texts → IsGood pair_fault MAX_PAIR text → StopsAt e text (Some m)
    → IsMismatch words texts (text ++ 10 ∷ []) m
is_mismatch {texts = texts} words e text m flat shows lines good stops =
    let o = origins_of words texts in
    let n : ℕ = length texts + 1 in
    let s : Step = record { event = m.event; answer = m.answer } in
    let none = ap (λ x. flat_step x.flat m.event m.answer) (sym shows) ∙ stops.1.0 in
    let why = stops.1.1 ∙ ap (λ x. mismatch_at x (e.lines + 1) m.event m.answer) shows
    ∙ ap (λ k. mismatch_at o (k + 1) m.event m.answer) lines in
    let judged : JudgedFrom (opening words) (texts ++ text ∷ []) e.steps (Some n) o.flat =
    judged_more (opening words) o.flat texts text (recorded m.event m.answer) s n e.steps None o.flat e.steps (Some n) (sym stops.0)
    (sym (recorded_step (recorded m.event m.answer) m.event m.answer refl)) refl flat (none, refl, refl, refl) in
    record {
      text = text;
      ended = refl;
      good = good;
      pair = stops.0;
      not_flat = none;
      why = why;
      checked = judged_mismatch (opening words) o.flat (texts ++ text ∷ []) e.steps m.line (Some n) judged
          (ap Some (sym (ap (λ x. x.line) why)));
    }

module _ {R : Type 0} (gave : R → List ℕ → R → Type 0) (failed : R → R → Type 0) (words : List Word) (r r' : R) (c c' : Explaining) where
  -- a recorded run is read by what explains it
  abbrev ExplainingReads : Result (Unit {0}) Stop → Type 0
  ExplainingReads = ReadsWithin gave failed pair_fault (λ s texts t. HasTaken (shown s.explainer) texts t)
      (λ s text t. StopsAt s text t.mismatch) (λ s t. t ≡ s) (λ s t. ⊥) MAX_PAIR most_lines r r' c c'

  fault_told : (f : TraceFault) → shown c.explainer ≡ beginning words → ExplainingReads (Err (Fault f))
      → Explains gave failed words r r' (Err f)
  fault_told fault.OutOfMemory begins h = tt
  fault_told f begins h = (h.0, h.1.steps, h.2, is_flat words h.1 begins h.3)

  pub told_fault : (s : Stop) (f : TraceFault) → shown c.explainer ≡ beginning words → s ≡ Fault f → ExplainingReads (Err s)
      → Explains gave failed words r r' (Err f)
  told_fault s f begins is h = fault_told f begins (subst (λ x. ExplainingReads (Err x)) is h)

  told_at_line : (m : Option Mismatch) (v : Explaining) (texts : List (List ℕ)) (rest : List ℕ) → shown c.explainer ≡ beginning words
      → HasTaken (shown c.explainer) texts v → ReadIntoWithin gave pair_fault MAX_PAIR most_lines r r' texts rest
      → FirstLine pair_fault MAX_PAIR (λ text. StopsAt v text m) rest → Explains gave failed words r r' (explained_by m)
  told_at_line None v texts rest begins h into first = tt
  told_at_line (Some m) v texts rest begins h into (text, more, is, good, stops) =
      let flat = is_flat words v begins h in
      let shows = h.origins ∙ ap (λ o. origins_from 1 o texts) begins in (
        texts,
        text ++ 10 ∷ [],
        more,
        v.steps,
        subst (ReadIntoWithin gave pair_fault MAX_PAIR most_lines r r' texts) (is ∙ sym (append_assoc text (10 ∷ []) more)) into,
        flat,
        is_mismatch words v text m flat shows h.lines good stops,
      )

  halted_told : shown c.explainer ≡ beginning words → ExplainingReads (Err Halted)
      → Explains gave failed words r r' (explained_by c'.mismatch)
  halted_told begins (texts, rest, v, h, ends) = elim ends [
    | inl before ↦ absurd before.1
    | inr into ↦ elim into.1 [ inl stop ↦ absurd stop | inr line ↦ told_at_line c'.mismatch v texts rest begins h into.0 line.1 ]
  ]

  pub told_halted : (s : Stop) → shown c.explainer ≡ beginning words → s ≡ Halted → ExplainingReads (Err s)
      → Explains gave failed words r r' (explained_by c'.mismatch)
  told_halted s begins is h = halted_told begins (subst (λ x. ExplainingReads (Err x)) is h)
