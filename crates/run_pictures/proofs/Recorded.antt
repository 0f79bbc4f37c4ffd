-- The lines of a trace or of a recorded run, and what is asked in them.
use Rattle.std.proofs.Common.{◌≡◌, ℕ, ◌≤◌, Option, Some, None, Ok, List, [], ◌∷◌, ◌++◌, Vec, Global}
use Rattle.std.proofs.Common.{length, length-append, append-nil, sym, subst, ap, ◌∙◌, arith}
use Rattle.std.specs.Option.{option_to_list}
use Rattle.std.proofs.lemmas.Grind.{flat_map-append}
use Rattle.trace_text.specs.declared.pairs.Pair.{Pair}
use Rattle.run_pictures.specs.declared.asked.Asked.{Asked}
use Rattle.run_pictures.specs.declared.asked.AskedSoFar.{AskedSoFar}
use Rattle.run_pictures.specs.Asked.{said_of, asked_with, asked_by, asked_in, all_asked, KeepsFew, KeepsOne, Gathered}

-- what is asked in one line more
asked_more : (texts : List (List ℕ)) (text : List ℕ) (pair : Pair) → Ok pair ≡ said_of text
    → all_asked texts ++ option_to_list (asked_with pair.line pair.answer) ≡ all_asked (texts ++ text ∷ [])
asked_more texts text pair read =
    ap (λ r. all_asked texts ++ option_to_list (asked_by r)) read
    ∙ ap (λ l. all_asked texts ++ l) (sym (append-nil (asked_in text))) ∙ sym (flat_map-append asked_in texts (text ∷ []))

kept_more : (all : List Asked) (old new : Option (Vec Asked Global)) (asked : Asked) → KeepsFew all old → KeepsOne old asked new
    → KeepsFew (all ++ asked ∷ []) new
kept_more all None None asked held one = omega (arith, held, length-append all (asked ∷ []))
kept_more all None (Some kept) asked held one = cc
kept_more all (Some before) None asked held one = omega (arith, one, ap length held.1, length-append all (asked ∷ []))
kept_more all (Some before) (Some kept) asked held one =
    (omega (arith, one.0, ap length held.1, length-append all (asked ∷ [])), one.1 ∙ ap (λ l. l ++ asked ∷ []) held.1)

-- a line that asks nothing
pub gathered_none : (e : AskedSoFar) (texts : List (List ℕ)) (text : List ℕ) (pair : Pair) → Ok pair ≡ said_of text
    → asked_with pair.line pair.answer ≡ None → Gathered texts e → Gathered (texts ++ text ∷ []) e
gathered_none e texts text pair read none held = record {
  kept = subst (λ l. KeepsFew l e.kept) (sym (append-nil _) ∙ ap (λ o. all_asked texts ++ option_to_list o) (sym none)
      ∙ asked_more texts text pair read) held.kept;
}

-- one that asks something
pub gathered_one : (old new : AskedSoFar) (asked : Asked) (texts : List (List ℕ)) (text : List ℕ) (pair : Pair) → Ok pair ≡ said_of text
    → asked_with pair.line pair.answer ≡ Some asked → KeepsOne old.kept asked new.kept → Gathered texts old
    → Gathered (texts ++ text ∷ []) new
gathered_one old new asked texts text pair read is one held = record {
  kept = subst (λ l. KeepsFew l new.kept) (ap (λ o. all_asked texts ++ option_to_list o) (sym is) ∙ asked_more texts text pair read)
      (kept_more (all_asked texts) old.kept new.kept asked held.kept one);
}
