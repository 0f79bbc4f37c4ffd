-- What a reader gives whose bytes are known is what stood before it.
use Rattle.std.proofs.Common.{◌≡◌, ℕ, Result, Ok, Err, IfOk, List, [], ◌∷◌, ◌++◌, append_assoc, sym, ◌∙◌, ap, subst}
use Rattle.std.specs.List.{FoldsTo, concat}
use Rattle.history_sessions.specs.Session.{Session}
use Rattle.trace_text.specs.Streams.{Came}
use Rattle.trace_text.specs.Reading.{joined_texts}
use Rattle.trace_text.specs.declared.fault.TraceFault.{TraceFault}
use Rattle.history_text.specs.declared.answers.HistoryEnd.{HistoryEnd}
use Rattle.history_text.specs.declared.answers.HistoryEnd.TheVariants as history
use Rattle.history_text.specs.declared.answers.Refusal.{Refusal}
use Rattle.history_text.specs.Histories.{Judges}
use Rattle.history_text.specs.Shrinking.{IsRefusedText}

module _ {R : Type 0} (gave : R → List ℕ → R → Type 0) (failed : R → R → Type 0) (left : R → List ℕ)
    (gives : (r : R) (bytes : List ℕ) (r' : R) → gave r bytes r' → left r ≡ bytes ++ left r') where
  moved : (pieces : List (List ℕ)) (r r' : R) → FoldsTo (Came gave) r pieces r' → left r ≡ concat pieces ++ left r'
  moved [] r r' e = ap left e
  moved (piece ∷ pieces) r r' (next, came, steps) =
      gives r piece next came.0
      ∙ (ap (λ more. piece ++ more) (moved pieces next r' steps) ∙ sym (append_assoc piece (concat pieces) (left r')))

  -- so what it gave up to a refused line is the front of that
  pub refused_text : (start : Session) (r r' : R) (refusal : Refusal) → Judges gave failed start r r' (Ok (history.Refused refusal))
      → IsRefusedText start (left r) refusal
  refused_text start r r' refusal (texts, rest, into, of_law, (line, more, ends, good, told)) =
      let front : left r ≡ into.so_far.bytes ++ left into.last =
      moved into.so_far.read.pieces r into.last into.so_far.read.steps ∙ ap (λ bytes. bytes ++ left into.last) into.so_far.read.whole in
      let piece : left into.last ≡ into.piece ++ left r' = gives into.last into.piece r' into.gives.0 in
      let all : left r ≡ (into.so_far.bytes ++ into.piece) ++ left r' =
      front ∙ (ap (λ bytes. into.so_far.bytes ++ bytes) piece ∙ sym (append_assoc into.so_far.bytes into.piece (left r'))) in
      let split : left r ≡ (joined_texts texts ++ rest) ++ left r' = all ∙ ap (λ bytes. bytes ++ left r') into.good.split in
      record {
        texts = texts;
        line = line;
        behind = more ++ left r';
        split = split ∙ (append_assoc (joined_texts texts) rest (left r')
            ∙ ap (λ bytes. joined_texts texts ++ bytes) (ap (λ bytes. bytes ++ left r') ends ∙ append_assoc line (10 ∷ more) (left r')));
        of_law = of_law;
        ends = told.0;
      }

  pub judged_text : (start : Session) (r r' : R) (result : Result HistoryEnd TraceFault) → Judges gave failed start r r' result
      → IfOk result (λ end. (refusal : Refusal) → end ≡ history.Refused refusal → IsRefusedText start (left r) refusal)
  judged_text start r r' (Ok end) judges =
      λ refusal is. refused_text start r r' refusal (subst (λ e. Judges gave failed start r r' (Ok e)) is judges)
  judged_text start r r' (Err f) judges = tt
