-- The lines of a sheet, solved one after another.
use Rattle.std.proofs.Common.{◌≡◌, ℕ, Option, Result, Ok, List, [], ◌∷◌, ◌++◌, append_assoc, refl, sym, ◌∙◌, ap}
use Rattle.machine_core.specs.Machine.{MachineState}
use Rattle.trace_text.specs.Codes.{line_feed}
use Rattle.trace_text.specs.declared.lines.LineFault.{LineFault}
use Rattle.trace_sheets.specs.Grades.{after_said, after_texts}
use Rattle.trace_sheets.specs.Sheets.{SheetLine, sheet_line}
use Rattle.trace_sheets.specs.Solutions.{Solves, solved, solved_by}
use Rattle.trace_sheets.proofs.Grading.{after_more}

solved_more : (m : MachineState) (texts : List (List ℕ)) (text : List ℕ)
    → solved m (texts ++ text ∷ []) ≡ solved m texts ++ (solved_by (after_texts m texts) text (sheet_line text) ++ line_feed ∷ [])
solved_more m [] text = refl
solved_more m (t ∷ ts) text =
    let first = solved_by m t (sheet_line t) in
    let next = after_said m (sheet_line t) in
    ap (λ l. first ++ (line_feed ∷ l)) (solved_more next ts text)
    ∙ sym (append_assoc first (line_feed ∷ solved next ts) (solved_by (after_texts next ts) text (sheet_line text) ++ line_feed ∷ []))

-- a sheet with one line more, which says this
pub solves_more : {m m' : MachineState} {texts : List (List ℕ)} {solution : List ℕ} → Solves m texts m' solution → (text : List ℕ)
    (said : Option SheetLine) (next : MachineState) (solution' : List ℕ)
    → sheet_line text ≡ Ok said → next ≡ after_said m' (Ok said) → solution' ≡ solution ++ (solved_by m' text (Ok said) ++ line_feed ∷ [])
    → Solves m (texts ++ text ∷ []) next solution'
solves_more {m} {m'} {texts} {solution} solves text said next solution' is state added =
    let line_now : MachineState → Result (Option SheetLine) LineFault → List ℕ = λ s x. solved_by s text x ++ line_feed ∷ [] in
    record {
      state = state ∙ ap (after_said m') (sym is) ∙ ap (λ s. after_said s (sheet_line text)) solves.state ∙ sym (after_more m texts text);
      text =
          added ∙ ap (λ x. solution ++ line_now m' x) (sym is) ∙ ap (λ s. solution ++ line_now s (sheet_line text)) solves.state
          ∙ ap (λ l. l ++ line_now (after_texts m texts) (sheet_line text)) solves.text ∙ sym (solved_more m texts text);
    }
