-- What is handed in, line by line.
use Rattle.std.proofs.Common.{◌≡◌, ℕ, ◌+◌, ◌≤◌, true, Option, Some, None, Result, Ok, Err, List, [], ◌∷◌, ◌++◌, length, slice_index_or}
use Rattle.std.proofs.Common.{append-nil, append_assoc, length-append, refl, sym, ◌∙◌, ap, arith}
use Rattle.named_fields.specs.declared.format.Format.{Format}
use Rattle.trace_text.specs.declared.lines.LineFault.{LineFault}
use Rattle.machine_core.specs.Machine.{MachineState}
use Rattle.trace_text.specs.Texts.{after_line}
use Rattle.trace_text.specs.declared.lines.Line.{Line}
use Rattle.trace_sheets.specs.Forms.{full_text, told, total}
use Rattle.trace_sheets.specs.Grades.{came_of, why_of, why_told}
use Rattle.trace_sheets.specs.Handed.{Handed, HandsIn, Marked, all_handed_in, all_left_out, answered, answered_first}
use Rattle.trace_sheets.specs.Handed.{handed_in, left_out, left_out_text}
use Rattle.trace_sheets.specs.Handed.{question_in, questions_from}
use Rattle.trace_sheets.specs.Sheets.{SheetLine, sheet_line, without_blanks}
use Rattle.trace_sheets.specs.declared.came.Came.{Came}
use Rattle.trace_sheets.specs.declared.handed.Question.{Question}
use Rattle.trace_sheets.proofs.Grading.{why_same}

-- ---- the sheet

questions_more : (n : ℕ) (texts : List (List ℕ)) (text : List ℕ)
    → questions_from n (texts ++ text ∷ []) ≡ questions_from n texts ++ question_in (n + length texts) (sheet_line text)
questions_more n [] text = append-nil (question_in n (sheet_line text)) ∙ ap (λ k. question_in k (sheet_line text)) (omega arith)
questions_more n (t ∷ ts) text =
    let first = question_in n (sheet_line t) in
    let number : (n + 1) + length ts ≡ n + length (t ∷ ts) = omega arith in
    ap (λ l. first ++ l) (questions_more (n + 1) ts text)
    ∙ sym (append_assoc first (questions_from (n + 1) ts) (question_in ((n + 1) + length ts) (sheet_line text)))
    ∙ ap (λ k. (first ++ questions_from (n + 1) ts) ++ question_in k (sheet_line text)) number

-- a sheet with one line more, which says this
pub asks_more : {qs qs' : List Question} {n : ℕ} (texts : List (List ℕ)) → qs ≡ questions_from 1 texts → n ≡ length texts + 1
    → (text : List ℕ) (said : Option SheetLine) → sheet_line text ≡ Ok said → qs' ≡ qs ++ question_in n (Ok said)
    → qs' ≡ questions_from 1 (texts ++ text ∷ [])
asks_more {qs} {qs'} {n} texts went number text said is added =
    let place : n ≡ 1 + length texts = omega (arith, number) in
    added ∙ ap (λ l. l ++ question_in n (Ok said)) went
    ∙ ap (λ k. questions_from 1 texts ++ question_in k (Ok said)) place
    ∙ ap (λ x. questions_from 1 texts ++ question_in (1 + length texts) x) (sym is)
    ∙ sym (questions_more 1 texts text)

one_at_most : (n : ℕ) (said : Result (Option SheetLine) LineFault) → length (question_in n said) ≤ 1
one_at_most n (Err fault) = omega arith
one_at_most n (Ok None) = omega arith
one_at_most n (Ok (Some (line, None))) = omega arith
one_at_most n (Ok (Some (line, Some said))) = omega arith

pub few_questions : (n : ℕ) (texts : List (List ℕ)) → length (questions_from n texts) ≤ length texts
few_questions n [] = omega arith
few_questions n (t ∷ ts) =
    let first = question_in n (sheet_line t) in
    omega (arith, few_questions (n + 1) ts, one_at_most n (sheet_line t), length-append first (questions_from (n + 1) ts))

-- ---- what is left out

pub left_out_more : (format : Format) (n : ℕ) (s : Marked) (qs : List Question) (q : Question)
    → all_left_out format n s (qs ++ q ∷ []) ≡ left_out format n (all_left_out format n s qs) q
left_out_more format n s [] q = refl
left_out_more format n s (x ∷ xs) q = left_out_more format n (left_out format n s x) xs q

pub answered_first_is : (format : Format) (n : ℕ) (text : List ℕ) (line : Line) (said : List ℕ) (s : Marked) (qs : List Question)
    (q : Question) → 1 ≤ length qs
    → answered_first format n text line said s qs ≡ answered format n text line said s (slice_index_or qs 0 q)
answered_first_is format n text line said s [] q some = let none : ⊥ = omega (arith, some) in absurd none
answered_first_is format n text line said s (x ∷ xs) q some = refl

-- ---- lines

pub handed_more : (format : Format) (h : Handed) (texts : List (List ℕ)) (text : List ℕ)
    → all_handed_in format h (texts ++ text ∷ []) ≡ handed_in format (all_handed_in format h texts) (without_blanks text) (sheet_line text)
handed_more format h [] text = refl
handed_more format h (t ∷ ts) text = handed_more format (handed_in format h (without_blanks t) (sheet_line t)) ts text

lines_more : (format : Format) (h : Handed) (text : List ℕ) (said : Option SheetLine)
    → (handed_in format h text (Ok said)).lines ≡ h.lines + 1
lines_more format h text None = refl
lines_more format h text (Some (line, None)) = refl
lines_more format h text (Some (line, Some said)) = refl

-- one line more, which says this
pub hands_more : {format : Format} {h h' : Handed} {texts : List (List ℕ)} → HandsIn format h texts h' → (text : List ℕ)
    (said : Option SheetLine) (next : Handed)
    → sheet_line text ≡ Ok said → next ≡ handed_in format h' (without_blanks text) (Ok said)
    → total next.marked.score + length next.rest ≤ total h'.marked.score + length h'.rest + 1
    → HandsIn format h (texts ++ text ∷ []) next
hands_more {format} {h} {h'} {texts} hands text said next is now more =
    let front = without_blanks text in
    let number = ap (λ x. x.lines) now ∙ lines_more format h' front said in
    record {
      state =
          now ∙ ap (handed_in format h' front) (sym is) ∙ ap (λ x. handed_in format x front (sheet_line text)) hands.state
          ∙ sym (handed_more format h texts text);
      lines = omega (arith, number, hands.lines, length-append texts (text ∷ []));
      few = hands.few;
      bound = omega (arith, more, hands.bound, length-append texts (text ∷ []));
    }

-- ---- what is told of a line that is left out

pub lost_is : (format : Format) (n : ℕ) (m s : MachineState) (number : ℕ) (l : Line) (came : Came) → came ≡ came_of m l → s ≡ after_line m l
    → told format n (left_out_text number) [] (full_text came) (why_told s came true)
    ≡ told format n (left_out_text number) [] (full_text (came_of m l)) (why_of m l)
lost_is format n m s number l came is stands =
    let tells : Came → Option (List ℕ) → List ℕ = λ x why. told format n (left_out_text number) [] (full_text x) why in
    ap (λ x. tells x (why_told s x true)) is
    ∙ ap (λ z. tells (came_of m l) (why_told z (came_of m l) true)) stands
    ∙ ap (tells (came_of m l)) (why_same m l)
