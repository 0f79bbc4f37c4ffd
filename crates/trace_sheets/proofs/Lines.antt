-- What stands in front of an arrow, and behind it.
use Rattle.std.proofs.Common.{◌≡◌, ℕ, ◌+◌, ◌-◌, [], Bool, true, false, cond, Option, Some, None, Result, Ok, Err, List}
use Rattle.std.proofs.Common.{length, take, drop, refl, sym, subst, ◌∙◌, ap}
use Rattle.std.specs.Prelude.{nat_lt, is_ok}
use Rattle.std.specs.Option.{is_some}
use Rattle.machine_core.specs.Words.{Answer, Event}
use Rattle.trace_text.specs.Lines.{line_of}
use Rattle.trace_text.specs.Pairs.{pair_of, pair_cut, pair_from, answered_pair, answer_from, answer_of, arrow_in}
use Rattle.trace_text.specs.declared.fault.TheConstants.{MAX_LINE}
use Rattle.trace_text.specs.declared.lines.Line.{Line}
use Rattle.trace_text.specs.declared.lines.Line.TheVariants as line
use Rattle.trace_text.specs.declared.lines.LineFault.{LineFault}
use Rattle.trace_text.specs.declared.lines.LineFault.TheVariants.{Field}
use Rattle.trace_sheets.specs.Sheets.{IsSaidBy, ends_in_arrow, front_of, is_prediction, predicted, says_nothing, sheet_cut, sheet_said}
use Rattle.trace_sheets.specs.Sheets.{unasked, without_blanks}
use Rattle.trace_sheets.specs.declared.sheet.Said.{Said}

front_line : (text : List ℕ) (l : Line) → front_of text ≡ Ok l → line_of text ≡ Ok l
front_line text l e = go (nat_lt MAX_LINE (length text)) e
  where
    go : (t : Bool) → cond t (Err Field) (line_of text) ≡ Ok l → line_of text ≡ Ok l
    go true h = cc
    go false h = h

-- ---- a recorded line

answered : (l : Line) (o : Option Answer) → is_ok (answered_pair l o) ≡ is_some o
answered l None = refl
answered l (Some a) = refl

-- an event with this behind its arrow is a recorded line if this is an answer
pub recorded : (text : List ℕ) (at : ℕ) (event : Event) → arrow_in text ≡ Some at → front_of (take at text) ≡ Ok (line.Event event)
    → is_ok (pair_of text) ≡ is_some (answer_of (drop (at + 4) text))
unfolding pair_of
recorded text at event arrow front =
    ap (λ o. is_ok (pair_cut text o)) arrow
    ∙ ap (λ l. is_ok (pair_from l (drop (at + 4) text))) (front_line (take at text) (line.Event event) front)
    ∙ answered (line.Event event) (answer_of (drop (at + 4) text))

-- ---- a line of a sheet

-- what is left out can't be read as the answer of an event
pub left_out : (event : Event) → is_prediction (line.Event event) [] ≡ false
unfolding answer_of answer_from
left_out event = refl

-- a line with no arrow
pub line_alone : (text : List ℕ) (r : Result Line LineFault) → says_nothing text ≡ false → arrow_in text ≡ None
    → ends_in_arrow text ≡ false → r ≡ front_of text → sheet_said text ≡ unasked r
unfolding sheet_said
line_alone text r some none whole read =
    ap (λ t. cond t (Ok None) (sheet_cut text (arrow_in text))) some
    ∙ ap (sheet_cut text) none
    ∙ ap (λ t. cond t (predicted (front_of (take (length text - 3) text)) []) (unasked (front_of text))) whole
    ∙ ap unasked (sym read)

-- a line that ends in an arrow
pub line_unanswered : (text : List ℕ) (r : Result Line LineFault) → says_nothing text ≡ false → arrow_in text ≡ None
    → ends_in_arrow text ≡ true → r ≡ front_of (take (length text - 3) text) → sheet_said text ≡ predicted r []
unfolding sheet_said
line_unanswered text r some none whole read =
    ap (λ t. cond t (Ok None) (sheet_cut text (arrow_in text))) some
    ∙ ap (sheet_cut text) none
    ∙ ap (λ t. cond t (predicted (front_of (take (length text - 3) text)) []) (unasked (front_of text))) whole
    ∙ ap (λ l. predicted l []) (sym read)

-- a line with an arrow at this place
pub line_predicted : (text : List ℕ) (at : ℕ) (r : Result Line LineFault) → says_nothing text ≡ false → arrow_in text ≡ Some at
    → r ≡ front_of (take at text) → sheet_said text ≡ predicted r (drop (at + 4) text)
unfolding sheet_said
line_predicted text at r some arrow read =
    ap (λ t. cond t (Ok None) (sheet_cut text (arrow_in text))) some
    ∙ ap (sheet_cut text) arrow
    ∙ ap (λ l. predicted l (drop (at + 4) text)) (sym read)

-- what is said behind the blanks, by what was found to be said
pub said_in : (text : List ℕ) {front : List ℕ} {read found : Said} → front ≡ without_blanks text → read ≡ found
    → IsSaidBy front read → IsSaidBy (without_blanks text) found
said_in text {front} {read} {found} blanks is says = subst (λ f. IsSaidBy f found) blanks (subst (IsSaidBy front) is says)
