-- Where an arrow stands, and what is read back of an answer.
use Rattle.std.proofs.Common.{◌≡◌, ◌≢◌, ℕ, zero, suc, ◌+◌, ◌<◌, ◌≤◌, false, List, [], ◌∷◌, length, drop, drop-cons}
use Rattle.std.proofs.Common.{add-one, get_or, decimal, ◌++◌, Option, Some, None, Ok, refl, sym, ◌∙◌, ap, subst, arith}
use Rattle.std.specs.Prelude.{nat_eq, codes}
use Rattle.std.specs.Option.{option_map}
use Rattle.std.specs.List.{starts_with, AllByRecursion}
use Rattle.std.proofs.Math.Seq.{take-append_seam, drop-append-add}
use Rattle.flat_model.specs.declared.Event.TheVariants.{Store}
use Rattle.machine_core.specs.Machine.{MachineState}
use Rattle.trace_text.specs.Lines.{line_of}
use Rattle.trace_text.specs.Texts.{reply_text}
use Rattle.trace_text.specs.Serving.{answer_to}
use Rattle.trace_text.specs.Pairs.{arrow_in, pair_with, pair_of}
use Rattle.trace_text.specs.Written.{line_text, IsFit, IsFitReply}
use Rattle.trace_text.specs.declared.fields.TheConstants.{MAX_NUMBER}
use Rattle.trace_text.specs.declared.lines.Line.{Line}
use Rattle.trace_text.specs.declared.lines.Line.TheVariants as line
use Rattle.trace_text.proofs.Written.{High, number_high, word_high, mask_high, line_is}
use Rattle.trace_text.proofs.Serving.{all_then}
use Rattle.trace_text.proofs.AnswerTexts.{answer_back}

arrow_behind : (bytes : List ℕ) (b : ℕ) (bs : List ℕ) → bytes ≡ b ∷ bs → starts_with nat_eq bytes (codes " -> ") ≡ false
    → arrow_in bytes ≡ option_map (λ k. suc k) (arrow_in bs)
arrow_behind bytes b bs whole e = grind arith

shifted : (o : Option ℕ) (at : ℕ) → option_map (λ k. at + k) (option_map (λ k. suc k) o) ≡ option_map (λ k. (at + 1) + k) o
shifted None at = refl
shifted (Some k) at = ap Some (omega arith)

-- no arrow begins here, so the first one stands further on
pub arrow_on : (text : List ℕ) (at : ℕ) → at < length text → starts_with nat_eq (drop at text) (codes " -> ") ≡ false
    → arrow_in text ≡ option_map (λ k. at + k) (arrow_in (drop at text))
    → arrow_in text ≡ option_map (λ k. (at + 1) + k) (arrow_in (drop (at + 1) text))
arrow_on text at lt none so_far =
    let here : drop at text ≡ get_or text at 0 ∷ drop (at + 1) text = rw (add-one, drop-cons text at 0) refl in
    so_far ∙ ap (option_map (λ k. at + k)) (arrow_behind (drop at text) (get_or text at 0) (drop (at + 1) text) here none)
    ∙ shifted (arrow_in (drop (at + 1) text)) at

-- an arrow's first byte is a space
first_is : (x : ℕ) (rest : List ℕ) → x ≢ 32 → starts_with nat_eq (x ∷ rest) (codes " -> ") ≡ false
first_is x rest ne = grind arith

-- no arrow begins at a byte that is no space
pub no_arrow_at : (text : List ℕ) (at : ℕ) → at < length text → get_or text at 0 ≢ 32 → starts_with nat_eq (drop at text) (codes " -> ")
    ≡ false
no_arrow_at text at lt ne = grind (arith, add-one, drop-cons, first_is)

-- ---- where no hyphen stands

-- a text with no hyphen has no arrow
pub no_arrow : (text : List ℕ) → ((k : ℕ) → k < length text → get_or text k 0 ≢ 45) → arrow_in text ≡ None
no_arrow [] none = refl
no_arrow (x ∷ []) none = grind arith
no_arrow (x ∷ y ∷ text) none = grind (arith, none 1, no_arrow (y ∷ text) (λ k lt. none (suc k) (omega (arith, lt))))

moved_on : (o : Option ℕ) (n : ℕ) → option_map (λ k. suc k) (option_map (λ k. n + k) o) ≡ option_map (λ k. suc n + k) o
moved_on None n = refl
moved_on (Some k) n = ap Some (omega arith)

-- no arrow begins in front of this place where no byte up to it, but for the text's first, is a hyphen
pub arrow_from : (text : List ℕ) (n : ℕ) → n ≤ length text → ((k : ℕ) → 0 < k → k ≤ n → get_or text k 0 ≢ 45)
    → arrow_in text ≡ option_map (λ k. n + k) (arrow_in (drop n text))
arrow_from text zero le none = grind arith
arrow_from [] (suc n) le none = grind arith
arrow_from (x ∷ []) (suc n) le none = grind arith
arrow_from (x ∷ y ∷ text) (suc n) le none =
    let rest = arrow_from (y ∷ text) n (omega (arith, le)) (λ k above upto. none (suc k) (omega arith) (omega (arith, upto))) in
    grind (arith, none 1, rest, moved_on (arrow_in (drop n (y ∷ text))) n)

-- ---- the arrow behind a line

-- bytes with no hyphen among them
abbrev pub NoDash : List ℕ → Type 0
NoDash = AllByRecursion (λ b. b ≢ 45)

high_dashless : (xs : List ℕ) → High xs → NoDash xs
high_dashless [] h = tt
high_dashless (x ∷ xs) h = (λ is. omega (arith, h.0, is), high_dashless xs h.1)

number_dashless : (n : ℕ) → n ≤ MAX_NUMBER → NoDash (decimal n)
number_dashless n le = high_dashless (decimal n) (number_high n le)

dashless_then : (xs ys : List ℕ) → NoDash xs → NoDash ys → NoDash (xs ++ ys)
dashless_then = all_then (λ b. b ≢ 45)

pub dashless_line : (l : Line) → IsFit l → NoDash (line_text l)
dashless_line (line.Event (Store at word lanes)) fit =
    grind (arith, dashless_then, number_dashless, high_dashless, mask_high, word_high)
dashless_line l fit = grind (arith, dashless_then, number_dashless)

pub arrow_behind_line : (text reply : List ℕ) → NoDash text → arrow_in (text ++ (codes " -> " ++ reply)) ≡ Some (length text)
arrow_behind_line [] reply none = refl
arrow_behind_line (x ∷ []) reply none = grind arith
arrow_behind_line (x ∷ y ∷ text) reply none = grind (arith, none, arrow_behind_line (y ∷ text) reply none.1)

answered_back : (m : MachineState) (l : Line) → IsFitReply (answer_to m l)
    → pair_with l (reply_text m l) ≡ Ok (record { line = l; answer = answer_to m l })
unfolding reply_text
answered_back m (line.Event event) fit = grind (arith, line.Event, answer_back)
answered_back m l fit = refl

-- an arrow right behind a line that can be read is the first one
pub read_behind : (text reply : List ℕ) (l : Line) → line_of text ≡ Ok l → pair_of (text ++ (codes " -> " ++ reply)) ≡ pair_with l reply
unfolding pair_of
read_behind text reply l said =
    let served = text ++ (codes " -> " ++ reply) in
    let read = line_is text l said in
    let dashless : NoDash text = subst NoDash (sym read.1) (dashless_line l read.0) in
    rw (
      arrow_behind_line text reply dashless,
      take-append_seam text (codes " -> " ++ reply),
      said,
      drop-append-add text (codes " -> " ++ reply) 4,
    ) refl

-- what is served for a line is read as the line and its answer
pub pair_back : (m : MachineState) (text : List ℕ) (l : Line) → line_of text ≡ Ok l → IsFitReply (answer_to m l)
    → pair_of (text ++ (codes " -> " ++ reply_text m l)) ≡ Ok (record { line = l; answer = answer_to m l })
pair_back m text l said fit = grind (arith, read_behind, answered_back)
