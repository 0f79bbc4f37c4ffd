-- How bytes become lines, one by one: whatever a line's fault is, and however long it may be.
use Rattle.std.proofs.Common.{◌≡◌, ◌≢◌, ℕ, ◌+◌, ◌<◌, ◌≤◌, Option, Some, List, [], ◌∷◌, ◌++◌, length, take, drop, get_or}
use Rattle.std.proofs.Common.{append_assoc, take-append-drop, refl, sym, ◌∙◌, ap, arith}
use Rattle.std.proofs.lemmas.List.{take_more}
use Rattle.trace_text.specs.Streams.{HasNoEnd}
use Rattle.trace_text.specs.Reading.{joined_texts, IsGood, Good, BeginsFaulty}
use Rattle.trace_text.specs.Lines.{IsSaid}
use Rattle.trace_text.specs.declared.lines.LineFault.{LineFault}
use Rattle.trace_text.specs.declared.lines.LineFault.TheVariants.{TooLong, NotEnded}
use Rattle.trace_text.proofs.Serving.{all_then}

-- ---- faulty lines

-- a first line that has a fault that lines are said to have
pub begins_with : (fault_in : List ℕ → Option LineFault) (most : ℕ) (text more bytes : List ℕ) (f : LineFault) → bytes ≡ text ++ (10 ∷ more)
    → length text ≤ most → HasNoEnd text → IsSaid f → fault_in text ≡ Some f → BeginsFaulty fault_in most bytes f
begins_with fault_in most text more bytes TooLong is short none said fault = absurd said
begins_with fault_in most text more bytes NotEnded is short none said fault = absurd said
begins_with fault_in most text more bytes f is short none said fault = (text, more, is, short, none, fault)

-- ---- lines

joined_then : (xs ys : List (List ℕ)) → joined_texts (xs ++ ys) ≡ joined_texts xs ++ joined_texts ys
joined_then [] ys = refl
joined_then (x ∷ xs) ys = grind (arith, joined_then xs ys, append_assoc)

pub good_then : {f : List ℕ → Option LineFault} {most : ℕ} {bytes ys rest : List ℕ} {xs zs : List (List ℕ)}
    → Good f most bytes xs ys → Good f most ys zs rest → Good f most bytes (xs ++ zs) rest
good_then {f = f} {most = most} {xs = xs} {zs = zs} p q = record {
  each = all_then (IsGood f most) xs zs p.each q.each;
  split = grind (arith, p.split, q.split, joined_then, append_assoc);
}

pub good_one : {f : List ℕ → Option LineFault} {most : ℕ} (text rest bytes : List ℕ)
    → IsGood f most text → bytes ≡ text ++ (10 ∷ rest) → Good f most bytes (text ∷ []) rest
good_one text rest bytes good e = record { each = (good, tt); split = e ∙ sym (append_assoc text (10 ∷ []) rest) }

-- more bytes behind the lines
pub good_more : {f : List ℕ → Option LineFault} {most : ℕ} {bytes rest : List ℕ} {texts : List (List ℕ)} (more : List ℕ)
    → Good f most bytes texts rest → Good f most (bytes ++ more) texts (rest ++ more)
good_more {rest = rest} {texts = texts} more p = record {
  each = p.each;
  split = ap (λ l. l ++ more) p.split ∙ append_assoc (joined_texts texts) rest more;
}

-- ---- bytes one by one

pub one_more : (before bytes : List ℕ) (i b : ℕ) → i < length bytes → b ≡ get_or bytes i 0
    → (before ++ take i bytes) ++ b ∷ [] ≡ before ++ take (i + 1) bytes
one_more before bytes i b lt is = grind (arith, append_assoc, take_more bytes i 0 lt)

pub rest_behind : (before bytes : List ℕ) (i b : ℕ) → i < length bytes → b ≡ get_or bytes i 0
    → ((before ++ take i bytes) ++ b ∷ []) ++ drop (i + 1) bytes ≡ before ++ bytes
rest_behind before bytes i b lt is = grind (arith, one_more before bytes i b lt is, append_assoc, take-append-drop)
