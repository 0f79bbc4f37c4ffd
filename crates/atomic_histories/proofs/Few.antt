-- The words that stretches show are no more than the stretches.
use Rattle.std.proofs.Common.{◌≡◌, ℕ, zero, suc, ◌+◌, ◌≤◌, Bool, true, false, List, [], ◌∷◌, ◌++◌, filter, fold, length, get_or}
use Rattle.std.proofs.Common.{length-append, inl, inr, refl, subst, arith}
use Rattle.std.proofs.lemmas.List.Elements.{filter-append}
use Rattle.memory_histories.specs.declared.events.HistoryEvent.{HistoryEvent}
use Rattle.atomic_histories.specs.declared.search.TheConstants.{MOST_WORDS}
use Rattle.atomic_histories.specs.declared.stretches.Before.{Before}
use Rattle.atomic_histories.specs.declared.stretches.Stretch.{Stretch}
use Rattle.atomic_histories.specs.declared.stretches.Stretch.TheVariants.{Overwritten, Either}
use Rattle.atomic_histories.specs.declared.pairs.FollowedPair.{FollowedPair}
use Rattle.atomic_histories.specs.declared.kept.KeptUnit.{KeptUnit}
use Rattle.atomic_histories.specs.Pasts.{Past, begins, after, either}
use Rattle.atomic_histories.specs.Stands.{Each}
use Rattle.atomic_histories.specs.Held.{Held}
use Rattle.atomic_histories.specs.Few.{AreAmong, KeepsFew, IsFewFor, AreFew}
use Rattle.atomic_histories.specs.Shown.{past_at, past_of, pasts, shown_all, shown_unit, count_word, words_in}
use Rattle.atomic_histories.proofs.Lists.{one_left, one_last, each_weaker, each_append}
use Rattle.atomic_histories.proofs.Frames.{more_past}
use Rattle.std.proofs.lemmas.Bool.{cases_lt}

abbrev is_word : Past → Bool
is_word (after word moment p) = true
is_word _ = false

-- those of pasts that begin with a word
abbrev words_of : List Past → List Past
words_of ps = filter is_word ps

among_more : (words more : List Past) (p : Past) → AreAmong words p → AreAmong (words ++ more) p
among_more words more begins h = tt
among_more words more (after word moment p) h =
    (one_left (λ q. after word moment p ≡ q) words more h.0, among_more words more p h.1)
among_more words more (either p q) h = (among_more words more p h.0, among_more words more q h.1)

among_at : (words ps : List Past) (place : ℕ) → Each (AreAmong words) ps → AreAmong words (get_or ps place begins)
among_at words [] place h = tt
among_at words (p ∷ ps) zero h = h.0
among_at words (p ∷ ps) (suc place) h = among_at words ps place h.1

among_past : (words ps : List Past) (b : Before) → Each (AreAmong words) ps → AreAmong words (past_at ps b)
among_past words ps x2 h = grind (arith, among_at)

-- one stretch more
among_new : (ps : List Past) (s : Stretch) → Each (AreAmong (words_of ps)) ps
    → AreAmong (words_of ps ++ words_of (past_of ps s ∷ [])) (past_of ps s)
among_new ps (Overwritten word moment before) h =
    let p = past_at ps before in (
      one_last (λ q. after word moment p ≡ q) _ _ refl,
      among_more _ _ p (among_past (words_of ps) ps before h),
    )
among_new ps (Either one other) h = (
  among_more _ [] (past_at ps one) (among_past (words_of ps) ps one h),
  among_more _ [] (past_at ps other) (among_past (words_of ps) ps other h),
)

among_push : (ps : List Past) (s : Stretch) → Each (AreAmong (words_of ps)) ps
    → Each (AreAmong (words_of (more_past ps s))) (more_past ps s)
among_push ps s h = grind (arith, filter-append, each_append, each_weaker, among_more, among_new)

among_all : (ps : List Past) (ss : List Stretch) → Each (AreAmong (words_of ps)) ps
    → Each (AreAmong (words_of (fold more_past ps ss))) (fold more_past ps ss)
among_all ps [] h = h
among_all ps (s ∷ ss) h = among_all _ ss (among_push ps s h)

-- How many there are. ----

count_words : (ps : List Past) (ss : List Stretch) → length (words_of (fold more_past ps ss)) ≡ fold count_word (length (words_of ps)) ss
count_words ps [] = refl
count_words ps (Overwritten word moment before ∷ ss) =
    let more = after word moment _ ∷ [] in
    subst (λ n. length (words_of (fold more_past (ps ++ more) ss)) ≡ fold count_word n ss)
    (grind (arith, filter-append, length-append)) (count_words (ps ++ more) ss)
count_words ps (Either one other ∷ ss) =
    let more = either _ _ ∷ [] in
    subst (λ n. length (words_of (fold more_past (ps ++ more) ss)) ≡ fold count_word n ss)
    (grind (arith, filter-append, length-append)) (count_words (ps ++ more) ss)

words_below : (n : ℕ) (ss : List Stretch) → fold count_word n ss ≤ n + length ss
words_below n [] = omega arith
words_below n (Overwritten word moment before ∷ ss) = omega (arith, words_below (n + 1) ss)
words_below n (Either one other ∷ ss) = omega (arith, words_below n ss)

-- Units. ----

pairs_among : (words : List Past) (ss : List Stretch) (ps : List FollowedPair) → Each (AreAmong words) (pasts ss)
    → Each (λ e. AreAmong words e.past) (shown_all ss ps)
pairs_among words ss [] h = tt
pairs_among words ss (p ∷ ps) h = (among_past words _ p.past h, pairs_among words ss ps h)

pub few_words : (u : KeptUnit) → words_in u.stretches.items ≤ MOST_WORDS → KeepsFew (shown_unit u)
few_words u l =
    let ss = u.stretches.items in
    (words_of (pasts ss), omega (arith, count_words [] ss, l), pairs_among _ ss u.pairs.items (among_all [] ss tt))

pub few_stretches : (u : KeptUnit) → length u.stretches.items ≤ MOST_WORDS → KeepsFew (shown_unit u)
few_stretches u l = grind (arith, few_words, words_below)

-- a unit that was forgotten
pub few_ways : (u : KeptUnit) → length u.pairs.items ≡ 0 → KeepsFew (shown_unit u)
few_ways u e = ([], omega arith, none u.stretches.items u.pairs.items e)
  where
    none : (ss : List Stretch) (ps : List FollowedPair) → length ps ≡ 0 → Each (λ x. AreAmong [] x.past) (shown_all ss ps)
    none ss [] e = tt
    none ss _ e = absurd (omega arith)

-- what is shown of a copy is shown of the unit
pub few_copy : (u copy : KeptUnit) → shown_unit copy ≡ shown_unit u → words_in copy.stretches.items ≤ MOST_WORDS → KeepsFew (shown_unit u)
few_copy u copy same l = grind (arith, few_words)

pub few_copied : (u copy : KeptUnit) → shown_unit copy ≡ shown_unit u → length copy.stretches.items ≤ MOST_WORDS → KeepsFew (shown_unit u)
few_copied u copy same l = grind (arith, few_stretches)

pub few_more : (h : Held) (event : HistoryEvent) (from end next : ℕ) → next ≡ end + 1 → AreFew h event from end
    → IsFewFor (h.units end) event → AreFew h event from next
few_more h event from end next e f g = λ j l m. elim (cases_lt j end) [
  | inl below ↦ f j l below
  | inr above ↦ grind arith
]
