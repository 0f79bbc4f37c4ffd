-- What is counted and shown of tags after each change of one of them.
use Rattle.std.proofs.Common.{◌||◌, append-nil, ◌≡◌, ℕ, ◌*◌, ◌-◌, ◌<◌, ◌≤◌, Bool, true, false, ◌==◌, cond, if◌then◌else◌, List, []}
use Rattle.std.proofs.Common.{◌∷◌, ◌++◌, take, drop, length, replicate, get_or, set, inl, inr, refl, sym, ◌∙◌, ap, subst, eq-eqb, arith}
use Rattle.std.specs.Prelude.{slice_set}
use Rattle.std.specs.List.{sum_by, list_any}
use Rattle.std.proofs.Math.Path.{fun_ext}
use Rattle.std.proofs.Math.Seq.{drop-length, take-length}
use Rattle.std.proofs.lemmas.Bool.{cases_Bool, cases_lt, eqb-true}
use Rattle.std.proofs.lemmas.List.{length-drop, get_or-set_same, get_or-set_other, get_or-replicate, get_or_past, drop-append-le}
use Rattle.std.proofs.lemmas.List.{length-replicate}
use Rattle.std.proofs.lemmas.List.Sums.{sum_by-le, sum_by-le-sum_by, get_or-le-sum_by}
use Rattle.std.proofs.lemmas.List.Folds.{sum_by-replicate}
use Rattle.flat_model.specs.declared.Word.{Word}
use Rattle.std.proofs.lemmas.Bool.Decides.{nat_tests}
use Rattle.flat_model.specs.Flat.{same_word}
use Rattle.run_reasons.specs.declared.origins.AcceptedLoad.{AcceptedLoad}
use Rattle.run_reasons.specs.declared.origins.TagUse.{TagUse}
use Rattle.run_reasons.specs.declared.origins.TagUse.TheVariants.{Never, Loaded, Taken}
use Rattle.run_reasons.specs.declared.tags.LeftWord.{LeftWord}
use Rattle.run_reasons.specs.declared.tags.TagSlot.{TagSlot}
use Rattle.run_reasons.specs.Origins.{is_open_at, with_use, without_since, with_left}
use Rattle.run_reasons.specs.TagSlots.{no_slot, slot_at, uses_in, words_at, is_left, words_behind, since_in, is_open, loads_in, loads_at}
use Rattle.run_reasons.specs.TagSlots.{IsCounted, while_open}

abbrev one_if : Bool → ℕ
one_if b = if b then 1 else 0

not_true : false ≡ true → ⊥
not_true e = cc

times_zero : (n : ℕ) → n * 0 ≡ 0
times_zero n = omega arith

-- ---- a tag that has become another

slot_set : (slots : List TagSlot) (tag t : ℕ) (s : TagSlot) (b : Bool) → tag < length slots → (t == tag) ≡ b
    → slot_at (set slots tag s) t ≡ cond b s (slot_at slots t)
slot_set slots tag t s true lt e = grind (arith, eqb-true, get_or-set_same)
slot_set slots tag t s false lt e = grind (arith, nat_tests, get_or-set_other)

words_is : (left : List LeftWord) (b : Bool) (s u : TagSlot) → words_behind left s.before s.state ≡ []
    → words_behind left (cond b s u).before (cond b s u).state ≡ (if b then [] else words_behind left u.before u.state)
words_is left true s u none = none
words_is left false s u none = refl

pub since_set : (left : List LeftWord) (slots : List TagSlot) (tag : ℕ) (s : TagSlot) → tag < length slots
    → words_behind left s.before s.state ≡ [] → since_in left (slice_set slots tag s) ≡ without_since (since_in left slots) tag
since_set left slots tag s lt none = grind (arith, fun_ext, slot_set, words_is)

use_is : (b : Bool) (s u : TagSlot) → (cond b s u).state ≡ (if b then s.state else u.state)
use_is true s u = refl
use_is false s u = refl

pub uses_set : (slots : List TagSlot) (tag : ℕ) (s : TagSlot) → tag < length slots
    → uses_in (slice_set slots tag s) ≡ with_use (uses_in slots) tag s.state
uses_set slots tag s lt = grind (arith, fun_ext, slot_set, use_is)

-- of two changes of one tag the second counts
twice : {X : Type 0} (b : Bool) (x y z : X) → (if b then x else (if b then y else z)) ≡ (if b then x else z)
twice true x y z = refl
twice false x y z = refl

pub uses_twice : (uses : ℕ → TagUse) (tag : ℕ) (one other : TagUse) → with_use (with_use uses tag one) tag other ≡ with_use uses tag other
uses_twice uses tag one other = grind arith

pub since_twice : (since : ℕ → List Word) (tag : ℕ) → without_since (without_since since tag) tag ≡ without_since since tag
since_twice since tag = grind arith

pub use_there : (uses : ℕ → TagUse) (tag : ℕ) (state : TagUse) → with_use uses tag state tag ≡ state
use_there uses tag state = grind arith

pub none_begun : (left : List LeftWord) (load : AcceptedLoad) → words_behind left (length left) (Loaded load) ≡ []
none_begun left load = grind (arith, drop-length)

-- ---- counts

-- one that has a load is counted
pub one_counted : (p : TagUse → Bool) (slots : List TagSlot) (t : ℕ) → p Never ≡ false → p (uses_in slots t) ≡ true
    → 1 ≤ sum_by (λ s. one_if (p s.state)) slots
one_counted p slots t none h = elim (cases_lt t _) [
  | inl lt ↦
      let counted = get_or-le-sum_by (λ s. one_if _) slots t no_slot lt in
      subst (λ b. one_if b ≤ sum_by (λ s. one_if (p s.state)) slots) h counted
  | inr past ↦
      let slot = get_or_past slots t no_slot past in
      let f = sym none ∙ (ap (λ s. p s.state) (sym slot) ∙ h) in
      absurd (not_true f)
]

-- so where none is counted none has one
pub none_counted : (p : TagUse → Bool) (slots : List TagSlot) (t : ℕ) → p Never ≡ false → sum_by (λ s. one_if (p s.state)) slots ≡ 0
    → p (uses_in slots t) ≡ false
none_counted p slots t none zero = elim (cases_Bool (p (uses_in slots t))) [
  | inl e ↦ absurd (omega (arith, one_counted p slots t none e, zero))
  | inr e ↦ e
]

at_most_one : (b : Bool) → one_if b ≤ 1
at_most_one true = omega arith
at_most_one false = omega arith

pub few_counted : (p : TagUse → Bool) (slots : List TagSlot) → sum_by (λ s. one_if (p s.state)) slots ≤ length slots
few_counted p slots =
    let most = sum_by-le (λ s. one_if (p s.state)) 1 slots (λ k d l. at_most_one (p (get_or slots k d).state)) in
    omega (arith, most)

-- a load that is open at a word is one of all that are open
one_open : (at : ℕ) (state : TagUse) → one_if (is_open_at at state) ≤ one_if (is_open state)
one_open at Never = omega arith
one_open at (Loaded load) = at_most_one _
one_open at (Taken n) = omega arith

pub few_at : (at : ℕ) (slots : List TagSlot) → loads_at at slots ≤ loads_in slots
few_at at slots = grind (arith, sum_by-le-sum_by, one_open)

no_longer : (state : TagUse) (P : Type 0) → is_open state ≡ false → is_open state ≡ true → P
no_longer state P e h = absurd (not_true (sym e ∙ h))

-- a load that is open is counted at its word, which lies within memory
pub load_counted : (slots : List TagSlot) (counts : List ℕ) (loads : ℕ) (left : List LeftWord) (tag : ℕ) (load : AcceptedLoad)
    → IsCounted slots counts loads left → uses_in slots tag ≡ Loaded load → (1 ≤ get_or counts load.at 0) × (1 ≤ loads)
load_counted slots counts loads left tag load c is =
    let at = ap (is_open_at load.at) is ∙ eq-eqb load.at load.at refl in
    let one : 1 ≤ loads_at load.at slots = one_counted _ slots tag refl at in
    let all = one_counted is_open slots tag refl (ap is_open is) in
    (omega (arith, one, c.each_word load.at), omega (arith, all, c.all))

pub within : (counts : List ℕ) (at : ℕ) → 1 ≤ get_or counts at 0 → at < length counts
within counts at some = elim (cases_lt at (length counts)) [
  | inl lt ↦ lt
  | inr past ↦ absurd (omega (arith, some, get_or_past counts at 0 past))
]

-- ---- words that are left

words_more : (at : ℕ) (xs ys : List LeftWord) → words_at at (xs ++ ys) ≡ words_at at xs ++ words_at at ys
words_more at [] ys = refl
words_more at (x ∷ xs) ys = elim (cases_Bool (at == x.at)) [
  | inl e ↦ rw e (ap (λ ws. x.word ∷ ws) (words_more at xs ys))
  | inr e ↦ rw e (words_more at xs ys)
]

one_left : (b : Bool) (word : Word) (words : List Word) → words ++ (if b then word ∷ [] else []) ≡ (if b then words ++ word ∷ [] else words)
one_left true word words = refl
one_left false word words = append-nil words

left_for : (left : List LeftWord) (l : LeftWord) (before : ℕ) (state : TagUse) → (is_open state ≡ true → before ≤ length left)
    → words_behind (left ++ l ∷ []) before state ≡ (if is_open_at l.at state then words_behind left before state
    ++ l.word ∷ [] else words_behind left before state)
left_for left l before Never h = refl
left_for left l before (Taken n) h = refl
left_for left l before (Loaded load) h = grind (arith, load.at, drop-append-le, words_more, one_left, l.word)

pub since_left : (slots : List TagSlot) (counts : List ℕ) (loads : ℕ) (left : List LeftWord) (l : LeftWord)
    → IsCounted slots counts loads left → since_in (left ++ l ∷ []) slots ≡ with_left (uses_in slots) (since_in left slots) l.at l.word
since_left slots counts loads left l c = grind (arith, fun_ext, left_for, c.behind)

not_at : (b : Bool) (words more : List Word) → b ≡ false → words ≡ (if b then more else words)
not_at true words more h = cc
not_at false words more h = refl

-- nobody waits for a word of which no load is open
pub since_passed : (slots : List TagSlot) (counts : List ℕ) (loads : ℕ) (left : List LeftWord) (at : ℕ) (word : Word)
    → IsCounted slots counts loads left → get_or counts at 0 ≡ 0
    → since_in left slots ≡ with_left (uses_in slots) (since_in left slots) at word
since_passed slots counts loads left at word c zero = fun_ext (λ t.
    not_at _ _ _
    (none_counted _ slots t refl (sym (c.each_word at) ∙ zero)))

-- ---- words that are forgotten

-- no word is told of a tag without a load
pub none_behind : (left : List LeftWord) (before : ℕ) (state : TagUse) → is_open state ≡ false → words_behind left before state ≡ []
none_behind left before Never h = refl
none_behind left before (Loaded load) h = cc
none_behind left before (Taken n) h = refl

-- nobody misses the words that are forgotten
pub since_forgotten : (slots : List TagSlot) (counts : List ℕ) (loads : ℕ) (left : List LeftWord)
    → IsCounted slots counts loads left → since_in (while_open loads left) slots ≡ since_in left slots
since_forgotten slots counts loads left c = elim (cases_Bool _) [
  | inl e ↦
      let none : (t : ℕ) → is_open _ ≡ false = λ t. none_counted is_open slots t refl (sym c.all ∙ eqb-true loads 0 e) in
      rw e (fun_ext (λ t. none_behind [] (slot_at slots t).before _ (none t)
      ∙ sym (none_behind left (slot_at slots t).before (uses_in slots t) (none t))))
  | inr e ↦ rw e refl
]

pub counted_forgotten : (slots : List TagSlot) (counts : List ℕ) (loads : ℕ) (left : List LeftWord)
    → IsCounted slots counts loads left → IsCounted slots counts loads (while_open loads left)
counted_forgotten slots counts loads left c = record {
  each_word = c.each_word;
  all = c.all;
  behind = λ t h. elim (cases_Bool _) [
    | inl e ↦ no_longer _ _ (none_counted is_open slots t refl (sym c.all ∙ eqb-true loads 0 e)) h
    | inr e ↦ rw e (c.behind t h)
  ];
}

-- ---- before any line

first_slot : (n t : ℕ) → slot_at (replicate n no_slot) t ≡ no_slot
first_slot n t = elim (cases_lt t n) [
  | inl lt ↦ get_or-replicate n t no_slot no_slot lt
  | inr past ↦ get_or_past _ t no_slot (omega (arith, past, length-replicate n no_slot))
]

pub first_uses : (n : ℕ) → uses_in (replicate n no_slot) ≡ (λ tag. Never)
first_uses n = grind (arith, fun_ext, first_slot)

pub first_since : (n : ℕ) → since_in [] (replicate n no_slot) ≡ (λ tag. [])
first_since n = grind (arith, fun_ext, first_slot)

same_everywhere : (n at x : ℕ) → get_or (replicate n x) at x ≡ x
same_everywhere n at x = elim (cases_lt at n) [
  | inl lt ↦ get_or-replicate n at x x lt
  | inr past ↦ get_or_past _ at x (omega (arith, past, length-replicate n x))
]

first_sum : (p : TagUse → Bool) (n : ℕ) → p Never ≡ false → sum_by (λ s. one_if (p s.state)) (replicate n no_slot) ≡ 0
first_sum p n none = grind (arith, sum_by-replicate, times_zero)

pub first_counted : (n words : ℕ) → IsCounted (replicate n no_slot) (replicate words 0) 0 []
first_counted n words = record {
  each_word = λ at. same_everywhere words at 0 ∙ sym (first_sum (is_open_at at) n refl);
  all = sym (first_sum is_open n refl);
  behind = λ t h. no_longer _ _ (ap (λ s. is_open s.state) (first_slot n t)) h;
}

-- ---- a word that stood there

pub any_at : (at : ℕ) (word : Word) (left : List LeftWord)
    → list_any (is_left at word) left ≡ list_any (λ w. same_word w word) (words_at at left)
any_at at word [] = refl
any_at at word (l ∷ ls) = elim (cases_Bool (at == l.at)) [
  | inl e ↦ rw e (ap (λ b. same_word l.word word || b) (any_at at word ls))
  | inr e ↦ rw e (any_at at word ls)
]

-- what a slice from a place on has
pub rest_of : {X : Type 0} (k : ℕ) (xs : List X) → take (length xs - k) (drop k xs) ≡ drop k xs
rest_of k xs = ap (λ n. take n (drop k xs)) (sym (length-drop k xs)) ∙ take-length _

-- the words of an open load begin within the list
pub within_left : (slots : List TagSlot) (counts : List ℕ) (loads : ℕ) (left : List LeftWord) (tag : ℕ) (load : AcceptedLoad)
    → IsCounted slots counts loads left → uses_in slots tag ≡ Loaded load → (slot_at slots tag).before ≤ length left
within_left slots counts loads left tag load c is = grind arith

pub has_stood : (slots : List TagSlot) (left : List LeftWord) (tag : ℕ) (load : AcceptedLoad) (word : Word)
    → uses_in slots tag ≡ Loaded load → list_any (is_left load.at word) (drop (slot_at slots tag).before left)
    ≡ list_any (λ w. same_word w word) (since_in left slots tag)
has_stood slots left tag load word is = grind (arith, any_at, load.at)
