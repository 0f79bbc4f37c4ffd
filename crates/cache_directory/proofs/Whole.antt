-- What is always so of a directory stays so.
use Rattle.std.proofs.Common.{◌≡◌, ℕ, suc, zero, ◌+◌, ◌<◌, ◌≤◌, List, [], ◌∷◌, ◌++◌, length, refl, arith, inl, inr, ◌⊎◌, eq-eqb, ne_eqb}
use Rattle.std.proofs.Common.{◌*◌, ◌/◌, ◌%◌, true, cond, ◌&&◌, ◌==◌, get_or, set, Some, None, is_some, ap, sym, ◌∙◌}
use Rattle.std.proofs.Common.{length-set, get_or-set_same, get_or-set_other}
use Rattle.std.specs.List.{All}
use Rattle.std.proofs.lemmas.Bool.{cases_eq, cases_lt, false≢true, both_ways}
use Rattle.std.proofs.lemmas.List.Elements.{All-nil, All-cons, All-head, All-tail}
use Rattle.cache_directory.specs.Frames.{times_in, without, Frame, Frames, IsSound, IsWhole, empty_frame, zero_cell, frame_at, is_held}
use Rattle.cache_directory.specs.Frames.{frame_of, order_of, set_of, with_frame, fresh_frame, installed, released}
use Rattle.std.proofs.lemmas.List.{get_or_past, length-replicate}
use Rattle.flat_model.specs.Places.{is_number}
use Rattle.flat_model.proofs.Places.{place_of-nowhere}

-- ---- How often a number stands in a list.

pub times-here : (x : ℕ) (xs : List ℕ) → times_in (x ∷ xs) x ≡ 1 + times_in xs x
times-here x xs = grind arith

pub times-append : (xs ys : List ℕ) (f : ℕ) → times_in (xs ++ ys) f ≡ times_in xs f + times_in ys f
times-append [] ys f = omega arith
times-append (x ∷ xs) ys f =
    let e = times-append xs ys f in
    omega arith

pub times-one : (f : ℕ) → times_in (f ∷ []) f ≡ 1
times-one f = times-here f []

pub times-none : (f g : ℕ) → (f ≡ g → ⊥) → times_in (f ∷ []) g ≡ 0
times-none f g n = rw (ne_eqb f g n) refl

pub times-without_same : (xs : List ℕ) (f : ℕ) → times_in (without xs f) f ≡ 0
times-without_same [] f = refl
times-without_same (x ∷ xs) f = grind (arith, times-without_same xs f)

pub times-without_other : (xs : List ℕ) (f g : ℕ) → (g ≡ f → ⊥) → times_in (without xs f) g ≡ times_in xs g
times-without_other [] f g n = refl
times-without_other (x ∷ xs) f g n = grind (arith, times-without_other xs f g n)

pub length-without : (xs : List ℕ) (f : ℕ) → length (without xs f) + times_in xs f ≡ length xs
length-without [] f = refl
length-without (x ∷ xs) f = grind (arith, length-without xs f)

once-without : (xs : List ℕ) (a g : ℕ) → times_in xs g ≤ 1 → times_in (without xs a) g ≤ 1
once-without xs a g h = grind (arith, cases_eq, times-without_same, times-without_other)

within-without : (xs : List ℕ) (a n g : ℕ) → (0 < times_in xs g → (a ≤ g) × (g < a + suc n)) → 0 < times_in (without xs a) g → (a + 1 ≤ g) ×
    (g < a + 1 + n)
within-without xs a n g within p = go (cases_eq g a)
  where
    go : (g ≡ a) ⊎ (g ≡ a → ⊥) → (a + 1 ≤ g) × (g < a + 1 + n)
    go (inl q) =
        let z : times_in (without xs a) g ≡ 0 = rw q (times-without_same xs a) in
        absurd (omega arith)
    go (inr m) =
        let e = times-without_other xs a g m in
        (omega arith, omega arith)

-- a list in which no number stands twice is no longer than the range in which its numbers lie
pub length-within : (n a : ℕ) (xs : List ℕ) → ((g : ℕ) → times_in xs g ≤ 1) → ((g : ℕ) → 0 < times_in xs g → (a ≤ g) × (g < a + n))
    → length xs ≤ n
length-within n a [] once within = omega arith
length-within zero a (x ∷ xs) once within =
    let e = times-here x xs in
    let w = within x (omega arith) in
    absurd (omega arith)
length-within (suc n) a (x ∷ xs) once within =
    let ys = x ∷ xs in
    let e = length-without ys a in
    let r = length-within n _ _ (λ g. once-without ys a g (once g)) (λ g. within-without ys a n g (within g)) in
    omega arith

-- what holds of each number that stands in a list
pub All-times : (P : ℕ → Type 0) (xs : List ℕ) → ((g : ℕ) → 0 < times_in xs g → P g) → All P xs
All-times P [] h = All-nil P
All-times P (x ∷ xs) h =
    let e = times-here x xs in
    All-cons P x xs (h x (omega arith)) (All-times P xs (λ g q. h g (omega arith)))

pub times-all : (P : ℕ → Type 0) (xs : List ℕ) (g : ℕ) → All P xs → 0 < times_in xs g → P g
times-all P [] g h p = absurd (omega arith)
times-all P (x ∷ xs) g h p = go (cases_eq x g) (times-all P xs g (All-tail P x xs h))
  where
    go : (x ≡ g) ⊎ (x ≡ g → ⊥) → (0 < times_in xs g → P g) → P g
    go (inl q) r = rw (← q) (All-head P x xs h)
    go (inr n) r = grind arith

-- a frame that holds a block is there
pub held_there : (d : Frames) (f : ℕ) → is_held d f ≡ true → f < length d.frames
held_there d f h = grind (arith, cases_lt, get_or_past, false≢true)

-- a frame that has a word holds a block
pub cells_held : (ways words : ℕ) (d : Frames) (f i : ℕ) → IsSound ways words d
    → i < length (frame_at d.frames f).cells → is_held d f ≡ true
cells_held ways words d f i h l = grind arith

-- a frame is there where its set is
pub slot_in : (f ways sets n : ℕ) → n ≡ sets * ways → f < n → (0 < ways) × (f / ways < sets)
slot_in f ways sets n e h = (some ways h e, grind (arith, some ways h e))
  where
    some : (w : ℕ) → f < n → n ≡ sets * w → 0 < w
    some zero l q = grind arith
    some (suc w) l q = omega arith

-- one frame changes, and the orders with it
pub whole-changed : (ways words : ℕ) (d : Frames) (f : ℕ) (x : Frame) (os : List (List ℕ)) → IsSound ways words d → f < length d.frames
    → length os ≡ length d.orders → ((b : ℕ) → x.block ≡ Some b → length x.cells ≡ words) → (x.block ≡ None → x ≡ empty_frame)
    → ((b : ℕ) → x.block ≡ Some b → f / ways ≡ b % length d.orders)
    → ((g b : ℕ) → x.block ≡ Some b → (frame_at d.frames g).block ≡ Some b → g ≡ f)
    → ((s : ℕ) → times_in (get_or os s []) f ≡ cond (is_some x.block && (f / ways == s)) 1 0)
    → ((s g : ℕ) → (g ≡ f → ⊥) → times_in (get_or os s []) g ≡ times_in (order_of d s) g)
    → IsSound ways words (record { frames = set d.frames f x; orders = os })
whole-changed ways words d f x os h there sets cells empty in_set alone own others = record {
  frames_there = length-set _ f x ∙ (cc (h.frames_there, sets));
  cells = λ g b e. grind (arith, here, other, cases_eq, cells, h.cells);
  empty = λ g e. grind (arith, here, other, cases_eq, empty, h.empty);
  in_set = λ g b e. grind (arith, here, other, cases_eq, in_set, h.in_set, sets);
  alone = λ g k b e e'. grind (arith, here, other, cases_eq, alone, h.alone);
  ordered = λ s g. ordered s g (cases_eq g f);
}
  where
    here : (g : ℕ) → g ≡ f → frame_at (set d.frames f x) g ≡ x
    here g q = cc (q, get_or-set_same _ f x empty_frame there)

    other : (g : ℕ) → (g ≡ f → ⊥) → frame_at (set d.frames f x) g ≡ frame_at d.frames g
    other g n = get_or-set_other _ f g x empty_frame n

    ordered : (s g : ℕ) → (g ≡ f) ⊎ (g ≡ f → ⊥)
        → times_in (get_or os s []) g ≡ cond (is_some (frame_at (set d.frames f x) g).block && (g / ways == s)) 1 0
    ordered s g (inl q) = cc (q, here g q, own s)
    ordered s g (inr n) = cc (other g n, h.ordered s g, others s g n)

-- a frame keeps its block
pub whole-kept : (ways words : ℕ) (d : Frames) (f : ℕ) (x : Frame) → IsSound ways words d → is_held d f ≡ true
    → x.block ≡ (frame_at d.frames f).block → length x.cells ≡ length (frame_at d.frames f).cells → IsSound ways words (with_frame d f x)
whole-kept ways words d f x h held same long =
    whole-changed ways words d f x _ h there refl (λ b e. long ∙ h.cells f b (sym same ∙ e)) (λ e. absurd (cc))
    (λ b e. h.in_set f b (sym same ∙ e)) (λ g b e e'. h.alone g f b e' (sym same ∙ e))
    (λ s. (cc (h.ordered s f, same))) (λ s g n. refl)
  where
    there : f < length d.frames
    there = held_there d f held

-- ---- the orders

-- a frame of a set lies in the set's row
pub in_row : (f ways s : ℕ) → 0 < ways → f / ways ≡ s → (s * ways ≤ f) × (f < s * ways + ways)
in_row f ways s w e = grind arith

pub of_row : (f ways s : ℕ) → s * ways ≤ f → f < s * ways + ways → f / ways ≡ s
of_row f ways s l h = grind arith

-- what stands in an order is held, and of the order's set
pub in_order : (ways words : ℕ) (d : Frames) (s f : ℕ) → IsSound ways words d → 0 < times_in (order_of d s) f → (is_held d f ≡ true) ×
    (f / ways ≡ s)
in_order ways words d s f h p = grind arith

pub held_in_order : (ways words : ℕ) (d : Frames) (s f : ℕ) → IsSound ways words d → is_held d f ≡ true → f / ways ≡ s
    → times_in (order_of d s) f ≡ 1
held_in_order ways words d s f h held e = grind arith

pub order_held : (ways words : ℕ) (d : Frames) (s : ℕ) → IsSound ways words d
    → All (λ f. (is_held d f ≡ true) × (f / ways ≡ s)) (order_of d s)
order_held ways words d s h = All-times (λ f. (is_held d f ≡ true) × (f / ways ≡ s)) _ (λ f p. in_order ways words d s f h p)

pub order_there : (ways words : ℕ) (d : Frames) (s : ℕ) → IsSound ways words d → All (λ f. f < length d.frames) (order_of d s)
order_there ways words d s h = All-times (λ f. f < length _) _ (λ f p. held_there d f (in_order ways words d s f h p).0)

pub order_short : (ways words : ℕ) (d : Frames) (s : ℕ) → IsSound ways words d → length (order_of d s) ≤ ways
order_short ways words d s h =
    length-within ways _ _ (λ f. grind (arith, h.ordered)) (λ f p. let q = in_order ways words d s f h p in
    in_row f ways s (slot_in f ways _ _ h.frames_there (held_there d f q.0)).0 q.1)

-- ---- a block is installed, and a frame released

order_kept : (orders : List (List ℕ)) (t s g : ℕ) (o : List ℕ) → (s ≡ t → ⊥) → times_in (get_or (set orders t o) s []) g
    ≡ times_in (get_or orders s []) g
order_kept orders t s g o n = ap (λ l. times_in l g) (get_or-set_other orders t s o [] n)

pub whole-installed : (ways words : ℕ) (d : Frames) (f b : ℕ) → IsSound ways words d → f < length d.frames
    → (frame_at d.frames f).block ≡ None → f / ways ≡ set_of d b → frame_of d.frames b ≡ None
    → IsSound ways words (installed ways words d f b)
unfolding installed fresh_frame frame_of
whole-installed ways words d f b h there free of_set absent =
    whole-changed ways words d f (fresh_frame words b) (set d.orders (f / ways) (order_of d (f / ways) ++ f ∷ [])) h there
    (length-set _ _ _) (λ c e. length-replicate words zero_cell) (λ e. absurd (cc))
    (λ c e. (let q : b ≡ c = cc in cc (of_set, q))) (λ g c e e'. absurd (lost g c e e'))
    (λ s. grind (arith, cases_eq, get_or-set_same, in_orders, times-append, order_kept, before, times-one, eq-eqb, ne_eqb))
    (λ s g n. grind (arith, cases_eq, get_or-set_same, in_orders, times-append, order_kept, times-none))
  where
    in_orders : f / ways < length d.orders
    in_orders = (slot_in f ways _ _ h.frames_there there).1

    lost : (g c : ℕ) → Some b ≡ Some c → (frame_at d.frames g).block ≡ Some c → ⊥
    lost g c e e' =
        let no = place_of-nowhere (λ y. is_number y.block b) _ g empty_frame absent (held_there d g (cc)) in
        both_ways _ no (cc (e' ∙ sym e, eq-eqb b b refl))

    before : (s : ℕ) → times_in (order_of d s) f ≡ 0
    before s = grind arith

pub whole-released : (ways words : ℕ) (d : Frames) (f : ℕ) → IsSound ways words d → is_held d f ≡ true
    → IsSound ways words (released ways d f)
unfolding released
whole-released ways words d f h held =
    whole-changed ways words d f empty_frame (set d.orders (f / ways) (without (order_of d (f / ways)) f)) h there
    (length-set _ _ _) (λ c e. absurd (cc)) (λ e. refl) (λ c e. absurd (cc))
    (λ g c e e'. absurd (cc))
    (λ s. grind (arith, cases_eq, get_or-set_same, in_orders, order_kept, times-without_same, h.ordered s f, ne_eqb))
    (λ s g n. grind (arith, cases_eq, get_or-set_same, in_orders, order_kept, times-without_other))
  where
    there : f < length d.frames
    there = held_there d f held

    in_orders : f / ways < length d.orders
    in_orders = (slot_in f ways _ _ h.frames_there there).1

-- ---- numbers in their ranges

pub still_whole : (ways words : ℕ) (d d' : Frames) → IsWhole ways words d → length d'.orders ≡ length d.orders → IsSound ways words d'
    → IsWhole ways words d'
still_whole ways words d d' h e sound = record {
  some_way = h.some_way;
  few_ways = h.few_ways;
  some_word = h.some_word;
  few_words = h.few_words;
  some_set = rw (sym e) at h.some_set;
  few_sets = rw (sym e) at h.few_sets;
  sound = sound;
}
