-- Asks that are drawn one by one, and scripts that are drawn part by part.
use Rattle.std.proofs.Common.{◌≡◌, ℕ, zero, suc, ◌+◌, ◌-◌, ◌%◌, ◌<◌, List, [], ◌∷◌, ◌++◌, take, drop, length, min, refl, ap}
use Rattle.std.proofs.Common.{arith, add-one, get_or, Result, Ok, Err, OnOk}
use Rattle.std.proofs.lemmas.List.{get_or_append_left, get_or_at}
use Rattle.flat_model.specs.declared.Word.{Word}
use Rattle.flat_model.specs.Images.{number_word}
use Rattle.rand_pcg.specs.Lcg.{Lcg}
use Rattle.rand_pcg.specs.Pcg.{pcg32}
use Rattle.station_journal.specs.declared.asks.TheConstants.{PORT_TAGS}
use Rattle.station_journal.specs.declared.asks.Ask.{Ask}
use Rattle.station_checks.specs.declared.plan.TheConstants.{BLOCK_WORDS}
use Rattle.station_checks.specs.Asked.{ask_picked, ask_drawn, drawn_on, drawn_past, asks_drawn, own_word, no_random}

-- an ask is the drawn one if its two numbers are
pub is_drawn : (address : ℕ → ℕ) (random second left : Lcg) (number pick next : ℕ) (word : Word) → (pick, second) ≡ pcg32 random
    → (next, left) ≡ pcg32 second → word ≡ number_word next
    → (ask : Ask) → ask ≡ ask_picked pick (number % PORT_TAGS) (address pick) word BLOCK_WORDS
    → ask ≡ ask_drawn address random number
unfolding ask_drawn
is_drawn address random second left number pick next word first then is ask asked = grind arith

-- one ask more
pub asks_next : (address : ℕ → ℕ) (random : Lcg) (number count : ℕ)
    → asks_drawn address random number (suc count)
    ≡ asks_drawn address random number count ++ ask_drawn address (drawn_past count random) (number + count) ∷ []
asks_next address random number zero = grind arith
asks_next address random number (suc count) = grind (arith, asks_next address (drawn_on random) (number + 1) count)

pub past_next : (random : Lcg) (count : ℕ) → drawn_past (suc count) random ≡ drawn_on (drawn_past count random)
past_next random zero = refl
past_next random (suc count) = past_next (drawn_on random) count

pub asks_more : (address : ℕ → ℕ) (random drawn next : Lcg) (number count : ℕ) (ask : Ask) (old new : List Ask)
    → drawn ≡ drawn_past count random
    → ask ≡ ask_drawn address drawn (number + count) → next ≡ drawn_on drawn → old ≡ asks_drawn address random number count
    → new ≡ old ++ ask ∷ []
    → (new ≡ asks_drawn address random number (count + 1)) × (next ≡ drawn_past (count + 1) random)
asks_more address random drawn next number count ask old new past asked on before adds =
    rw add-one (grind (arith, asks_next), grind (arith, past_next))

-- the first asks of those that are left, and the others
pub front : (address : ℕ → ℕ) (random : Lcg) (number most left : ℕ)
    → asks_drawn address random number (min most left) ≡ take most (asks_drawn address random number left)
front address random number zero left = grind arith
front address random number (suc most) zero = grind arith
front address random number (suc most) (suc left) =
    let e : min (suc most) (suc left) ≡ suc (min most left) = omega arith in
    rw e (ap (λ s. ask_drawn address random number ∷ s) (front address (drawn_on random) (number + 1) most left))

pub behind : (address : ℕ → ℕ) (random : Lcg) (number most left : ℕ)
    → asks_drawn address (drawn_past (min most left) random) (number + min most left) (left - most)
    ≡ drop most (asks_drawn address random number left)
behind address random number zero left = grind arith
behind address random number (suc most) zero = grind arith
behind address random number (suc most) (suc left) =
    let e : min (suc most) (suc left) ≡ suc (min most left) = omega arith in
    let f : suc left - suc most ≡ left - most = omega arith in
    let g : number + suc (min most left) ≡ number + 1 + min most left = omega arith in
    rw (e, f, g) (behind address (drawn_on random) (number + 1) most left)

-- one item more, each of which is known by its place
pub each_more : {X : Type 0} (xs ys : List X) (y d : X) (f : ℕ → X) (k : ℕ) → length xs ≡ k → ((p : ℕ) → p < k → get_or xs p d ≡ f p)
    → y ≡ f k → ys ≡ xs ++ y ∷ []
    → (p : ℕ) → p < k + 1 → get_or ys p d ≡ f p
each_more xs ys y d f k long before is adds p within =
    grind (arith, get_or_append_left xs (y ∷ []) d p, get_or_at xs y [] d p, before p)

-- ---- a part of the scripts

pub left_behind : {X E : Type 0} (r : Result X E) (ports : ℕ) (old new : List Lcg) (asks drawn most count : ℕ)
    → count ≡ min most (asks - drawn)
    → OnOk r ((p : ℕ) → p < ports → get_or new p no_random ≡ drawn_past count (get_or old p no_random))
    → OnOk r ((p : ℕ) → p < ports → asks_drawn (own_word p) (get_or new p no_random) (drawn + count) (asks - (drawn + count))
    ≡ drop most (asks_drawn (own_word p) (get_or old p no_random) drawn (asks - drawn)))
left_behind (Ok x) ports old new asks drawn most count is rest = λ p within.
    grind (arith, rest p within, behind (own_word p) (get_or old p no_random) drawn most (asks - drawn))
left_behind (Err e) ports old new asks drawn most count is rest = tt
