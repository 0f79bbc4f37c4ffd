-- What the judge's values show.
use Rattle.std.specs.Prelude.{ℕ, ◌≡◌, ◌<◌, ◌+◌, Bool, true, length, get_or, List, [], ◌∷◌, ◌++◌, map}
use Rattle.std.specs.List.{fold}
use Rattle.atomic_histories.specs.declared.stretches.Before.{Before}
use Rattle.atomic_histories.specs.declared.stretches.Before.TheVariants.{Nothing, Behind}
use Rattle.atomic_histories.specs.declared.stretches.Stretch.{Stretch}
use Rattle.atomic_histories.specs.declared.stretches.Stretch.TheVariants.{Overwritten, Either}
use Rattle.atomic_histories.specs.declared.pairs.FollowedPair.{FollowedPair}
use Rattle.atomic_histories.specs.declared.pairs.Wanted.{Wanted}
use Rattle.atomic_histories.specs.declared.pairs.Wanted.TheVariants.{Effect, Answer, Never}
use Rattle.atomic_histories.specs.declared.kept.KeptUnit.{KeptUnit}
use Rattle.atomic_histories.specs.declared.search.Stop.{Stop}
use Rattle.atomic_histories.specs.declared.search.Stop.TheVariants.{TooManyWays, NoMemory}
use Rattle.atomic_histories.specs.Pasts.{Past, begins, after, either}
use Rattle.atomic_histories.specs.Followed.{Pair, Ways, Aim, never, word_aim, effect_aim}
use Rattle.atomic_histories.specs.Stands.{Each}

-- Stretches: each refers to those that stand before it in their list. ----

-- the past that a reference shows, of those that the stretches show
abbrev pub past_at : List Past → Before → Past
past_at ps Nothing = begins
past_at ps (Behind place) = get_or ps place begins

abbrev pub past_of : List Past → Stretch → Past
past_of ps (Overwritten word moment before) = after word moment (past_at ps before)
past_of ps (Either one other) = either (past_at ps one) (past_at ps other)

-- the past that each stretch shows
abbrev pub pasts : List Stretch → List Past
pasts ss = fold (λ ps s. ps ++ past_of ps s ∷ []) [] ss

-- a reference to one of them
abbrev pub IsIn : List Stretch → Before → Type 0
IsIn ss Nothing = Unit {0}
IsIn ss (Behind place) = place < length ss

-- how many of them are words
abbrev pub count_word : ℕ → Stretch → ℕ
count_word n (Overwritten word moment before) = n + 1
count_word n (Either one other) = n

abbrev pub words_in : List Stretch → ℕ
words_in ss = fold count_word 0 ss

-- more stretches stand behind these
abbrev pub Grows : List Stretch → List Stretch → Type 0
Grows ss ts = (more : List Stretch) × (ts ≡ ss ++ more)

-- Pairs. ----

abbrev pub shown : List Stretch → FollowedPair → Pair
shown ss p = record { word = p.word; stores = p.stores.items; past = past_at (pasts ss) p.past }

abbrev pub shown_all : List Stretch → List FollowedPair → List Pair
shown_all ss ps = map (shown ss) ps

abbrev pub AreIn : List Stretch → List FollowedPair → Type 0
AreIn ss ps = Each (λ p. IsIn ss p.past) ps

abbrev pub shown_unit : KeptUnit → Ways
shown_unit u = record { loads = u.loads.items; moment = u.moment; pairs = shown_all u.stretches.items u.pairs.items }

-- what an answer needs of a pair
abbrev pub aim_of : Wanted → Aim
aim_of (Effect number) = effect_aim number
aim_of (Answer unit address bytes) = word_aim unit address bytes.now
aim_of Never = never

-- why a search was stopped: more pairs than the limit were needed, or there was too little memory
abbrev pub StopIs : Bool → Stop → Type 0
StopIs over TooManyWays = over ≡ true
StopIs over NoMemory = Unit {0}
