-- What becomes of a unit that takes an event where it stands, or doesn't.
use Rattle.std.specs.Prelude.{ℕ, ◌≡◌, Bool, true, false, nat_le, List, [], ◌∷◌, Option}
use Rattle.atomic_histories.specs.declared.unit.OpenStore.{OpenStore}
use Rattle.atomic_histories.specs.declared.unit.UnitPlace.{UnitPlace}
use Rattle.atomic_histories.specs.declared.unit.LoadAddress.{LoadAddress}
use Rattle.atomic_histories.specs.declared.stretches.Before.TheVariants.{Nothing}
use Rattle.atomic_histories.specs.declared.pairs.FollowedPair.{FollowedPair}
use Rattle.atomic_histories.specs.declared.kept.KeptUnit.{KeptUnit}
use Rattle.atomic_histories.specs.declared.stretches.Stretch.{Stretch}
use Rattle.atomic_histories.specs.declared.stretches.Stretch.TheVariants.{Overwritten, Either}
use Rattle.atomic_histories.specs.Words.{written, is_word_of}
use Rattle.atomic_histories.specs.Followed.{Ways, has_way}
use Rattle.atomic_histories.specs.Shown.{shown_unit, words_in}

-- it shows what it did, and as many words are kept
abbrev pub IsUnitKept : KeptUnit → KeptUnit → Type 0
IsUnitKept before after =
    (shown_unit after ≡ shown_unit before) × (words_in after.stretches.items ≡ words_in before.stretches.items)

-- its ways became these, of which there are some, or it is as it was
abbrev pub IsTakenTo : Ways → KeptUnit → KeptUnit → Bool → Type 0
IsTakenTo ways before after true = (shown_unit after ≡ ways) × (has_way ways ≡ true)
IsTakenTo ways before after false = IsUnitKept before after

-- the one store of a pair, before which nothing stood, makes this word, which is an answer's as the word of now isn't
pub record IsNextWord (unit : UnitPlace) (address : LoadAddress) (bytes : List ℕ) (p : FollowedPair) (word : List (Option ℕ)) : Type 0 where
  pub past : p.past ≡ Nothing
  pub store : OpenStore
  pub one : p.stores.items ≡ store ∷ []
  pub open_ : store.is_done ≡ false
  pub made : word ≡ written store.bytes p.word
  pub before : is_word_of unit.first p.word address bytes ≡ false
  pub is_answer : is_word_of unit.first word address bytes ≡ true

-- a word that was overwritten at a moment or later
abbrev pub is_late : ℕ → Stretch → Bool
is_late since (Overwritten word moment before) = nat_le since moment
is_late since (Either one other) = false
