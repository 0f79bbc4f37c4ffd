-- Worked examples, each checked by computing.
use Rattle.std.specs.Prelude.{◌≡◌, ℕ, List, [], ◌∷◌}
use Rattle.std.proofs.Common.{refl}
use Rattle.flat_model.specs.declared.Word.{Word}
use Rattle.flat_model.specs.Words.{zero_word}
use Rattle.flat_model.specs.declared.image.Image.TheVariants.{Address}
use Rattle.flat_model.specs.Images.{bytes_word, word_in}

abbrev word : ℕ → ℕ → ℕ → ℕ → Word
word a b c d = record { b0 = a; b1 = b; b2 = c; b3 = d }

-- word 4 begins as 04000000
pub fourth_address : word_in Address 4 ≡ word 4 0 0 0
fourth_address = refl

-- word 66051 as 03020100
pub long_address : word_in Address 66051 ≡ word 3 2 1 0
long_address = refl

-- six bytes fill a word and a half, and zeros stand behind them
abbrev pub six_bytes : List ℕ
six_bytes = 17 ∷ 34 ∷ 51 ∷ 68 ∷ 85 ∷ 102 ∷ []

pub first_word : bytes_word six_bytes 0 ≡ word 17 34 51 68
first_word = refl

pub half_a_word : bytes_word six_bytes 1 ≡ word 85 102 0 0
half_a_word = refl

pub behind_the_bytes : bytes_word six_bytes 2 ≡ zero_word
behind_the_bytes = refl
