-- The words that memory begins with, one by one, and how many they are.
use Rattle.std.proofs.Common.{◌≡◌, ℕ, ◌+◌, [], ◌∷◌, ◌++◌, length, map, refl, ap, ◌∙◌}
use Rattle.std.specs.List.{range_with_len}
use Rattle.std.proofs.lemmas.List.{length-replicate, map-append}
use Rattle.std.proofs.lemmas.List.FromFn.{length-map-range_with_len}
use Rattle.flat_model.proofs.Numbers.{range_next}
use Rattle.flat_model.specs.declared.image.Image.{Image}
use Rattle.flat_model.specs.declared.image.Image.TheVariants.{Zeros, Address, Bytes}
use Rattle.flat_model.specs.Images.{word_in, words_below, memory_from}

-- below 0 there are none
pub words_first : (image : Image) → words_below image 0 ≡ []
unfolding words_below
words_first image = refl

-- the next word
pub words_more : (image : Image) (n : ℕ) → words_below image (n + 1) ≡ words_below image n ++ word_in image n ∷ []
unfolding words_below
words_more image n =
    ap (map (word_in image)) (range_next n) ∙ map-append (word_in image) (range_with_len 0 n) (n ∷ [])

pub words_length : (image : Image) (words : ℕ) → length (words_below image words) ≡ words
unfolding words_below
words_length image words = length-map-range_with_len (word_in image) 0 words

-- memory has as many words as it shall have
pub memory_length : (image : Image) (words : ℕ) → length (memory_from image words) ≡ words
memory_length Zeros words = length-replicate words _
memory_length Address words = words_length Address words
memory_length (Bytes bytes) words = words_length (Bytes bytes) words
