-- What memory begins with.
use Rattle.std.specs.Prelude.{ℕ, ◌+◌, ◌*◌, ◌/◌, ◌%◌, List, [], map, replicate, slice_index_or}
use Rattle.std.specs.List.{range_with_len}
use Rattle.flat_model.specs.declared.Word.{Word}
use Rattle.flat_model.specs.Flat.{Flat, opening}
use Rattle.flat_model.specs.Words.{zero_word}
use Rattle.flat_model.specs.declared.image.Image.{Image}
use Rattle.flat_model.specs.declared.image.Image.TheVariants.{Zeros, Address, Bytes}

-- the word with the bytes of a number below 2 ^ 32, the lowest first
abbrev pub number_word : ℕ → Word
number_word n = record { b0 = n % 256; b1 = n / 256 % 256; b2 = n / 65536 % 256; b3 = n / 16777216 }

-- the byte at a place, or zero behind the last one
abbrev pub byte_in : List ℕ → ℕ → ℕ
byte_in bytes place = slice_index_or bytes place 0

-- the word at an address of these bytes
abbrev pub bytes_word : List ℕ → ℕ → Word
bytes_word bytes at = record {
  b0 = byte_in bytes (4 * at);
  b1 = byte_in bytes (4 * at + 1);
  b2 = byte_in bytes (4 * at + 2);
  b3 = byte_in bytes (4 * at + 3);
}

-- the word at an address of memory that begins so
abbrev pub word_in : Image → ℕ → Word
word_in Zeros at = zero_word
word_in Address at = number_word at
word_in (Bytes bytes) at = bytes_word bytes.items at

-- the words below an address, one by one
unfoldable pub words_below : Image → ℕ → List Word
words_below image words = map (word_in image) (range_with_len 0 words)

-- what a memory of so many words begins with
abbrev pub memory_from : Image → ℕ → List Word
memory_from Zeros words = replicate words zero_word
memory_from Address words = words_below Address words
memory_from (Bytes bytes) words = words_below (Bytes bytes) words

-- the same as flat memory, in which nothing is owed
abbrev pub flat_from : Image → ℕ → Flat
flat_from image words = opening (memory_from image words)

-- the bytes that an image was made of; none for zeros and addresses, which any memory may have
abbrev pub bytes_of : Image → List ℕ
bytes_of Zeros = []
bytes_of Address = []
bytes_of (Bytes bytes) = bytes.items
