-- A sentence with numbers in it.
use Rattle.std.specs.Prelude.{ℕ, List, ◌++◌, codes, decimal}
use Rattle.flat_model.specs.Texts.{word_text, lanes_text}
use Rattle.run_pictures.specs.declared.phrase.Phrase.{Phrase}
use Rattle.run_pictures.specs.declared.phrase.Phrase.TheVariants.{Word, One, Between, Two, Around, Given, Sent, Taken, TooMany, Full, Short}

abbrev pub text_of : Phrase → List ℕ
text_of (Word word) = word.now
text_of (One word n) = word.now ++ decimal n
text_of (Between word n next) = word.now ++ (decimal n ++ next.now)
text_of (Two word n next m) = word.now ++ (decimal n ++ (next.now ++ decimal m))
text_of (Around word n next m last) = word.now ++ (decimal n ++ (next.now ++ (decimal m ++ last.now)))
text_of (Given bank i slot) =
    codes "bank " ++ (decimal bank ++ (codes " gives word " ++ (decimal i ++ (codes " of register " ++ (decimal slot ++ codes "'s block")))))
text_of (Sent lanes at bank) =
    codes "the bytes " ++ (lanes_text lanes ++ (codes " of word " ++ (decimal at ++ (codes " go to bank " ++ decimal bank))))
text_of (Taken tag word) = codes "the load of tag " ++ (decimal tag ++ (codes " is answered " ++ word_text word))
text_of (TooMany free dirty) =
    codes "the write queue has " ++ (decimal free ++ (codes " free places for " ++ (decimal dirty ++ codes " dirty words")))
text_of (Full bank) = codes "bank " ++ (decimal bank ++ codes " has no room for a command")
text_of (Short bank room reads) =
    codes "bank " ++ (decimal bank ++ (codes " has room for " ++ (decimal room ++ (codes " commands, and is to be sent " ++ decimal reads))))
