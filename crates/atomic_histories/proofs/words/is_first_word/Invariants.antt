use Rattle.std.proofs.Common.{◌≡◌, drop}
use Rattle.atomic_histories.specs.Words.{is_first_word}
use Rattle.atomic_histories.proofs.words.is_first_word.Given as goal

-- what is left says what the whole does
abbrev pub invariant-loop-k : goal.invariant-loop-k
invariant-loop-k l = is_first_word (drop l.k l.word) l.bytes l.k ≡ is_first_word l.word l.bytes 0
