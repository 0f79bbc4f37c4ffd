use Rattle.std.proofs.Common.{◌≡◌, ◌+◌, drop}
use Rattle.atomic_histories.specs.Words.{is_word_of}
use Rattle.atomic_histories.proofs.words.is_any_word.Given as goal

-- what is left says what the whole does
abbrev pub invariant-loop-k : goal.invariant-loop-k
invariant-loop-k l = is_word_of (l.first + l.k) (drop l.k l.word) l.from l.bytes ≡ is_word_of l.first l.word l.from l.bytes
