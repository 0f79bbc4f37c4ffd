use Rattle.std.proofs.Common.{◌≡◌}
use Rattle.atomic_histories.specs.Words.{written}
use Rattle.atomic_histories.proofs.Bits.{written_from}
use Rattle.atomic_histories.proofs.words.write.Given as goal

-- what is written so far, and what is left to write
abbrev pub invariant-loop-k : goal.invariant-loop-k
invariant-loop-k l = written_from l.k l.bytes l.word ≡ written l.bytes l.initial.word
