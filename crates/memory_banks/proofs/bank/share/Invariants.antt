use Rattle.std.proofs.Common.{◌≡◌, ◌+◌, ◌*◌, map}
use Rattle.std.specs.List.{range_with_len}
use Rattle.flat_model.specs.Flat.{word_at}
use Rattle.memory_banks.proofs.bank.share.Given as goal

abbrev pub invariant-loop-k : goal.invariant-loop-k
invariant-loop-k l = l.words.items ≡ map (λ k. word_at l.image (k * l.banks + l.bank)) (range_with_len 0 l.k)
