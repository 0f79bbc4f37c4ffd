use Rattle.std.proofs.Common.{◌≡◌, ◌≤◌, take, fold}
use Rattle.atomic_histories.specs.Shown.{count_word}
use Rattle.atomic_histories.proofs.stretches.words_in.Given as goal

-- the words so far are counted
abbrev pub invariant-loop-stretch : goal.invariant-loop-stretch
invariant-loop-stretch l = record {
  counted : l.count ≡ fold count_word 0 (take l.stretch-index l.stretches);
  most : l.count ≤ l.stretch-index;
}
