use Rattle.std.proofs.Common.{◌≡◌, length, min}
use Rattle.memory_histories.specs.Windows.{load_byte}
use Rattle.memory_histories.specs.Regular.{wrong_place}
use Rattle.memory_histories.specs.Kept.{may_have}
use Rattle.memory_histories.specs.Loads.{load_open}
use Rattle.memory_histories.proofs.Opened.{wrong_from}
use Rattle.memory_histories.proofs.loads.first_wrong.Given as goal

-- what is left says what the whole does
abbrev pub invariant-loop-k : goal.invariant-loop-k
invariant-loop-k l = record {
  place : wrong_from (load_byte l.load.number l.load.address l.load.enables l.load.began) l.load.address l.load.sets.items l.bytes l.k
      ≡ wrong_place may_have (load_open l.load) l.bytes;
  last : l.k-end ≡ min (length l.load.sets.items) (length l.bytes);
}
