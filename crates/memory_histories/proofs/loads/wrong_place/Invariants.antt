use Rattle.std.proofs.Common.{◌≡◌, ◌-◌, ◌≤◌, drop, length}
use Rattle.std.specs.List.{filter, zip, position_from}
use Rattle.memory_histories.specs.Regular.{wrong_place}
use Rattle.memory_histories.specs.Kept.{is_open_of, may_have}
use Rattle.memory_histories.specs.Loads.{loads_open}
use Rattle.memory_histories.proofs.Opened.{is_bad}
use Rattle.memory_histories.proofs.loads.wrong_place.Given as goal

-- what is left says what the whole does
abbrev pub invariant-loop-load : goal.invariant-loop-load
invariant-loop-load l = record {
  place : position_from is_bad (length l.bytes - length l.rest)
      (zip (filter (is_open_of l.number) (loads_open (drop l.load-index l.loads))) l.rest)
      ≡ wrong_place may_have (filter (is_open_of l.number) (loads_open l.loads)) l.bytes;
  within : length l.rest ≤ length l.bytes;
}
