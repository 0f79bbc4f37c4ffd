use Rattle.std.proofs.Common.{◌≡◌, length}
use Rattle.station_parts.specs.New.{AreNewBanks}
use Rattle.station_parts.proofs.make.make_banks.Given as goal

abbrev pub invariant-loop-bank : goal.invariant-loop-bank
invariant-loop-bank l = record {
  new : AreNewBanks l.sizes l.ends.banks.items l.ends.lines.items l.ends.answers.items;
  number : length l.ends.banks.items ≡ l.bank;
}
