use Rattle.std.proofs.Common.{◌≡◌, ◌↔◌, ◌<◌, ◌+◌, ℕ, false, slice_index_or}
use Rattle.std.specs.Prelude.{None}
use Rattle.ring_station.specs.declared.crew.BankRun.{BankRun}
use Rattle.ring_station.specs.declared.gate.Actor.TheVariants as actors
use Rattle.ring_station.specs.Crew.{ServesOn}
use Rattle.ring_station.specs.Ends.{goes_on}
use Rattle.ring_station.specs.Turns.{HadTurns, BankHasTurn}
use Rattle.ring_station.proofs.bank_thread.turn_of_banks.Given as goal

abbrev pub invariant-loop-k : goal.invariant-loop-k
invariant-loop-k g l = record {
  turns : HadTurns (λ j old now made.
      ServesOn l.turn old now × BankHasTurn (g.G.Gate.can_answer l.gate (actors.Bank (l.start + j))) l.is_done l.turn old now made) l.k
      l.fn.runs l.runs l.all;
  over : (l.all ≡ None) ↔ ((j : ℕ) (d : BankRun) → j < l.k → goes_on (slice_index_or l.runs j d).end.fault ≡ false);
}
