use Rattle.std.proofs.Common.{◌≡◌, List, Bool, length}
use Rattle.std.specs.Prelude.{Option}
use Rattle.ring_station.specs.declared.crew.BankRun.{BankRun}
use Rattle.ring_station.specs.declared.idle.Turn.{Turn}
use Rattle.ring_station.specs.Crew.{EachServed}
use Rattle.ring_station.specs.Turns.{BanksHaveTurns}
use Rattle.ring_station.proofs.Sharing.{HaveCome}
use Rattle.ring_station.proofs.bank_thread.serve_on.Given as goal

abbrev pub invariant-loop-turn : goal.invariant-loop-turn
invariant-loop-turn g l = record {
  number : length l.runs ≡ length l.fn.runs;
  served : (first : List BankRun) → EachServed l.fn.had first l.fn.runs → EachServed l.turn first l.runs;
  come : HaveCome (λ turn old new. (is_done : Bool) × (all : Option Turn)
      × BanksHaveTurns (g.G.Gate.can_answer l.gate) l.start is_done turn old new all) l.fn.had l.turn l.fn.runs l.runs;
}
