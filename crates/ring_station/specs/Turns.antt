-- One turn of a thread.
use Rattle.std.specs.Prelude.{◌≡◌, ◌⊎◌, ℕ, zero, suc, ◌+◌, ◌<◌, ◌≤◌, Bool, true, false, List, length, slice_index_or}
use Rattle.std.specs.Prelude.{Option, Some, None, IfSome}
use Rattle.std.specs.List.{All}
use Rattle.station_parts.specs.declared.bank.BankSide.{BankSide}
use Rattle.station_parts.specs.declared.parts.Stepped.{Stepped}
use Rattle.station_parts.specs.declared.parts.Stepped.TheVariants.{Idle}
use Rattle.station_parts.specs.Serving.{can_serve, BankSteps}
use Rattle.station_parts.specs.Words.{known_commands, answer_places}
use Rattle.ring_station.specs.declared.crew.BankRun.{BankRun}
use Rattle.ring_station.specs.declared.crew.PortRun.{PortRun}
use Rattle.ring_station.specs.declared.gate.Actor.{Actor}
use Rattle.ring_station.specs.declared.gate.Actor.TheVariants as actors
use Rattle.ring_station.specs.declared.idle.Turn.{Turn}
use Rattle.ring_station.specs.declared.idle.Turn.TheVariants.{Held}
use Rattle.ring_station.specs.declared.thread_end.ThreadEnd.{ThreadEnd}
use Rattle.ring_station.specs.declared.thread_end.ThreadFault.TheVariants.{TurnLimit}
use Rattle.ring_station.specs.Ends.{goes_on}
use Rattle.ring_station.specs.Idle.{turn_of, turn_of_all}
use Rattle.ring_station.specs.PortRuns.{FindsNothing}

-- a turn: if the gate says no the part stays as it is, whole; else it makes one step
abbrev pub IsTurn : {Part : Type 0} → (Part → Part → Stepped → Type 0) → Bool → Part → Part → Option Stepped → Type 0
IsTurn Step false old new None = new ≡ old
IsTurn Step true old new (Some stepped) = Step old new stepped
IsTurn Step may old new result = ⊥

-- the bank can serve nothing that it knows of
abbrev pub IsStuck : BankSide → Type 0
IsStuck bank = can_serve (known_commands bank) (answer_places bank) ≡ false

-- ---- of each part of a thread

-- so many parts, which come first, have had a turn, each of which came to one of these, and all of them to this; the others stand as
-- they did
pub record HadTurns {Part : Type 0} (HasTurn : ℕ → Part → Part → Option Turn → Type 0) (count : ℕ) (old new : List Part)
    (all : Option Turn) : Type 0 where
  pub made : List (Option Turn)
  pub number : length made ≡ count
  pub before : (k : ℕ) (d : Part) (m : Option Turn) → k < count
      → HasTurn k (slice_index_or old k d) (slice_index_or new k d) (slice_index_or made k m)
  pub behind : (k : ℕ) (d : Part) → count ≤ k → slice_index_or new k d ≡ slice_index_or old k d
  pub all_is : all ≡ turn_of_all made

-- what a bank's turn comes to: its run is over if the cache side has come to its end and the bank finds nothing to serve
abbrev pub bank_turn : Bool → Option Stepped → Option Turn
bank_turn true (Some Idle) = None
bank_turn is_done stepped = Some (turn_of stepped)

-- how a run that goes on stands behind a turn
abbrev pub end_behind : ℕ → Option Turn → ThreadEnd
end_behind turns None = record { turns = turns; fault = None }
end_behind turns (Some made) = record { turns = turns; fault = Some TurnLimit }

-- a bank whose run goes on asks the gate, and takes the turn that it allows
pub record BankTakesTurn (CanAnswer : Bool → Type 0) (is_done : Bool) (turn : ℕ) (old new : BankRun) (made : Option Turn) : Type 0 where
  pub may : Bool
  pub answered : CanAnswer may
  pub stepped : Option Stepped
  pub turn_is : IsTurn BankSteps may old.bank new.bank stepped
  pub made_is : made ≡ bank_turn is_done stepped
  pub end_is : new.end ≡ end_behind (turn + 1) made

-- one whose run is over has none
pub record BankHasTurn (CanAnswer : Bool → Type 0) (is_done : Bool) (turn : ℕ) (old new : BankRun) (made : Option Turn) : Type 0 where
  pub over : goes_on old.end.fault ≡ false → (new ≡ old) × (made ≡ None)
  pub on : goes_on old.end.fault ≡ true → BankTakesTurn CanAnswer is_done turn old new made

-- a turn of each bank of a thread, the first of which has this number
abbrev pub BanksHaveTurns : (Actor → Bool → Type 0) → ℕ → Bool → ℕ → List BankRun → List BankRun → Option Turn → Type 0
BanksHaveTurns CanAnswer start is_done turn old new all =
    HadTurns (λ k. BankHasTurn (CanAnswer (actors.Bank (start + k))) is_done turn) (length old) old new all

-- a port whose run goes on asks the gate: if it says no, all stays as it is but for its count of turns; else the port finds something to
-- do, or nothing
pub record PortTakesTurn (CanAnswer : Bool → Type 0) (old new : PortRun) (made : Option Turn) : Type 0 where
  pub may : Bool
  pub answered : CanAnswer may
  pub held : may ≡ false → (new.port ≡ old.port) × (new.list ≡ old.list) × (new.talk ≡ old.talk) × IfSome made (λ m. m ≡ Held)
  pub found : may ≡ true → IfSome made (λ m. FindsNothing m old.talk.phase new.port)

pub record PortHasTurn (CanAnswer : Bool → Type 0) (old new : PortRun) (made : Option Turn) : Type 0 where
  pub over : goes_on old.end.fault ≡ false → (new ≡ old) × (made ≡ None)
  pub on : goes_on old.end.fault ≡ true → PortTakesTurn CanAnswer old new made

abbrev pub PortsHaveTurns : (Actor → Bool → Type 0) → ℕ → List PortRun → List PortRun → Option Turn → Type 0
PortsHaveTurns CanAnswer start old new all =
    HadTurns (λ k. PortHasTurn (CanAnswer (actors.Port (start + k)))) (length old) old new all

-- ---- turn by turn

-- so many turns of the parts of a thread, behind so many that they have had
abbrev pub TakeTurns : {Part : Type 0} → (ℕ → List Part → List Part → Type 0) → ℕ → ℕ → List Part → List Part → Type 0
TakeTurns Takes had zero first last = last ≡ first
TakeTurns {Part} Takes had (suc count) first last =
    (before : List Part) × TakeTurns Takes had count first before × Takes (had + count) before last

-- they have them until they have had so many, or the runs of all are over
pub record TakeAllTurns {Part : Type 0} (Takes : ℕ → List Part → List Part → Type 0) (IsOver : Part → Type 0) (had turns : ℕ)
    (first last : List Part) : Type 0 where
  pub count : ℕ
  pub taken : TakeTurns Takes had count first last
  pub ended : (had + count ≡ turns) ⊎ All IsOver last

-- the thread of banks, the first of which has this number
abbrev pub BanksTakeTurns : (Actor → Bool → Type 0) → ℕ → ℕ → ℕ → List BankRun → List BankRun → Type 0
BanksTakeTurns CanAnswer start had turns first last =
    TakeAllTurns (λ turn old new. (is_done : Bool) × (all : Option Turn) × BanksHaveTurns CanAnswer start is_done turn old new all)
    (λ r. goes_on r.end.fault ≡ false) had turns first last

-- and of ports
abbrev pub PortsTakeTurns : (Actor → Bool → Type 0) → ℕ → ℕ → List PortRun → List PortRun → Type 0
PortsTakeTurns CanAnswer start turns first last =
    TakeAllTurns (λ turn old new. (all : Option Turn) × PortsHaveTurns CanAnswer start old new all) (λ r. goes_on r.end.fault ≡ false) 0
    turns first last
