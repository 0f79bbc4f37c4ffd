-- What a run of the threads makes of the ports and the banks.
use Rattle.std.specs.Prelude.{◌≡◌, ℕ, ◌+◌, ◌*◌, ◌<◌, ◌≤◌, max, true, List, [], length, slice_index_or}
use Rattle.std.specs.Global.{Vec}
use Rattle.std.specs.Fork.{slice_chunk}
use Rattle.std.specs.Int.{div_ceil}
use Rattle.std.specs.List.{All}
use Rattle.station_journal.specs.declared.asks.Ask.{Ask}
use Rattle.station_journal.specs.declared.asks.Told.{Told}
use Rattle.ring_station.specs.declared.crew.PortRun.{PortRun}
use Rattle.ring_station.specs.declared.crew.BankRun.{BankRun}
use Rattle.station_parts.specs.declared.port.Port.{Port}
use Rattle.station_parts.specs.declared.bank.BankSide.{BankSide}
use Rattle.ring_station.specs.declared.talk.Phase.TheVariants.{Offering, Awaiting}
use Rattle.ring_station.specs.Ends.{goes_on, not_begun}
use Rattle.ring_station.specs.Scripts.{HasTalked}
use Rattle.ring_station.specs.PortRuns.{PortRan, IsOnItsWay}
use Rattle.ring_station.specs.PartRuns.{BankRan}

-- how many parts each of so many threads has that share them: as many as the others, but for the last one, which has what is left
abbrev pub parts_a_thread : ℕ → ℕ → ℕ
parts_a_thread parts threads = max (div_ceil parts (max threads 1)) 1

-- each of so many threads, among which the parts are shared out, did this with its share, from the place on at which that begins
abbrev pub EachShare : {Part : Type 0} → (ℕ → List Part → List Part → Type 0) → ℕ → List Part → List Part → Type 0
EachShare Does threads old new = (n : ℕ) → n * parts_a_thread (length old) threads < length old
    → Does (n * parts_a_thread (length old) threads) (slice_chunk old (parts_a_thread (length old) threads) n)
    (slice_chunk new (parts_a_thread (length old) threads) n)

-- a port ran this script in so many turns
abbrev pub RanScript : List Ask → ℕ → PortRun → PortRun → Type 0
RanScript script turns old new = PortRan script turns old.port new.port new.list.items new.end

-- each port ran its script
pub record EachRanScript (scripts : List (Vec Ask)) (turns : ℕ) (old new : List PortRun) : Type 0 where
  pub number : length new ≡ length old
  pub each : (p : ℕ) (s : Vec Ask) (d : PortRun) → p < length old
      → RanScript (slice_index_or scripts p s).items turns (slice_index_or old p d) (slice_index_or new p d)

-- the same of the ports of a thread, the first of which has this number
pub record EachRanFrom (scripts : List (Vec Ask)) (start turns : ℕ) (old new : List PortRun) : Type 0 where
  pub number : length new ≡ length old
  pub each : (k : ℕ) (s : Vec Ask) (d : PortRun) → k < length old
      → RanScript (slice_index_or scripts (start + k) s).items turns (slice_index_or old k d) (slice_index_or new k d)

-- the gate has heard each telling in the lists of these ports, the first of which has this number
abbrev pub EachHeard : (ℕ → Told → Type 0) → ℕ → List PortRun → Type 0
EachHeard HasHeard start runs = (k : ℕ) (d : PortRun) → k < length runs → All (HasHeard (start + k)) (slice_index_or runs k d).list.items

-- the run of a port that hasn't begun
pub record HasNotBegun (run : PortRun) : Type 0 where
  pub list : run.list.items ≡ []
  pub end : run.end ≡ not_begun
  pub phase : run.talk.phase ≡ Offering
  pub owed : run.talk.owed ≡ 0
  pub talked : (script : List Ask) → HasTalked script run.talk.phase run.talk.next run.talk.owed [] []

-- a run that hasn't begun, with more room in its list
pub record IsSameRun (old new : PortRun) : Type 0 where
  pub port : new.port ≡ old.port
  pub talk : new.talk ≡ old.talk
  pub end : new.end ≡ old.end
  pub list : new.list.items ≡ old.list.items

pub record EachIsSame (old new : List PortRun) : Type 0 where
  pub number : length new ≡ length old
  pub each : (p : ℕ) (d : PortRun) → p < length old → IsSameRun (slice_index_or old p d) (slice_index_or new p d)

-- each bank ran in so many turns
pub record EachServed (turns : ℕ) (old new : List BankRun) : Type 0 where
  pub number : length new ≡ length old
  pub each : (b : ℕ) (d : BankRun) → b < length old
      → BankRan turns (slice_index_or old b d).bank (slice_index_or new b d).bank (slice_index_or new b d).end

-- ---- turn by turn

-- what a port's next turn needs behind so many: it waits for a verdict on an ask of its script alone
pub record IsReady (script : List Ask) (turn : ℕ) (run : PortRun) : Type 0 where
  pub owed : run.talk.owed ≤ turn
  pub placed : run.talk.phase ≡ Awaiting → run.talk.next < length script

pub record EachIsReady (scripts : List (Vec Ask)) (start turn : ℕ) (runs : List PortRun) : Type 0 where
  pub each : (k : ℕ) (s : Vec Ask) (d : PortRun) → k < length runs
      → IsReady (slice_index_or scripts (start + k) s).items turn (slice_index_or runs k d)

-- behind so many turns the run of a port, which was so before the first, stands as one that was given no more; and if it
-- goes on the port is on its way
pub record HasCome (script : List Ask) (turn : ℕ) (first : Port) (run : PortRun) : Type 0 where
  pub ran : PortRan script turn first run.port run.list.items run.end
  pub ready : IsReady script turn run
  pub on : goes_on run.end.fault ≡ true → IsOnItsWay script run.talk first run.port run.list.items

-- a run that has come behind so many turns has come behind one more
abbrev pub GoesOn : List Ask → ℕ → PortRun → PortRun → Type 0
GoesOn script turn old new = (first : Port) → HasCome script turn first old → HasCome script (turn + 1) first new

pub record EachGoesOn (scripts : List (Vec Ask)) (start turn : ℕ) (old new : List PortRun) : Type 0 where
  pub number : length new ≡ length old
  pub each : (k : ℕ) (s : Vec Ask) (d : PortRun) → k < length old
      → GoesOn (slice_index_or scripts (start + k) s).items turn (slice_index_or old k d) (slice_index_or new k d)

-- the same of a bank
abbrev pub ServesOn : ℕ → BankRun → BankRun → Type 0
ServesOn turn old new = (first : BankSide) → BankRan turn first old.bank old.end → BankRan (turn + 1) first new.bank new.end

pub record EachServesOn (turn : ℕ) (old new : List BankRun) : Type 0 where
  pub number : length new ≡ length old
  pub each : (b : ℕ) (d : BankRun) → b < length old → ServesOn turn (slice_index_or old b d) (slice_index_or new b d)
