-- What a run makes of a port.
use Rattle.std.specs.Prelude.{◌≡◌, ℕ, ◌+◌, ◌<◌, ◌≤◌, ◌++◌, false, List, [], length, slice_index_or}
use Rattle.std.specs.Global.{Vec}
use Rattle.std.specs.List.{All}
use Rattle.station_journal.specs.declared.asks.Ask.{Ask}
use Rattle.station_journal.specs.declared.asks.Told.{Told}
use Rattle.station_journal.specs.Conversation.{Converses}
use Rattle.station_parts.specs.declared.port.Port.{Port}
use Rattle.station_parts.specs.Ids.{port_id}
use Rattle.station_parts.specs.Words.{offered, offered_before, taken, known_places, known_tellings, has_ended}
use Rattle.ring_station.specs.declared.idle.Turn.{Turn}
use Rattle.ring_station.specs.declared.idle.Turn.TheVariants.{Moved, Held, Idle}
use Rattle.ring_station.specs.declared.talk.Phase.{Phase}
use Rattle.ring_station.specs.declared.talk.Phase.TheVariants.{Offering, Awaiting, Closing, Astray}
use Rattle.ring_station.specs.declared.talk.Talk.{Talk}
use Rattle.ring_station.specs.declared.thread_end.ThreadEnd.{ThreadEnd}
use Rattle.ring_station.specs.Ends.{HasEnded}
use Rattle.ring_station.specs.Scripts.{HasTalked}

-- how many items have gone over the two rings of a port
abbrev pub moves_of : Port → ℕ
moves_of port = length (offered port) + length (taken port)

-- one in a turn in which something was done
abbrev pub moves_in : Turn → ℕ
moves_in Moved = 1
moves_in Held = 0
moves_in Idle = 0

-- a turn in which nothing was done: the port had no place for its ask, as far as it knows, or had ended; or it knows of no
-- telling. One that is astray does nothing more
abbrev pub FindsNothing : Turn → Phase → Port → Type 0
FindsNothing Idle Offering port = has_ended port ≡ false → known_places port ≡ 0
FindsNothing Idle Awaiting port = known_tellings port ≡ []
FindsNothing Idle Closing port = known_tellings port ≡ []
FindsNothing Idle Astray port = Unit {0}
FindsNothing Moved phase port = Unit {0}
FindsNothing Held phase port = ⊥

-- a port on its way: what it has offered since the run began is what its script and its tellings
-- call for, and what it has taken since then stands in the list
pub record IsOnItsWay (script : List Ask) (talk : Talk) (first port : Port) (list : List Told) : Type 0 where
  pub same : port_id port ≡ port_id first
  pub before : offered_before port ≡ offered_before first
  pub said : List Ask
  pub offered_is : offered port ≡ offered first ++ said
  pub taken_is : taken port ≡ taken first ++ list
  pub talked : HasTalked script talk.phase talk.next talk.owed said list

-- between these two the port offered its whole script, then Done, and took these tellings. It didn't begin again
pub record HasRun (script : List Ask) (first port : Port) (list : List Told) : Type 0 where
  pub before : offered_before port ≡ offered_before first
  pub said : List Ask
  pub offered_is : offered port ≡ offered first ++ said
  pub taken_is : taken port ≡ taken first ++ list
  pub converses : Converses script said list

-- the same of each port, with its script and its list
pub record HaveRun (scripts : List (Vec Ask)) (old new : List Port) (lists : List (Vec Told)) : Type 0 where
  pub number : length lists ≡ length old
  pub each : (p : ℕ) (s : Vec Ask) (d : Port) (l : Vec Told) → p < length old
      → HasRun (slice_index_or scripts p s).items (slice_index_or old p d) (slice_index_or new p d) (slice_index_or lists p l).items

-- the thread of a port with so many turns: its list is what it took, however it ended, and at most one item went over its
-- rings in each turn that it began; if it came to its end it has run its script. It has no journal
pub record PortRan (script : List Ask) (turns : ℕ) (old new : Port) (list : List Told) (end : ThreadEnd) : Type 0 where
  pub same : port_id new ≡ port_id old
  pub before : offered_before new ≡ offered_before old
  pub took : taken new ≡ taken old ++ list
  pub moved : moves_of new ≤ moves_of old + end.turns
  pub ended : HasEnded (HasRun script old new list) (0 < end.turns) ⊥ turns end

-- the gate has heard each telling of these lists, one of each port
abbrev pub AreHeard : (ℕ → Told → Type 0) → List (Vec Told) → Type 0
AreHeard HasHeard lists = (p : ℕ) (l : Vec Told) → p < length lists → All (HasHeard p) (slice_index_or lists p l).items

-- each port
pub record PortsRan (scripts : List (Vec Ask)) (turns : ℕ) (old new : List Port) (lists : List (Vec Told)) (ends : List ThreadEnd) : Type 0
  where
    pub number : length new ≡ length old
    pub listed : length lists ≡ length old
    pub ended : length ends ≡ length old
    pub each : (p : ℕ) (s : Vec Ask) (d : Port) (l : Vec Told) (e : ThreadEnd) → p < length old
        → PortRan (slice_index_or scripts p s).items turns (slice_index_or old p d) (slice_index_or new p d)
        (slice_index_or lists p l).items (slice_index_or ends p e)
