-- What a run and the renewal behind it make of a station, and what many of them make of it.
use Rattle.std.specs.Prelude.{◌≡◌, ◌≢◌, ℕ, zero, suc, ◌+◌, ◌*◌, ◌<◌, ◌≤◌, max, ◌⊎◌, ◌++◌, false, List, [], ◌∷◌, map, take, drop, length}
use Rattle.std.specs.Prelude.{slice_index_or}
use Rattle.std.specs.Global.{Vec}
use Rattle.std.specs.Int.{div_ceil}
use Rattle.std.specs.List.{All, fold, flat_map}
use Rattle.station_journal.specs.declared.asks.Ask.{Ask}
use Rattle.station_journal.specs.declared.asks.Told.{Told}
use Rattle.station_journal.specs.declared.journal.Entry.{Entry}
use Rattle.station_journal.specs.Conversation.{Converses}
use Rattle.station_parts.specs.declared.port.Port.{Port}
use Rattle.station_parts.specs.declared.parts.CacheSide.{CacheSide}
use Rattle.station_parts.specs.declared.parts.Station.{Station}
use Rattle.station_parts.specs.declared.make.TheConstants.{MAX_NOTED}
use Rattle.station_parts.specs.declared.parts.Audit.TheVariants.{Clean}
use Rattle.station_parts.specs.declared.renewal.RenewFault.{RenewFault}
use Rattle.station_parts.specs.declared.renewal.RenewFault.TheVariants as unrenewed
use Rattle.station_parts.specs.Audited.{audit_of}
use Rattle.station_parts.specs.Renewed.{noted_after}
use Rattle.station_parts.specs.Ids.{port_id}
use Rattle.station_parts.specs.Words.{offered, offered_before, taken, has_ended, earlier_of, held_of}
use Rattle.ring_station.specs.declared.fault.RunFault.TheVariants.{OutOfMemory}
use Rattle.ring_station.specs.declared.fault.SegmentFault.{SegmentFault}
use Rattle.ring_station.specs.declared.fault.SegmentFault.TheVariants.{Run, Renewal}
use Rattle.ring_station.specs.declared.segment.Segment.{Segment}
use Rattle.ring_station.specs.PortRuns.{AreHeard, HaveRun}
use Rattle.ring_station.specs.Run.{FailsBy}
use Rattle.ring_station.specs.Within.{KeepsTo}

-- ---- one run

-- between these two the port offered its whole script, then Done, and took these tellings; and it may offer again
pub record HasRunOn (script : List Ask) (first port : Port) (list : List Told) : Type 0 where
  pub said : List Ask
  pub offered_is : offered port ≡ offered first ++ said
  pub taken_is : taken port ≡ taken first ++ list
  pub converses : Converses script said list
  pub before : offered_before port ≡ offered port
  pub again : has_ended port ≡ false

-- the same of each port, with its script and its list
pub record HaveRunOn (scripts : List (Vec Ask)) (old new : List Port) (lists : List (Vec Told)) : Type 0 where
  pub number : length lists ≡ length old
  pub each : (p : ℕ) (s : Vec Ask) (d : Port) (l : Vec Told) → p < length old
      → HasRunOn (slice_index_or scripts p s).items (slice_index_or old p d) (slice_index_or new p d) (slice_index_or lists p l).items

-- the journal at hand was handed out behind those that were handed out before, and an empty one is begun
pub record HandsOut (old new : CacheSide) (segment : List Entry) : Type 0 where
  pub earlier : earlier_of new ≡ earlier_of old ++ segment
  pub held : held_of new ≡ []

-- why a station isn't renewed, as it stands: it would note too many entries, memory was short, or an audit of it finds this
abbrev pub IsNotRenewed : Station → RenewFault → Type 0
IsNotRenewed station unrenewed.WornOut = MAX_NOTED < noted_after station.cache
IsNotRenewed station unrenewed.OutOfMemory = noted_after station.cache ≤ MAX_NOTED
IsNotRenewed station (unrenewed.NotClean found) =
    (noted_after station.cache ≤ MAX_NOTED) × (found ≡ audit_of station.cache station.ports.items station.banks.items) × (found ≢ Clean)

abbrev pub TellsRenewal : Station → SegmentFault → Type 0
TellsRenewal station (Run fault) = Unit {0}
TellsRenewal station (Renewal fault) = IsNotRenewed station fault

-- a renewal's fault comes behind a run that came to its end: each port offered its whole script, then Done
abbrev pub ComesToRenewal : List (Vec Ask) → List Port → List Port → SegmentFault → Type 0
ComesToRenewal scripts old new (Run fault) = Unit {0}
ComesToRenewal scripts old new (Renewal fault) = (lists : List (Vec Told)) × HaveRun scripts old new lists

-- a run's fault is that of what it came to
abbrev pub TellsRun : List (Vec Ask) → ℕ → Station → Station → SegmentFault → Type 0
TellsRun scripts turns old new (Run fault) = FailsBy scripts turns old new fault
TellsRun scripts turns old new (Renewal fault) = Unit {0}

-- the gate has heard each telling of these segments
abbrev pub EachIsHeard : (ℕ → Told → Type 0) → List Segment → Type 0
EachIsHeard HasHeard segments = All (λ segment. AreHeard HasHeard segment.lists.items) segments

-- ---- one of many runs: of each script the next so many asks, behind those that were run before

abbrev pub piece_behind : ℕ → ℕ → List Ask → List Ask
piece_behind begin asks script = take asks (drop begin script)

-- each port ran the next piece of its script, and its list in the segment is what it took
pub record HaveRunNext (begin asks : ℕ) (scripts : List (Vec Ask)) (old new : List Port) (segment : Segment) : Type 0 where
  pub number : length segment.lists.items ≡ length old
  pub each : (p : ℕ) (s : Vec Ask) (d : Port) (l : Vec Told) → p < length old
      → HasRunOn (piece_behind begin asks (slice_index_or scripts p s).items) (slice_index_or old p d) (slice_index_or new p d)
      (slice_index_or segment.lists.items p l).items

-- and the segment was handed out
pub record HandsOutNext (begin asks : ℕ) (scripts : List (Vec Ask)) (old new : Station) (segment : Segment) : Type 0
  where
    pub ran : HaveRunNext begin asks scripts old.ports.items new.ports.items segment
    pub journal : HandsOut old.cache new.cache segment.journal.items

-- and kept
pub record RunsNext (begin asks : ℕ) (scripts : List (Vec Ask)) (old new : Station)
    (kept : List Segment → Type 0) : Type 0
  where
    pub segment : Segment
    pub kept_is : kept (segment ∷ [])
    pub handed_out : HandsOutNext begin asks scripts old new segment

-- nothing was kept: nothing was handed out, or what was handed out found no memory
pub record StopsNext (begin asks : ℕ) (scripts : List (Vec Ask)) (old new : Station)
    (kept : List Segment → Type 0) (fault : SegmentFault) : Type 0
  where
    pub kept_is : kept []
    pub handed_out : (earlier_of new.cache ≡ earlier_of old.cache)
        ⊎ ((segment : Segment) × (HandsOutNext begin asks scripts old new segment × (fault ≡ Run OutOfMemory)))

-- why the next run failed: memory was short for the pieces, and nothing has moved; or the run of the pieces failed by its own fault;
-- or the keeper found no memory for the segment
abbrev pub FailsNext : ℕ → ℕ → ℕ → List (Vec Ask) → Station → Station → SegmentFault → Type 0
FailsNext begin asks turns scripts old new fault =
    ((fault ≡ Run OutOfMemory) × (new ≡ old))
    ⊎ (((pieces : List (Vec Ask))
    × (map (λ p. p.items) pieces ≡ map (λ s. piece_behind begin asks s.items) scripts) × TellsRun pieces turns old new fault)
    ⊎ ((segment : Segment) × HandsOutNext begin asks scripts old new segment × (fault ≡ Run OutOfMemory)))

-- ---- many runs, with a renewal behind each

-- the first pieces of a script, so many: each has so many asks, as long as there are as many left
abbrev pub pieces_of : ℕ → List Ask → ℕ → List (List Ask)
pieces_of asks script zero = []
pieces_of asks script (suc number) = take asks script ∷ pieces_of asks (drop asks script) number

-- one behind the other
abbrev pub joined : {A : Type 0} → List (List A) → List A
joined lists = flat_map (λ list. list) lists

-- each piece with what was offered and taken of it
abbrev pub EachConverses : List (List Ask) → List (List Ask) → List (List Told) → Type 0
EachConverses [] [] [] = Unit {0}
EachConverses (piece ∷ pieces) (said ∷ more) (list ∷ lists) = Converses piece said list × EachConverses pieces more lists
EachConverses pieces said lists = ⊥

-- between these two the port offered these pieces, each to its end and Done behind it, and took of each one of these lists
pub record HasRunPieces (pieces : List (List Ask)) (first port : Port) (lists : List (List Told)) : Type 0 where
  pub said : List (List Ask)
  pub converses : EachConverses pieces said lists
  pub offered_is : offered port ≡ offered first ++ joined said
  pub taken_is : taken port ≡ taken first ++ joined lists

-- what the port of a number took in each of these segments; and their journals, one behind the other
abbrev pub lists_at : ℕ → Vec Told → List Segment → List (List Told)
lists_at p l segments = map (λ segment. (slice_index_or segment.lists.items p l).items) segments

abbrev pub journals_of : List Segment → List Entry
journals_of segments = flat_map (λ segment. segment.journal.items) segments

-- in these segments each port ran as many pieces of its script
pub record HaveRunPieces (asks : ℕ) (scripts : List (Vec Ask)) (old new : List Port) (segments : List Segment) : Type 0 where
  pub listed : All (λ segment. length segment.lists.items ≡ length old) segments
  pub each : (p : ℕ) (s : Vec Ask) (d : Port) (l : Vec Told) → p < length old
      → HasRunPieces (pieces_of asks (slice_index_or scripts p s).items (length segments)) (slice_index_or old p d) (slice_index_or new p d)
      (lists_at p l segments)

-- how many asks the longest script has; and into how many pieces it is cut, at least one
abbrev pub longest_of : List (Vec Ask) → ℕ
longest_of scripts = fold (λ longest script. max longest (length script.items)) 0 scripts

abbrev pub piece_count : ℕ → List (Vec Ask) → ℕ
piece_count asks scripts = max (div_ceil (longest_of scripts) asks) 1

-- the scripts were run in segments, all of which were kept, and behind the last one nothing of them is left; `kept` says of segments
-- that these were kept and no others
pub record RunsInSegments (asks : ℕ) (scripts : List (Vec Ask)) (old new : Station)
    (kept : List Segment → Type 0) : Type 0
  where
    pub segments : List Segment
    pub kept_is : kept segments
    pub number : length segments ≡ piece_count asks scripts
    pub ran : HaveRunPieces asks scripts old.ports.items new.ports.items segments
    pub whole : All (λ script. joined (pieces_of asks script.items (length segments)) ≡ script.items) scripts
    pub journals : HandsOut old.cache new.cache (journals_of segments)
    -- and each port may offer again
    pub again : All (λ port. (offered_before port ≡ offered port) × (has_ended port ≡ false)) new.ports.items

-- what was handed out and not kept: the last segment at most, and only for want of memory
abbrev pub MayBeLost : SegmentFault → List Segment → Type 0
MayBeLost fault [] = Unit {0}
MayBeLost fault (segment ∷ []) = fault ≡ Run OutOfMemory
MayBeLost fault (segment ∷ more) = ⊥

-- the runs stopped behind these segments, which were kept but for one that may be lost; what the ports did behind the last
-- renewal isn't said
pub record StopsBehind (asks : ℕ) (scripts : List (Vec Ask)) (old new : Station)
    (kept : List Segment → Type 0) (fault : SegmentFault) : Type 0
  where
    pub segments : List Segment
    pub lost : List Segment
    pub kept_is : kept segments
    pub lost_is : MayBeLost fault lost
    pub handed_out : earlier_of new.cache ≡ earlier_of old.cache ++ journals_of (segments ++ lost)
    -- the ports as that renewal left them
    pub ports : List Port
    pub same : map port_id ports ≡ map port_id old.ports.items
    pub ran : HaveRunPieces asks scripts old.ports.items ports (segments ++ lost)

-- ---- and to what their turns keep them

-- from the one station to the other by runs, one behind the other, each of which kept to its turns and gave one of these segments:
-- the first of them of the pieces behind so many asks
abbrev pub EachKeepsTo : ℕ → ℕ → ℕ → List (Vec Ask) → Station → Station → List Segment → Type 0
EachKeepsTo turns begin asks scripts old new [] = new ≡ old
EachKeepsTo turns begin asks scripts old new (segment ∷ more) =
    (next : Station) × HandsOutNext begin asks scripts old next segment × KeepsTo turns old next
    × EachKeepsTo turns (begin + asks) asks scripts next new more

-- the scripts were run so to their end, and the segments kept
pub record RunsInTurns (turns asks : ℕ) (scripts : List (Vec Ask)) (old new : Station)
    (kept : List Segment → Type 0) : Type 0
  where
    pub segments : List Segment
    pub kept_is : kept segments
    pub number : length segments ≡ piece_count asks scripts
    pub each : EachKeepsTo turns 0 asks scripts old new segments

-- the runs stopped behind these segments, and one that stopped has kept to its turns too
pub record StopsInTurns (turns asks : ℕ) (scripts : List (Vec Ask)) (old new : Station)
    (kept : List Segment → Type 0) (fault : SegmentFault) : Type 0
  where
    pub segments : List Segment
    pub lost : List Segment
    pub kept_is : kept segments
    pub lost_is : MayBeLost fault lost
    -- the station as the last renewal left it
    pub renewed : Station
    pub each : EachKeepsTo turns 0 asks scripts old renewed (segments ++ lost)
    pub since : KeepsTo turns renewed new

-- behind runs to these segments the next one failed
pub record FailsBehind (turns asks : ℕ) (scripts : List (Vec Ask)) (old new : Station) (fault : SegmentFault) : Type 0
  where
    pub segments : List Segment
    pub renewed : Station
    pub each : EachKeepsTo turns 0 asks scripts old renewed segments
    pub fails : FailsNext (length segments * asks) asks turns scripts renewed new fault
