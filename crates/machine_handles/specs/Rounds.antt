-- Requests that C has driven through a machine in rounds.
use Rattle.std.specs.Prelude.{◌≡◌, ◌≢◌, ℕ, ◌^◌, ◌-◌, nat_lt, Bool, if◌then◌else◌, List, map, length, Option, Some, None, min}
use Rattle.std.specs.Option.{option_map, unwrap_or}
use Rattle.std.specs.List.{list_all}
use Rattle.machine_core.specs.Words.{Event, Drain}
use Rattle.machine_core.specs.Machine.{MachineState}
use Rattle.round_driver.specs.declared.driving.TheConstants.{MOST_LATENCY}
use Rattle.round_driver.specs.declared.table.Table.{Table}
use Rattle.round_driver.specs.declared.timing.Timing.{Timing}
use Rattle.round_driver.specs.Rounds.{whole_run}
use Rattle.round_driver.specs.Stepping.{RoundsState}
use Rattle.round_driver.specs.Tables.{table_of}
use Rattle.round_driver.specs.Walks.{IsOverInTime}
use Rattle.flat_judge.specs.declared.rows.EventRow.{EventRow}
use Rattle.flat_judge.specs.Rows.{event_of}
use Rattle.machine_handles.specs.declared.rounds.TheConstants.{MOST_REQUESTS}
use Rattle.machine_handles.specs.declared.rounds.CountsRow.{CountsRow}
use Rattle.machine_handles.specs.declared.rounds.RoundsFault.{RoundsFault}
use Rattle.machine_handles.specs.declared.rounds.RoundsFault.TheVariants.{Closed, InRounds, NoRounds, BadLatency, TooMany, NoRequest}
use Rattle.machine_handles.specs.declared.rounds.RoundsFault.TheVariants.{OutOfMemory}
use Rattle.machine_handles.specs.Behind.{Standing}

-- ---- what is driven

-- a row that says a load, a store, a prefetch or an eviction
abbrev pub is_request_row : EventRow → Bool
is_request_row r = nat_lt r.kind 4

-- the request that it says
abbrev pub request_of : EventRow → Event
request_of r = unwrap_or (event_of r) Drain

abbrev pub requests_of : List EventRow → List Event
requests_of rows = map request_of rows

abbrev pub timing : ℕ → ℕ → Timing
timing latency busy = record { latency = latency; busy = busy }

-- why nothing is driven: none, where only memory can be wanting
unfoldable pub bad_rounds : ℕ → List EventRow → Option RoundsFault
bad_rounds latency rows =
    if nat_lt MOST_LATENCY latency then Some BadLatency else
    if nat_lt MOST_REQUESTS (length rows) then Some TooMany else
    if list_all is_request_row rows then None else Some NoRequest

-- where other rounds are under way, and where not
abbrev pub fault_beside : Option RoundsState → ℕ → List EventRow → Option RoundsFault
fault_beside (Some r) latency rows = Some InRounds
fault_beside None latency rows = bad_rounds latency rows

abbrev pub rounds_fault : Option Standing → ℕ → List EventRow → Option RoundsFault
rounds_fault None latency rows = Some Closed
rounds_fault (Some b) latency rows = fault_beside b.rounds latency rows

abbrev pub why_not : Option RoundsFault → RoundsFault
why_not (Some fault) = fault
why_not None = OutOfMemory

-- ---- what it leaves

-- the counts of a run as a row: the waits are told up to the highest number of 64 bits
abbrev pub counts_row : Table → CountsRow
counts_row t =
    record {
      rounds = t.rounds;
      accepted = t.accepted;
      denied = t.denied;
      hits = t.hits;
      joins = t.joins;
      misses = t.misses;
      stalled = t.stalled;
      lost_tag_in_use = t.lost.tag_in_use;
      lost_replies_full = t.lost.replies_full;
      lost_targets_full = t.lost.targets_full;
      lost_no_register = t.lost.no_register;
      lost_set_pending = t.lost.set_pending;
      lost_queue_full = t.lost.queue_full;
      lost_bank_full = t.lost.bank_full;
      values = t.values;
      waited = min t.waited (2 ^ 64 - 1);
      longest = t.longest;
      written = t.written;
      registers = t.registers;
    }

-- the counts of these requests, and the machine behind them, by the machine before them
abbrev pub counted : ℕ → ℕ → List EventRow → Option MachineState → Option CountsRow
counted latency busy rows m = option_map (λ s. counts_row (table_of (timing latency busy) s (requests_of rows))) m

abbrev pub driven : ℕ → ℕ → List EventRow → Option MachineState → Option MachineState
driven latency busy rows m = option_map (λ s. (whole_run (timing latency busy) s (requests_of rows)).state) m

-- the requests are used up, and nothing is on its way
abbrev pub IsDriven : ℕ → ℕ → List EventRow → Option MachineState → Type 0
IsDriven latency busy rows None = Unit {0}
IsDriven latency busy rows (Some s) = IsOverInTime (timing latency busy) s (requests_of rows)

-- ---- how C is told

abbrev pub rounds_number : RoundsFault → ℕ
rounds_number Closed = 100
rounds_number OutOfMemory = 101
rounds_number NoRounds = 106
rounds_number InRounds = 107
rounds_number BadLatency = 131
rounds_number TooMany = 132
rounds_number NoRequest = 147

-- C is told of a fault by its number, and of none by 0, where there was memory
abbrev pub IsToldOfRounds : ℕ → Option RoundsFault → Type 0
IsToldOfRounds status (Some fault) = status ≡ rounds_number fault
IsToldOfRounds status None = status ≢ rounds_number OutOfMemory → status ≡ 0
