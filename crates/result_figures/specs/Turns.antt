-- What is seen of a run, turn by turn: of its rounds, or of the events of a trace.
use Rattle.std.specs.Prelude.{ℕ, ◌/◌, ◌==◌, ◌&&◌, not, Bool, false, if◌then◌else◌, Option, Some, None, List, [], ◌∷◌, ◌++◌, map}
use Rattle.std.specs.Option.{option_to_list}
use Rattle.std.specs.List.{list_any, range_with_len}
use Rattle.flat_model.specs.declared.limits.TheConstants.{MAX_REGS}
use Rattle.machine_core.specs.Words.{Answer, Accepted, Event, Load, Store, Prefetch, Lookup, Miss, RegisterView, Sizes}
use Rattle.machine_core.specs.Views.{register_view}
use Rattle.machine_core.specs.Machine.{MachineState}
use Rattle.round_driver.specs.declared.note.Note.{Note}
use Rattle.round_driver.specs.declared.stepping.RoundReport.{RoundReport}
use Rattle.result_figures.specs.declared.seen.Flight.{Flight}
use Rattle.result_figures.specs.declared.seen.Seen.{Seen}

-- ---- blocks in flight

-- a register that fetches a block for its frame
abbrev pub fetches : ℕ → Option RegisterView → Bool
fetches block None = false
fetches block (Some r) = r.valid && (not r.obsolete && r.block == block)

unfoldable pub is_fetched_in : MachineState → (slot block : ℕ) → Bool
is_fetched_in s slot block = fetches block (register_view s.machine.cache slot)

unfoldable pub is_fetched : MachineState → (block : ℕ) → Bool
is_fetched s block = list_any (λ slot. is_fetched_in s slot block) (range_with_len 0 MAX_REGS)

-- A block is in flight up to the first turn that leaves it whole, or without a frame.
abbrev pub landed_if : (fetched : Bool) (turn : ℕ) → Flight → Option ℕ → Flight
landed_if fetched turn f (Some to) = f
landed_if fetched turn f None = if fetched then f else record { block = f.block; from = f.from; to = Some turn }

abbrev pub landed : MachineState → (turn : ℕ) → Flight → Flight
landed s turn f = landed_if (is_fetched s f.block) turn f f.to

abbrev pub address_in : Event → Option ℕ
address_in (Load tag at) = Some at
address_in (Store at word lanes) = Some at
address_in (Prefetch at) = Some at
address_in event = None

-- the address for which an accepted miss sends
abbrev pub address_of_miss : Answer → Option Lookup → Event → Option ℕ
address_of_miss Accepted (Some Miss) event = address_in event
address_of_miss answer found event = None

abbrev pub sent_for : Note → Option ℕ
sent_for n = address_of_miss n.answer n.found n.event

abbrev pub flight_to : Sizes → Note → Option ℕ → Option Flight
flight_to z n (Some at) = Some (record { block = at / z.block_words; from = n.round; to = None })
flight_to z n None = None

abbrev pub flight_of : Sizes → Note → Option Flight
flight_of z n = flight_to z n (sent_for n)

abbrev pub flights_of : Sizes → Option Note → List Flight
flights_of z None = []
flights_of z (Some n) = option_to_list (flight_of z n)

-- ---- a turn

pub record Sight : Type 0 where
  pub turns : ℕ
  pub notes : List Note
  pub flights : List Flight

abbrev pub sight_of : Seen → Sight
sight_of seen = record { turns = seen.turns; notes = seen.notes.items; flights = seen.flights.items }

abbrev pub nothing_seen : Sight
nothing_seen = record { turns = 0; notes = []; flights = [] }

-- a turn answers a load before it asks
abbrev pub notes_in : RoundReport → List Note
notes_in report = option_to_list report.answered ++ option_to_list report.asked

-- what was seen behind a turn, of which this is told, and which left the machine so
abbrev pub sight_behind : MachineState → (turn : ℕ) → RoundReport → Sight → Sight
sight_behind s turn report sight =
    record {
      turns = turn;
      notes = sight.notes ++ notes_in report;
      flights = map (landed s turn) sight.flights ++ flights_of s.sizes report.asked;
    }
