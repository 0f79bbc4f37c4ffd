-- What a new station is: nothing was pushed or popped, and each pushing end knows that all places are free.
use Rattle.std.specs.Prelude.{◌≡◌, ℕ, ◌<◌, List, [], length, map, replicate, Option, Some, None, not, if◌then◌else◌}
use Rattle.std.specs.Option.{option_or}
use Rattle.std.specs.List.{All, range_with_len}
use Rattle.std.specs.declared.alloc.Global.{Global}
use Rattle.rtrb.specs.Ring.{sent, received, known_free, known_items}
use Rattle.rtrb.specs.declared.producer.Producer.{Producer}
use Rattle.rtrb.specs.declared.consumer.Consumer.{Consumer}
use Rattle.rtrb.specs.declared.AnyItems.{AnyItems}
use Rattle.flat_model.specs.Words.{zero_word}
use Rattle.flat_model.specs.declared.ShapeField.{ShapeField}
use Rattle.flat_model.specs.declared.ShapeField.TheVariants.{Ports, Journal}
use Rattle.flat_model.specs.Ranges.{is_between}
use Rattle.memory_banks.specs.declared.BankAnswer.{BankAnswer}
use Rattle.memory_banks.specs.Banks.{share_of}
use Rattle.cache_law.specs.declared.Sizes.{Sizes}
use Rattle.cache_law.specs.State.{opening_cache}
use Rattle.cache_unit.specs.Limits as limits
use Rattle.station_journal.specs.declared.asks.Ask.{Ask}
use Rattle.station_journal.specs.declared.asks.Told.{Told}
use Rattle.station_parts.specs.declared.port.TheConstants.{ASK_PLACES, TELLING_PLACES}
use Rattle.station_parts.specs.declared.make.TheConstants.{MAX_PORTS, MAX_ENTRIES}
use Rattle.station_parts.specs.declared.port.Port.{Port}
use Rattle.station_parts.specs.declared.row.Line.{Line}
use Rattle.station_parts.specs.declared.bank.BankSide.{BankSide}
use Rattle.station_parts.specs.declared.parts.CacheSide.{CacheSide}
use Rattle.station_parts.specs.Rings.{pushes_to, pops_from}
use Rattle.station_parts.specs.Ids.{PortId, BankId, line_ring, port_id, bank_id}
use Rattle.station_parts.specs.Station.{AreOneStation}
use Rattle.station_parts.specs.Words.{offered, offered_before, taken, known_places, known_tellings, received_by, sent_by, words_of}
use Rattle.station_parts.specs.Words.{known_commands, answer_places, journal_of, journal_limit, fault_in, sizes_in, cache_in, ports_in}
use Rattle.station_parts.specs.Words.{asked_at, told_at, known_asks, telling_places, commands_at, words_at, known_words, command_places}

-- the first of the station's own numbers that is out of its range
abbrev pub bad_count : ℕ → ℕ → Option ShapeField
bad_count ports journal =
    if not (is_between ports 1 MAX_PORTS) then Some Ports
    else (if not (is_between journal 1 MAX_ENTRIES) then Some Journal else None)

-- the first number that is out of its range: those of the unit, then the ports, then the journal
abbrev pub bad_size : Sizes → ℕ → ℕ → Option ShapeField
bad_size z ports journal = option_or (limits.bad_size z) (bad_count ports journal)

-- the same where four numbers of the unit stand in a type
abbrev pub bad_field : Sizes → ℕ → ℕ → Option ShapeField
bad_field z ports journal = option_or (limits.bad_field z) (bad_count ports journal)

pub record IsNewPort (p : Port) : Type 0 where
  pub offered : offered p ≡ []
  pub before : offered_before p ≡ []
  pub taken : taken p ≡ []
  pub tellings : known_tellings p ≡ []
  pub places : known_places p ≡ ASK_PLACES

pub record IsNewBank (queue : ℕ) (b : BankSide) : Type 0 where
  pub received : received_by b ≡ []
  pub sent : sent_by b ≡ []
  pub words : words_of b ≡ replicate (length (words_of b)) zero_word
  pub commands : known_commands b ≡ []
  pub places : answer_places b ≡ queue

pub record IsNewCache (z : Sizes) (count entries : ℕ) (c : CacheSide) : Type 0 where
  pub journal : journal_of c ≡ []
  pub limit : journal_limit c ≡ entries
  pub fault : fault_in c ≡ None
  pub sizes : sizes_in c ≡ z
  pub cache : cache_in c ≡ opening_cache z
  pub ports : ports_in c ≡ count
  pub asked : (p : ℕ) → asked_at c p ≡ []
  pub told : (p : ℕ) → told_at c p ≡ []
  pub asks : (p : ℕ) → known_asks c p ≡ []
  pub telling_places : (p : ℕ) → p < count → telling_places c p ≡ TELLING_PLACES
  pub commands : (b : ℕ) → commands_at c b ≡ []
  pub came : (b : ℕ) → words_at c b ≡ []
  pub words : (b : ℕ) → known_words c b ≡ []
  pub command_places : (b : ℕ) → b < z.banks → command_places c b ≡ z.bank_queue

-- the parts of a station with so many ports and so many places in its journal, as it was made
pub record IsNewStation (z : Sizes) (count entries : ℕ) (c : CacheSide) (ps : List Port)
    (bs : List BankSide) : Type 0 where
  pub one : AreOneStation c ps bs
  pub number : length ps ≡ count
  pub bank_number : length bs ≡ z.banks
  pub cache : IsNewCache z count entries c
  pub ports : All IsNewPort ps
  pub banks : All (IsNewBank z.bank_queue) bs

-- ---- while it is made

abbrev pub IsNewPopper : {T : Type 0} → Consumer T Global AnyItems → Type 0
IsNewPopper c = (received c ≡ []) × (known_items c ≡ [])

abbrev pub IsNewPusher : {T : Type 0} → ℕ → Producer T Global AnyItems → Type 0
IsNewPusher places p = (sent p ≡ []) × (known_free p ≡ places)

-- so far these ports, and the cache side's ends of their rings
pub record AreNewPorts (ports : List Port) (asks : List (Consumer Ask Global AnyItems))
    (tellings : List (Producer Told Global AnyItems)) : Type 0 where
  pub ask_rings : map (λ (p : PortId). p.asks) (map port_id ports) ≡ map pops_from asks
  pub told_rings : map (λ (p : PortId). p.told) (map port_id ports) ≡ map pushes_to tellings
  pub each_port : All IsNewPort ports
  pub each_asks : All IsNewPopper asks
  pub each_tellings : All (IsNewPusher TELLING_PLACES) tellings

-- a line over which nothing was sent
pub record IsNewLine (places : ℕ) (l : Line) : Type 0 where
  pub ring : IsNewPusher places l.ring
  pub taken : l.taken ≡ 0

-- so far these banks, and the cache side's ends of their rings
pub record AreNewBanks (z : Sizes) (banks : List BankSide) (lines : List Line)
    (answers : List (Consumer BankAnswer Global AnyItems)) : Type 0 where
  pub command_rings : map (λ (b : BankId). b.commands) (map bank_id banks) ≡ map line_ring lines
  pub answer_rings : map (λ (b : BankId). b.answers) (map bank_id banks) ≡ map pops_from answers
  pub words : map (λ (b : BankId). b.words) (map bank_id banks) ≡ map (λ b. length (share_of (replicate z.words zero_word) z.banks b))
      (range_with_len 0 (length banks))
  pub each_bank : All (IsNewBank z.bank_queue) banks
  pub each_line : All (IsNewLine z.bank_queue) lines
  pub each_answers : All IsNewPopper answers
