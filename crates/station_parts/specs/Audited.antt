-- What an audit finds, and what it leaves as it was.
use Rattle.std.specs.Prelude.{◌≡◌, ◌≤◌, ℕ, zero, suc, Bool, nat_lt, List, length, map, position, slice_index_or, Option, Some, None}
use Rattle.rtrb.specs.Ring.{sent, known_items, known_free}
use Rattle.cache_law.specs.State.{tags}
use Rattle.station_journal.specs.declared.journal.SideFault.{SideFault}
use Rattle.station_parts.specs.declared.port.Port.{Port}
use Rattle.station_parts.specs.declared.row.Line.{Line}
use Rattle.station_parts.specs.declared.bank.BankSide.{BankSide}
use Rattle.station_parts.specs.declared.parts.CacheSide.{CacheSide}
use Rattle.station_parts.specs.declared.parts.Ring.{Ring}
use Rattle.station_parts.specs.declared.parts.Ring.TheVariants.{Asks, Told, Commands, Answers}
use Rattle.station_parts.specs.declared.parts.Audit.{Audit}
use Rattle.station_parts.specs.declared.parts.Audit.TheVariants.{Faulted, Left, Owed, Clean}
use Rattle.station_parts.specs.Rows.{come_to, sent_over}
use Rattle.station_parts.specs.Words.{told_in_all, commanded, offered, offered_before, taken, known_tellings, received_by, sent_by}
use Rattle.station_parts.specs.Words.{words_of, known_commands, known_places, answer_places, earlier_of, held_of, journal_of, fault_in}
use Rattle.station_parts.specs.Words.{cache_in, asked_at, told_at, commands_at, words_at, telling_places, command_places}

-- ---- at each ring, what was received and then what is known is what was sent

pub record IsSeen (cache : CacheSide) (ports : List Port) (banks : List BankSide) : Type 0 where
  pub asks : map come_to cache.asks.items ≡ map offered ports
  pub told : map told_in_all ports ≡ map sent cache.tellings.items
  pub commands : map commanded banks ≡ map sent_over cache.row.lines.items
  pub answers : map come_to cache.answers.items ≡ map sent_by banks

-- ---- nothing was pushed or popped, no free place that an end knew was forgotten, and nothing else changed

-- for how many more commands a line knows a free place
abbrev pub line_places : Line → ℕ
line_places line = known_free line.ring

-- each number is at most the one at its place
abbrev pub AreAtMost : List ℕ → List ℕ → Type 0
AreAtMost xs ys = (p : ℕ) → slice_index_or xs p 0 ≤ slice_index_or ys p 0

pub record LeavesCache (old new : CacheSide) : Type 0 where
  pub journal : journal_of new ≡ journal_of old
  pub earlier : earlier_of new ≡ earlier_of old
  pub held : held_of new ≡ held_of old
  pub fault : fault_in new ≡ fault_in old
  pub cache : cache_in new ≡ cache_in old
  pub asked : (p : ℕ) → asked_at new p ≡ asked_at old p
  pub told : (p : ℕ) → told_at new p ≡ told_at old p
  pub commands : (b : ℕ) → commands_at new b ≡ commands_at old b
  pub words : (b : ℕ) → words_at new b ≡ words_at old b
  pub for_tellings : (p : ℕ) → telling_places old p ≤ telling_places new p
  pub for_commands : (b : ℕ) → command_places old b ≤ command_places new b

pub record LeavesPorts (old new : List Port) : Type 0 where
  pub offered : map offered new ≡ map offered old
  pub before : map offered_before new ≡ map offered_before old
  pub taken : map taken new ≡ map taken old
  pub for_asks : AreAtMost (map known_places old) (map known_places new)

pub record LeavesBanks (old new : List BankSide) : Type 0 where
  pub received : map received_by new ≡ map received_by old
  pub sent : map sent_by new ≡ map sent_by old
  pub words : map words_of new ≡ map words_of old
  pub for_answers : AreAtMost (map answer_places old) (map answer_places new)

-- ---- the answer

abbrev pub holds_item : {T : Type 0} → List T → Bool
holds_item xs = nat_lt 0 (length xs)

-- the first of the rings that hold an item, the first one of each kind given by its place
abbrev pub first_ring : Option ℕ → Option ℕ → Option ℕ → Option ℕ → Option Ring
first_ring (Some port) told commands answers = Some (Asks port)
first_ring None (Some port) commands answers = Some (Told port)
first_ring None None (Some bank) answers = Some (Commands bank)
first_ring None None None (Some bank) = Some (Answers bank)
first_ring None None None None = None

-- the first ring that is known to hold an item: asks by port, tellings by port, commands by bank, answers by bank
abbrev pub first_left : CacheSide → List Port → List BankSide → Option Ring
first_left cache ports banks =
    first_ring (position (λ c. holds_item (known_items c)) cache.asks.items) (position (λ p. holds_item (known_tellings p)) ports)
    (position (λ b. holds_item (known_commands b)) banks) (position (λ c. holds_item (known_items c)) cache.answers.items)

-- what is found of a cache side by its fault, the first ring that holds an item, and how many values it owes
abbrev pub finding : Option SideFault → Option Ring → ℕ → Audit
finding (Some fault) left count = Faulted
finding None (Some ring) count = Left ring
finding None None zero = Clean
finding None None (suc count) = Owed (suc count)

abbrev pub audit_of : CacheSide → List Port → List BankSide → Audit
audit_of cache ports banks =
    finding (fault_in cache) (first_left cache ports banks) (length (tags (cache_in cache)))
