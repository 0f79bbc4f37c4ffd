-- Rows of ends of rings, one for each port or bank.
use Rattle.std.specs.Prelude.{◌≡◌, ◌≢◌, ℕ, ◌+◌, ◌≤◌, ◌==◌, if◌then◌else◌, List, [], ◌∷◌, ◌++◌, length, map, slice_index_or, Option, Some}
use Rattle.std.specs.Prelude.{None, refl}
use Rattle.std.proofs.Common.{◌∙◌}
use mathlib.Core.List.{IsPrefix}
use Rattle.std.specs.declared.alloc.Global.{Global}
use Rattle.rtrb.specs.Ring.{sent, received, known_free, known_items}
use Rattle.rtrb.specs.declared.producer.Producer.{Producer}
use Rattle.rtrb.specs.declared.consumer.Consumer.{Consumer}
use Rattle.rtrb.specs.declared.AnyItems.{AnyItems}
use Rattle.memory_banks.specs.declared.Command.{Command}
use Rattle.memory_banks.specs.declared.BankAnswer.{BankAnswer}
use Rattle.station_parts.specs.declared.row.Line.{Line}
use Rattle.station_parts.specs.Rings.{RingId, pushes_to, pops_from}

-- ---- any items, by their places. Of a place that isn't there nothing is known, and nothing went over its ring

-- what was popped at a place
abbrev pub received_at : {T : Type 0} → List (Consumer T Global AnyItems) → ℕ → List T
received_at ends p = slice_index_or (map received ends) p []

-- what is known there, and not popped
abbrev pub known_at : {T : Type 0} → List (Consumer T Global AnyItems) → ℕ → List T
known_at ends p = slice_index_or (map known_items ends) p []

-- what was pushed at a place
abbrev pub pushed_at : {T : Type 0} → List (Producer T Global AnyItems) → ℕ → List T
pushed_at ends p = slice_index_or (map sent ends) p []

-- how many more items are known to have room there
abbrev pub room_at : {T : Type 0} → List (Producer T Global AnyItems) → ℕ → ℕ
room_at ends p = slice_index_or (map known_free ends) p 0

-- these items at one place, and none at the others
abbrev pub only : {T : Type 0} → ℕ → List T → ℕ → List T
only place items p = if place == p then items else []

abbrev pub list_of : {T : Type 0} → Option T → List T
list_of None = []
list_of (Some item) = item ∷ []

-- at one place the end popped these items, and may have looked
pub record PopsAt {T : Type 0} (olds news : List (Consumer T Global AnyItems)) (place : ℕ) (items : List T) : Type 0 where
  pub rings : map pops_from news ≡ map pops_from olds
  pub popped : (p : ℕ) → received_at news p ≡ received_at olds p ++ only place items p
  pub known : (p : ℕ) → IsPrefix (known_at olds p) (only place items p ++ known_at news p)

-- the ends may have looked
pub record LooksAt {T : Type 0} (olds news : List (Producer T Global AnyItems)) : Type 0 where
  pub rings : map pushes_to news ≡ map pushes_to olds
  pub pushed : (p : ℕ) → pushed_at news p ≡ pushed_at olds p
  pub places : (p : ℕ) → room_at olds p ≤ room_at news p

-- at one place the end pushed these items
pub record PushesAt {T : Type 0} (olds news : List (Producer T Global AnyItems)) (place : ℕ) (items : List T) : Type 0 where
  pub rings : map pushes_to news ≡ map pushes_to olds
  pub pushed : (p : ℕ) → pushed_at news p ≡ pushed_at olds p ++ only place items p
  pub places : (p : ℕ) → room_at olds p ≡ room_at news p + length (only place items p)

-- ---- the banks' lines

-- the rings to the banks
abbrev pub rings_of : List Line → List RingId
rings_of lines = map (λ l. pushes_to l.ring) lines

-- what was sent to each bank
abbrev pub sent_at : List Line → ℕ → List Command
sent_at lines b = slice_index_or (map (λ l. sent l.ring) lines) b []

-- how many commands each bank is known to take
abbrev pub free_at : List Line → ℕ → ℕ
free_at lines b = slice_index_or (map (λ l. known_free l.ring) lines) b 0

-- how many words of each bank have come
abbrev pub taken_at : List Line → ℕ → ℕ
taken_at lines b = slice_index_or (map (λ l. l.taken) lines) b 0

-- what was popped of each bank's answers
abbrev pub popped_at : List (Consumer BankAnswer Global AnyItems) → ℕ → List BankAnswer
popped_at ends b = received_at ends b

-- what sends make of lines: the same rings, and as many words have come
pub record OnlySent (xs ys : List Line) : Type 0 where
  pub rings : rings_of ys ≡ rings_of xs
  pub taken : (b : ℕ) → taken_at ys b ≡ taken_at xs b

pub only_sent_none : (xs : List Line) → OnlySent xs xs
only_sent_none xs = record { rings = refl; taken = λ b. refl }

pub only_sent_steps : (xs ys zs : List Line) → OnlySent xs ys → OnlySent ys zs → OnlySent xs zs
only_sent_steps xs ys zs p q =
    record { rings = q.rings ∙ p.rings; taken = λ b. q.taken b ∙ p.taken b }

-- one more word of one bank has come
pub record IsCounted (xs ys : List Line) (bank : ℕ) : Type 0 where
  pub rings : rings_of ys ≡ rings_of xs
  pub sent : (b : ℕ) → sent_at ys b ≡ sent_at xs b
  pub free : (b : ℕ) → free_at ys b ≡ free_at xs b
  pub here : taken_at ys bank ≡ taken_at xs bank + 1
  pub others : (b : ℕ) → b ≢ bank → taken_at ys b ≡ taken_at xs b

-- what looks make of them: more room may be known
pub record LinesLook (xs ys : List Line) : Type 0 where
  pub kept : OnlySent xs ys
  pub sent : (b : ℕ) → sent_at ys b ≡ sent_at xs b
  pub free : (b : ℕ) → free_at xs b ≤ free_at ys b

-- every item that has come to an end: what it popped, and then what it knows of
abbrev pub come_to : {T : Type 0} → Consumer T Global AnyItems → List T
come_to end = received end ++ known_items end

-- what was sent over a line, and how many words it has brought back
abbrev pub sent_over : Line → List Command
sent_over line = sent line.ring

abbrev pub brought_by : Line → ℕ
brought_by line = line.taken
