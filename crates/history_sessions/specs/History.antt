-- A history as its law sees it.
use Rattle.std.specs.Prelude.{ℕ, ◌≡◌, Bool, true, false, List, Option, None, codes}
use Rattle.std.specs.List.{find}
use Rattle.std.specs.Option.{option_map}
use Rattle.memory_histories.specs.declared.events.HistoryEvent.{HistoryEvent}
use Rattle.memory_histories.specs.declared.events.Rest.{Rest}
use Rattle.memory_histories.specs.Windows.{Windows, windows_after}
use Rattle.memory_histories.specs.Windows as windows
use Rattle.memory_histories.specs.Regular as regular
use Rattle.memory_histories.specs.Flat.{Flat, flat_fault, flat_after}
use Rattle.memory_histories.specs.Flat as flat
use Rattle.atomic_histories.specs.Judge.{bytes_of}
use Rattle.history_sessions.specs.declared.judge.HistoryLaw.{HistoryLaw}
use Rattle.history_sessions.specs.declared.judge.HistoryLaw.TheVariants as law
use Rattle.history_sessions.specs.declared.judge.LawName.{LawName}
use Rattle.history_sessions.specs.declared.judge.LawName.TheVariants as name
use Rattle.history_sessions.specs.Atomic.{Atomic, with_event, forgetting, IsLawful}
use Rattle.history_sessions.specs.Atomic as atomic

abbrev pub name_of : HistoryLaw → LawName
name_of law.Flat = name.Flat
name_of (law.Atomic unit limit) = name.Atomic
name_of law.Regular = name.Regular

abbrev pub law_text : LawName → List ℕ
law_text name.Flat = codes "flat"
law_text name.Atomic = codes "atomic"
law_text name.Regular = codes "regular"

pub data History : Type 0 where
  OfRegular : (w : Windows) → History
  OfFlat : (f : Flat) → History
  OfAtomic : (a : Atomic) → History

-- no event yet
abbrev pub opening : HistoryLaw → List ℕ → Rest → History
opening law.Regular image rest = OfRegular (windows.opening image rest)
opening law.Flat image rest = OfFlat (flat.opening image rest)
opening (law.Atomic unit limit) image rest = OfAtomic (atomic.opening image rest (bytes_of unit) limit)

-- the history with this event is one of its law
abbrev pub Passes : History → HistoryEvent → Type 0
Passes (OfRegular w) event = regular.fault w event ≡ None
Passes (OfFlat f) event = flat_fault f event ≡ None
Passes (OfAtomic a) event = IsLawful a event

abbrev pub history_after : History → HistoryEvent → History
history_after (OfRegular w) event = OfRegular (windows_after w event)
history_after (OfFlat f) event = OfFlat (flat_after f event)
history_after (OfAtomic a) event = OfAtomic (with_event a event)

-- whether units of it can be forgotten
abbrev pub has_units : History → Bool
has_units (OfRegular w) = false
has_units (OfFlat f) = false
has_units (OfAtomic a) = true

-- once the unit in which the byte at an address lies is forgotten
abbrev pub history_forgetting : ℕ → History → History
history_forgetting address (OfRegular w) = OfRegular w
history_forgetting address (OfFlat f) = OfFlat f
history_forgetting address (OfAtomic a) = OfAtomic (forgetting address a)

-- which bytes the load that is open under a number may return at an address, if it asks for that byte
abbrev pub may_by_regular : Windows → ℕ → ℕ → Option (ℕ → Bool)
may_by_regular w number address = option_map (λ l. regular.is_allowed w l) (find (windows.is_at number address) w.loads)

abbrev pub may_by_flat : Flat → ℕ → ℕ → Option (ℕ → Bool)
may_by_flat f number address = option_map (λ l. flat.may_return l) (find (flat.is_at number address) f.loads)
