-- What may be left out of a history so that, if the history is of the law, so is what stays.
use Rattle.std.specs.Prelude.{ℕ, ◌≡◌, ◌+◌, Bool, true, false, ◌&&◌, ◌||◌, not, ◌==◌, nat_lt, nat_le, List, [], ◌∷◌}
use Rattle.std.specs.List.{filter, list_all, list_any, zip}
use Rattle.memory_histories.specs.declared.events.HistoryEvent.{HistoryEvent}
use Rattle.memory_histories.specs.declared.events.HistoryEvent.TheVariants.{LoadRequest, LoadResponse, StoreRequest, StoreResponse}
use Rattle.memory_histories.specs.declared.events.Rest.{Rest}
use Rattle.memory_histories.specs.declared.events.Rest.TheVariants.{Zeros}
use Rattle.memory_histories.specs.declared.windows.StoreByte.{StoreByte}
use Rattle.memory_histories.specs.declared.windows.LoadByte.{LoadByte}
use Rattle.memory_histories.specs.Windows.{Windows, opening, cons_if, is_open, is_of, windows_after}
use Rattle.history_reasons.specs.Sources.{gives}
use Rattle.atomic_histories.specs.declared.unit.UnitPlace.{UnitPlace}
use Rattle.atomic_histories.specs.Operations.{none_opened}
use Rattle.history_laws.specs.Laws.{IsRegular}
use Rattle.atomic_histories.specs.Law.{IsAtomic, IsAtomicAt, is_formed, unit_at}

-- A cut says of each event of a history whether it stays, by its moment: the number of the event, counted from 0.
abbrev pub Cut : Type 0
Cut = ℕ → Bool

-- what stays of events of which the first has this moment
abbrev pub stays_from : Cut → ℕ → List HistoryEvent → List HistoryEvent
stays_from stays moment [] = []
stays_from stays moment (event ∷ events) = cons_if (stays moment) event (stays_from stays (moment + 1) events)

abbrev pub what_stays : Cut → List HistoryEvent → List HistoryEvent
what_stays stays history = stays_from stays 0 history

-- A response stays just if its request does. ----

abbrev pub is_alike : Bool → Bool → Bool
is_alike true c = c
is_alike false c = not c

abbrev pub has_mark_of_request : Cut → Windows → HistoryEvent → Bool
has_mark_of_request stays w (LoadResponse number bytes) =
    list_all (λ l. not (is_of number l) || is_alike (stays l.began) (stays w.moment)) w.loads
has_mark_of_request stays w (StoreResponse number) =
    list_all (λ s. not (is_open number s) || is_alike (stays s.began) (stays w.moment)) w.stores
has_mark_of_request stays w event = true

-- A load that stays got nothing from a store that is left out. ----

-- of the stores that may give a load this byte, by the regular law, one is left out. An open store may give its byte, and overwrites none
abbrev pub lacks_giver : Cut → List StoreByte → LoadByte → ℕ → Bool
lacks_giver stays stores l b = list_any (λ s. not (stays s.began) && gives stores l b s) stores

abbrev pub is_within : UnitPlace → ℕ → Bool
is_within unit address = nat_le unit.first address && nat_lt address (unit.first + unit.size)

-- of each byte of the unit that a load is answered, if it stays
abbrev pub has_givers : UnitPlace → Cut → Windows → HistoryEvent → Bool
has_givers unit stays w (LoadResponse number bytes) =
    not (stays w.moment) || list_all (λ p. not (is_within unit p.0.address && lacks_giver stays w.stores p.0 p.1))
    (zip (filter (is_of number) w.loads) bytes.now)
has_givers unit stays w event = true

-- The cut is closed at a unit. ----

abbrev pub is_closed_from : UnitPlace → Cut → Windows → List HistoryEvent → Bool
is_closed_from unit stays w [] = true
is_closed_from unit stays w (event ∷ events) =
    (has_mark_of_request stays w event && has_givers unit stays w event) && is_closed_from unit stays (windows_after w event) events

abbrev pub is_closed : UnitPlace → Cut → List HistoryEvent → Bool
is_closed unit stays history = is_closed_from unit stays (opening [] Zeros) history

-- What stays is of the law. ----

-- if a cut is closed at a unit, and the history has moments there, so has what stays
abbrev pub CutIsAtomicAt : List ℕ → Rest → UnitPlace → Cut → List HistoryEvent → Type 0
CutIsAtomicAt image rest unit stays history = is_formed none_opened history ≡ true → is_closed unit stays history ≡ true
    → IsAtomicAt image rest unit history → IsAtomicAt image rest unit (what_stays stays history)

-- so if what stays has none, the history is none of the law, whatever else it holds
abbrev pub CutRefutes : List ℕ → Rest → ℕ → ℕ → Cut → List HistoryEvent → Type 0
CutRefutes image rest size k stays history = is_closed (unit_at size k) stays history ≡ true
    → ¬ (IsAtomicAt image rest (unit_at size k) (what_stays stays history)) → ¬ (IsAtomic image rest size history)

-- the same of the regular law, if the cut is closed at each unit
abbrev pub CutIsRegular : List ℕ → Rest → Cut → List HistoryEvent → Type 0
CutIsRegular image rest stays history = ((unit : UnitPlace) → is_closed unit stays history ≡ true) → IsRegular image rest history
    → IsRegular image rest (what_stays stays history)
