-- Where no more words are kept than may be, of what stood there before on the ways of a unit.
use Rattle.std.specs.Prelude.{ℕ, ◌≡◌, ◌<◌, ◌≤◌, List, length}
use Rattle.memory_histories.specs.declared.events.HistoryEvent.{HistoryEvent}
use Rattle.memory_histories.specs.declared.events.HistoryEvent.TheVariants.{LoadRequest, LoadResponse, StoreRequest, StoreResponse}
use Rattle.atomic_histories.specs.declared.search.TheConstants.{MOST_WORDS}
use Rattle.atomic_histories.specs.Pasts.{Past, begins, after, either}
use Rattle.atomic_histories.specs.Stands.{Each, One}
use Rattle.atomic_histories.specs.Followed.{Ways}
use Rattle.atomic_histories.specs.Held.{Held}

-- each word of a past, with what stood before it, is among these
abbrev pub AreAmong : List Past → Past → Type 0
AreAmong words begins = Unit {0}
AreAmong words (after word moment p) = One (λ q. after word moment p ≡ q) words × AreAmong words p
AreAmong words (either p q) = AreAmong words p × AreAmong words q

-- those of all ways come to no more than may be kept
abbrev pub KeepsFew : Ways → Type 0
KeepsFew u = (words : List Past) × (length words ≤ MOST_WORDS) × Each (λ e. AreAmong words e.past) u.pairs

-- which is asked if the event is an answer
abbrev pub IsFewFor : Ways → HistoryEvent → Type 0
IsFewFor u (LoadRequest number address n enables) = Unit {0}
IsFewFor u (LoadResponse number bytes) = KeepsFew u
IsFewFor u (StoreRequest number address bytes enables) = Unit {0}
IsFewFor u (StoreResponse number) = KeepsFew u

-- so it is at each unit from number k on, up to an end
abbrev pub AreFew : Held → HistoryEvent → ℕ → ℕ → Type 0
AreFew h event k end = (j : ℕ) → k ≤ j → j < end → IsFewFor (h.units j) event
