-- What is told of an event, by `step` and by `fault`: one thing of one event, but for want of memory and of room for words.
use Rattle.std.specs.Prelude.{ℕ, ◌≡◌, ◌+◌, ◌*◌, ◌/◌, ◌<◌, ◌≤◌, ◌⊎◌, true, false, Option, Some, None}
use Rattle.memory_histories.specs.declared.events.HistoryEvent.{HistoryEvent}
use Rattle.memory_histories.specs.declared.events.HistoryFault.{HistoryFault}
use Rattle.memory_histories.specs.declared.events.HistoryFault.TheVariants.{WrongByte}
use Rattle.atomic_histories.specs.declared.search.TheConstants.{MOST_WORDS}
use Rattle.atomic_histories.specs.declared.memory.AtomicFault.{AtomicFault}
use Rattle.atomic_histories.specs.declared.memory.AtomicFault.TheVariants.{Refused, Undecided, OutOfMemory}
use Rattle.atomic_histories.specs.Operations.{form_fault}
use Rattle.atomic_histories.specs.Law.{unit_at}
use Rattle.atomic_histories.specs.Followed.{is_too_wide}
use Rattle.atomic_histories.specs.Held.{Held, covered, units_of, is_over_at, halt_from, first_halt}
use Rattle.atomic_histories.specs.Few.{AreFew}
use Rattle.atomic_histories.specs.Judge.{place_in}

-- more words are kept than may be at unit j, which is one of n from number k on
abbrev pub HasManyAt : Held → ℕ → ℕ → ℕ → Type 0
HasManyAt h k n j = (k ≤ j) × (j < k + n) × (MOST_WORDS < h.words j)

-- why n units from number k on don't take an event: what is so at the first at which it halts, or that too many words are kept at one.
-- Before that there is none of which too many would have to be kept
abbrev pub HaltIs : ℕ → Held → HistoryEvent → ℕ → ℕ → AtomicFault → Type 0
HaltIs limit h event k n (Refused cause) =
    (j : ℕ) × (halt_from limit h event k n ≡ Some j) × (is_over_at limit h event j ≡ false)
    × (cause ≡ WrongByte (place_in h.opened.loads event (j * h.size))) × AreFew h event k (j + 1)
HaltIs limit h event k n (Undecided address) =
    (j : ℕ) × (k ≤ j) × (j < k + n) × (address ≡ j * h.size)
    × (is_too_wide limit (unit_at h.size j) (h.words j) (h.units j) event ≡ true)
    × (((halt_from limit h event k n ≡ Some j) × (is_over_at limit h event j ≡ true)) ⊎ (MOST_WORDS < h.words j))
    × AreFew h event k j
HaltIs limit h event k n OutOfMemory = Unit {0}

-- those that an event touches
abbrev pub AreHaltedFor : ℕ → Held → HistoryEvent → AtomicFault → Type 0
AreHaltedFor limit h event fault =
    let p = covered h.opened event in HaltIs limit h event (p.0 / h.size) (units_of h.size p.0 p.1) fault

-- none of them halts, and of none too many words would have to be kept
abbrev pub GoOn : ℕ → Held → HistoryEvent → Type 0
GoOn limit h event =
    (first_halt limit h event ≡ None)
    × (let p = covered h.opened event in AreFew h event (p.0 / h.size) (p.0 / h.size + units_of h.size p.0 p.1))

-- why an event isn't taken, or nothing if it is
abbrev pub IsToldOf : ℕ → Held → HistoryEvent → Option AtomicFault → Type 0
IsToldOf limit h event None = (form_fault h.opened event ≡ None) × GoOn limit h event
IsToldOf limit h event (Some fault) =
    ((cause : HistoryFault) × (form_fault h.opened event ≡ Some cause) × (fault ≡ Refused cause))
    ⊎ ((form_fault h.opened event ≡ None) × AreHaltedFor limit h event fault)

-- there was too little memory to tell
abbrev pub IsShort : Option AtomicFault → Type 0
IsShort told = told ≡ Some OutOfMemory

-- whatever is told of an event is the same, unless there was too little memory or too many words are kept at a unit that it touches
abbrev pub AreToldAlike : ℕ → Held → HistoryEvent → Option AtomicFault → Option AtomicFault → Type 0
AreToldAlike limit h event one other = IsToldOf limit h event one → IsToldOf limit h event other
    → (one ≡ other) ⊎ (IsShort one ⊎ (IsShort other
    ⊎ ((k : ℕ) × (let p = covered h.opened event in HasManyAt h (p.0 / h.size) (units_of h.size p.0 p.1) k))))
