-- What an open load may return: of each byte for itself.
use Rattle.std.specs.Prelude.{ℕ, zero, suc, ◌≡◌, ◌+◌, ◌-◌, ◌*◌, ◌/◌, ◌%◌, ◌<◌, ◌⊎◌, ◌↔◌, min, Bool, true, false, ◌&&◌, ◌||◌}
use Rattle.std.specs.Prelude.{if◌then◌else◌, ◌==◌}
use Rattle.std.specs.Prelude.{not, nat_lt, nat_le, List, [], ◌∷◌, ◌++◌, length, get_or, Option, Some, None, is_some, slice_get}
use Rattle.std.specs.List.{list_any, find}
use Rattle.std.specs.Int.{bit_at}
use Rattle.memory_histories.specs.declared.events.HistoryEvent.{HistoryEvent}
use Rattle.memory_histories.specs.declared.events.HistoryFault.TheVariants.{NotOpen}
use Rattle.memory_histories.specs.declared.events.Rest.{Rest}
use Rattle.memory_histories.specs.declared.sets.ByteSet.{ByteSet}
use Rattle.memory_histories.specs.Sets.{has}
use Rattle.atomic_histories.specs.declared.unit.Operation.{Operation}
use Rattle.atomic_histories.specs.declared.unit.UnitPlace.{UnitPlace}
use Rattle.atomic_histories.specs.declared.memory.AtomicFault.{AtomicFault}
use Rattle.atomic_histories.specs.declared.memory.AtomicFault.TheVariants.{Refused, Undecided, OutOfMemory}
use Rattle.atomic_histories.specs.Operations.{opened_by, has_number}
use Rattle.atomic_histories.specs.Law.{OpenLoad, UnitMemory, MayBe, untouched, unit_at, is_load}
use Rattle.atomic_histories.specs.declared.unit.WatchedLoad.{WatchedLoad}
use Rattle.atomic_histories.specs.Pasts.{shows}
use Rattle.atomic_histories.specs.Followed.{Pair, Ways, never, next_after, rounds, are_too_many, has_way, is_under}
use Rattle.atomic_histories.specs.Held.{Held, is_lost}

-- In the law's words. ----

-- the byte of a word in a lane: there is none where nothing is known, and then a load may be shown any
abbrev pub lane_of : ℕ → List (Option ℕ) → Option ℕ
lane_of k word = get_or word k None

abbrev pub may_show : Option ℕ → ℕ → Bool
may_show None b = true
may_show (Some c) b = c == b

-- whether a load has taken effect and got a word that shows this byte in a lane
abbrev pub has_got : ℕ → ℕ → Option (List (Option ℕ)) → Bool
has_got k b None = false
has_got k b (Some word) = may_show (lane_of k word) b

abbrev pub got_byte : ℕ → ℕ → ℕ → OpenLoad → Bool
got_byte number k b l = is_load number l && has_got k b l.got

-- there are hidden steps after which the load under this number has got a word that shows this byte in a lane of the unit
abbrev pub MayGet : List ℕ → Rest → List HistoryEvent → UnitPlace → ℕ → ℕ → ℕ → Type 0
MayGet image rest history unit number k b =
    (m : UnitMemory) × MayBe unit (untouched image rest unit) history m × (list_any (got_byte number k b) m.loads ≡ true)

-- whether a load doesn't enable the byte at an address
abbrev pub skips : Option Operation → ℕ → Bool
skips None a = false
skips (Some o) a = not (bit_at o.enables (a - o.address) == 1)

-- the byte may be returned of an address, if the load ends now: the address lies in a unit that was forgotten, or the load may have
-- got the byte there
abbrev pub MayReturnAsked : List ℕ → List ℕ → Rest → ℕ → List HistoryEvent → ℕ → ℕ → ℕ → Type 0
MayReturnAsked lost image rest size history number a b =
    (is_lost (a / size) lost ≡ true) ⊎
    ((is_lost (a / size) lost ≡ false) × MayGet image rest history (unit_at size (a / size)) number (a % size) b)

-- or the load doesn't enable the byte there
abbrev pub MayReturn : List ℕ → List ℕ → Rest → ℕ → List HistoryEvent → ℕ → ℕ → ℕ → Type 0
MayReturn lost image rest size history number a b =
    (skips (find (has_number number) (opened_by history).loads) a ≡ true) ⊎ MayReturnAsked lost image rest size history number a b

-- for each byte of the load that is open under this number, the set of all that may be returned
pub record AreSetsOf (lost : List ℕ) (image : List ℕ) (rest : Rest) (size : ℕ) (history : List HistoryEvent) (number : ℕ)
    (sets : List ByteSet) : Type 0 where
  pub load : Operation
  pub open_ : find (has_number number) (opened_by history).loads ≡ Some load
  pub length_ : length sets ≡ load.length
  pub exact : (i : ℕ) → (set : ByteSet) → slice_get sets i ≡ Some set → (b : ℕ) → b < 256
      → (has set b ≡ true) ↔ MayReturn lost image rest size history number (load.address + i) b

-- whether a load asks for the byte at an address, enabled or not
abbrev pub asks : Option Operation → ℕ → Bool
asks None a = false
asks (Some o) a = nat_le o.address a && nat_lt a (o.address + o.length)

-- the set of all that may be returned of an address, if the load that is open under this number asks for it
abbrev pub IsSetOf : List ℕ → List ℕ → Rest → ℕ → List HistoryEvent → ℕ → ℕ → Option ByteSet → Type 0
IsSetOf lost image rest size history number a None = asks (find (has_number number) (opened_by history).loads) a ≡ false
IsSetOf lost image rest size history number a (Some set) =
    (asks (find (has_number number) (opened_by history).loads) a ≡ true)
    × ((b : ℕ) → b < 256 → (has set b ≡ true) ↔ MayReturn lost image rest size history number a b)

-- On the ways that are followed. ----

-- the pairs to which ways lead from these, once more stores have taken effect, in so many rounds
abbrev pub reached_in : List WatchedLoad → ℕ → ℕ → List Pair → List Pair
reached_in loads moment zero es = []
reached_in loads moment (suc n) es = let next = next_after loads moment never es in next ++ reached_in loads moment n next

abbrev pub reached : Ways → List Pair
reached u = u.pairs ++ reached_in u.loads u.moment (rounds u.pairs) u.pairs

-- whether a load since a moment may have got a byte in a lane on one of the ways to a pair
abbrev pub shows_byte : ℕ → ℕ → ℕ → Pair → Bool
shows_byte since k b e = may_show (lane_of k e.word) b || shows (λ w. may_show (lane_of k w) b) since e.past

-- on one of the ways to these pairs
abbrev pub is_shown : Option WatchedLoad → ℕ → ℕ → List Pair → Bool
is_shown None k b es = false
is_shown (Some l) k b es = list_any (shows_byte l.since k b) es

-- a byte may be got in a lane: of a unit that was forgotten each may
abbrev pub may_get : ℕ → ℕ → ℕ → Ways → Bool
may_get number k b u = if has_way u then is_shown (find (is_under number) u.loads) k b (reached u) else true

-- whether there are too many pairs among those that as many stores lead to
abbrev pub is_reach_over : ℕ → List WatchedLoad → ℕ → ℕ → List Pair → Bool
is_reach_over limit loads moment zero es = false
is_reach_over limit loads moment (suc n) es =
    let next = next_after loads moment never es in are_too_many limit next || is_reach_over limit loads moment n next

abbrev pub is_reach_wide : ℕ → Ways → Bool
is_reach_wide limit u = is_reach_over limit u.loads u.moment (rounds u.pairs) u.pairs

-- All bytes of a load. ----

-- the address of byte i
abbrev pub address_of : ℕ → ℕ → ℕ
address_of a i = min (a + i) 18446744073709551615

-- a set is that of what a load may get
abbrev pub IsSet : (ℕ → Bool) → ByteSet → Type 0
IsSet is set = (b : ℕ) → b < 256 → has set b ≡ is b

abbrev pub may_get_at : Held → ℕ → ℕ → ℕ → Bool
may_get_at h number a b = may_get number (a % h.size) b (h.units (a / h.size))

abbrev pub may_return_at : Held → Option Operation → ℕ → ℕ → ℕ → Bool
may_return_at h load number a b = skips load a || may_get_at h number a b

-- the sets of n bytes from byte i on of this load
abbrev pub AreSetsFrom : Held → Option Operation → ℕ → ℕ → ℕ → ℕ → List ByteSet → Type 0
AreSetsFrom h load number a i zero [] = Unit {0}
AreSetsFrom h load number a i zero (set ∷ sets) = ⊥
AreSetsFrom h load number a i (suc n) [] = ⊥
AreSetsFrom h load number a i (suc n) (set ∷ sets) =
    IsSet (may_return_at h load number (address_of a i)) set × AreSetsFrom h load number a (i + 1) n sets

-- the ways lead to too many at the unit that begins at an address, in which byte a lies
abbrev pub IsWideByte : ℕ → Held → ℕ → ℕ → Type 0
IsWideByte limit h a address =
    (address ≡ a / h.size * h.size) × (is_reach_wide limit (h.units (a / h.size)) ≡ true)

-- in which one of n bytes from a on lies
abbrev pub IsWideLoad : ℕ → Held → ℕ → ℕ → ℕ → Type 0
IsWideLoad limit h a n address = (i : ℕ) × (i < n) × IsWideByte limit h (address_of a i) address

-- whether they do so at a unit at which a load is open under a number
abbrev pub is_wide_for : ℕ → ℕ → Ways → Bool
is_wide_for limit number u = is_some (find (is_under number) u.loads) && is_reach_wide limit u

-- the unit in which byte a lies
abbrev pub is_wide_at : ℕ → Held → ℕ → ℕ → Bool
is_wide_at limit h number a = is_wide_for limit number (h.units (a / h.size))

-- for none of n bytes from a on
abbrev pub AreNarrow : ℕ → Held → ℕ → ℕ → ℕ → Type 0
AreNarrow limit h number a n = (i : ℕ) → i < n → is_wide_at limit h number (address_of a i) ≡ false

-- for none of those of the load that is open under a number
abbrev pub IsNarrowLoad : ℕ → Held → ℕ → Type 0
IsNarrowLoad limit h number =
    (o : Operation) → find (has_number number) h.opened.loads ≡ Some o → AreNarrow limit h number o.address o.length

-- why there are no sets
abbrev pub LoadFaultIs : ℕ → Held → Option Operation → AtomicFault → Type 0
LoadFaultIs limit h load (Refused cause) = (load ≡ None) × (cause ≡ NotOpen)
LoadFaultIs limit h load (Undecided address) = (o : Operation) × (load ≡ Some o) × IsWideLoad limit h o.address o.length address
LoadFaultIs limit h load OutOfMemory = (o : Operation) × (load ≡ Some o)

-- there is no verdict: too many ways were needed at a unit, or there was too little memory
abbrev pub IsNoVerdict : (ℕ → Type 0) → AtomicFault → Type 0
IsNoVerdict IsWideAt (Refused cause) = ⊥
IsNoVerdict IsWideAt (Undecided address) = IsWideAt address
IsNoVerdict IsWideAt OutOfMemory = Unit {0}

-- the set of the byte at an address, if the load that is open under this number asks for it
abbrev pub IsByteOf : Held → ℕ → ℕ → Option ByteSet → Type 0
IsByteOf h number a None = asks (find (has_number number) h.opened.loads) a ≡ false
IsByteOf h number a (Some set) = (asks (find (has_number number) h.opened.loads) a
    ≡ true) × IsSet (may_return_at h (find (has_number number) h.opened.loads) number a) set

-- the sets of the load that is open under this number
abbrev pub HasSets : Held → ℕ → List ByteSet → Type 0
HasSets h number sets =
    (o : Operation) × (find (has_number number) h.opened.loads ≡ Some o) × AreSetsFrom h (Some o) number o.address 0 o.length sets
