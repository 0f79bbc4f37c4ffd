-- What a history has had: counts of its answers.
use Rattle.std.specs.Prelude.{ℕ, ◌+◌, ◌-◌, ◌≤◌, ◌/◌, ◌%◌, ◌^◌, ◌==◌, ◌&&◌, ◌||◌, not, nat_le}
use Rattle.std.specs.Prelude.{nat_lt, min, bit_and, if◌then◌else◌, Bool, true, false}
use Rattle.std.specs.Prelude.{List, [], ◌∷◌, ◌++◌, map, take, length, Option, Some, None, slice_get, vec_len, vec_capacity}
use Rattle.std.specs.List.{list_any, position, remove}
use Rattle.memory_histories.specs.declared.events.HistoryEvent.{HistoryEvent}
use Rattle.memory_histories.specs.declared.events.HistoryEvent.TheVariants.{LoadRequest, LoadResponse, StoreRequest, StoreResponse}
use Rattle.history_sessions.specs.declared.coverage.Counts.{Counts}
use Rattle.history_sessions.specs.declared.coverage.WatchedOperation.{WatchedOperation}
use Rattle.history_sessions.specs.declared.coverage.Coverage.{Coverage}

-- Bytes in common. ----

-- the bytes of an operation as a mask: bit k is the byte at its address + k, and 64 of them count at most
abbrev pub mask_of : ℕ → ℕ → ℕ
mask_of length enables = enables % 2 ^ min length 64

-- whether two masks have a bit in common, where the second one begins so many bytes behind the first
abbrev pub do_meet : ℕ → ℕ → ℕ → Bool
do_meet apart first second = nat_lt apart 64 && not (bit_and (first / 2 ^ apart) second == 0)

abbrev pub has_common : WatchedOperation → WatchedOperation → Bool
has_common o p =
    if nat_le o.address p.address then do_meet (p.address - o.address) o.bytes p.bytes
    else do_meet (o.address - p.address) p.bytes o.bytes

-- whether one of two is a load, and the other a store with a byte in common
abbrev pub are_beside : WatchedOperation → WatchedOperation → Bool
are_beside o p = (if o.is_store then not p.is_store else p.is_store) && has_common o p

-- Requests. ----

-- what is counted of a history so far, and its open operations in the order of their requests
pub record Covered : Type 0 where
  pub counts : Counts
  pub open_ : List WatchedOperation

-- nothing is counted yet
abbrev pub nothing_covered : Covered
nothing_covered = record { counts = record { loads = 0; choices = 0; beside_store = 0; overtaking = 0 }; open_ = [] }

-- an operation, and whether it was beside another so far
abbrev pub noted_if : Bool → WatchedOperation → WatchedOperation
noted_if is_one p =
    record { is_store = p.is_store; number = p.number; address = p.address; bytes = p.bytes; is_beside = p.is_beside || is_one }

abbrev pub noted_beside : WatchedOperation → WatchedOperation → WatchedOperation
noted_beside o p = noted_if (are_beside o p) p

-- one more is requested: it may be beside those that are open, and they beside it
abbrev pub requested : WatchedOperation → Covered → Covered
requested o c = record {
  counts = c.counts;
  open_ = map (noted_beside o) c.open_ ++ noted_if (list_any (are_beside o) c.open_) o ∷ [];
}

-- Answers. ----

-- counted once more, up to 2^64 - 1
abbrev pub more_if : Bool → ℕ → ℕ
more_if is_one n = if is_one then min (n + 1) 18446744073709551615 else n

-- an operation is answered, which may have had a choice, and have overtaken another
abbrev pub counted : Bool → Bool → WatchedOperation → Counts → Counts
counted had_choice overtook o n = record {
  loads = more_if (not o.is_store) n.loads;
  choices = more_if (not o.is_store && had_choice) n.choices;
  beside_store = more_if (not o.is_store && o.is_beside) n.beside_store;
  overtaking = more_if overtook n.overtaking;
}

-- whether it is the load, or the store, that is open under a number
abbrev pub is_under : Bool → ℕ → WatchedOperation → Bool
is_under is_store number o = (if is_store then o.is_store else not o.is_store) && (o.number == number)

-- the one at a place is answered. It overtakes an older one that is open and has a byte in common with it
abbrev pub answered_from : Bool → ℕ → Option WatchedOperation → Covered → Covered
answered_from had_choice k None c = c
answered_from had_choice k (Some o) c =
    record { counts = counted had_choice (list_any (has_common o) (take k c.open_)) o c.counts; open_ = remove c.open_ k }

abbrev pub answered_at : Bool → Option ℕ → Covered → Covered
answered_at had_choice None c = c
answered_at had_choice (Some k) c = answered_from had_choice k (slice_get c.open_ k) c

-- what is open under no number was requested before the count began, and isn't counted
abbrev pub answered : Bool → ℕ → Bool → Covered → Covered
answered is_store number had_choice c = answered_at had_choice (position (is_under is_store number) c.open_) c

-- Events. ----

-- an operation that was beside no other so far
abbrev pub watched : Bool → ℕ → ℕ → ℕ → WatchedOperation
watched is_store number address bytes =
    record { is_store = is_store; number = number; address = address; bytes = bytes; is_beside = false }

-- an event was taken. If it answers a load, that had a choice or it had none
abbrev pub covered_after : Bool → Covered → HistoryEvent → Covered
covered_after had_choice c (LoadRequest number address n enables) =
    requested (watched false number address (mask_of n enables)) c
covered_after had_choice c (StoreRequest number address bytes enables) =
    requested (watched true number address (mask_of (length bytes.now) enables)) c
covered_after had_choice c (LoadResponse number bytes) = answered false number had_choice c
covered_after had_choice c (StoreResponse number) = answered true number had_choice c

-- What is kept. ----

abbrev pub shown : Coverage → Covered
shown c = record { counts = c.counts; open_ = c.open_operations.items }

-- there is room for one more request
abbrev pub HasRoom : Coverage → Type 0
HasRoom c = vec_len c.open_operations + 1 ≤ vec_capacity c.open_operations
