-- What is counted of a run beside its table: the requests by kind and set, the loads' waits, and the rounds by their ends.
use Rattle.std.specs.Prelude.{ℕ, zero, suc, ◌+◌, ◌-◌, ◌/◌, ◌%◌, if◌then◌else◌, List, [], ◌∷◌, replicate, take, length, Option, Some, None}
use Rattle.std.specs.Prelude.{max, slice_set, slice_index_or}
use Rattle.std.specs.List.{sum}
use Rattle.std.specs.Int.{leading_zeros, w64}
use Rattle.machine_core.specs.Words.{Cause, Event, Load, Store, Prefetch, Answer, Accepted, Value, Refused, Sizes, Lookup, Hit, Join, Miss}
use Rattle.flat_model.specs.Causes.{passes}
use Rattle.machine_core.specs.Machine.{MachineState}
use Rattle.round_driver.specs.Machines.{used_registers}
use Rattle.round_driver.specs.Rounds.{Run, rounds_until_over, start_of, whole_run}
use Rattle.round_driver.specs.Outcomes.{outcomes_of}
use Rattle.round_driver.specs.declared.outcomes.Outcome.{Outcome}
use Rattle.round_driver.specs.Tables.{since_with, table_of}
use Rattle.round_driver.specs.declared.machine.MachineNumbers.{MachineNumbers}
use Rattle.round_driver.specs.declared.note.Note.{Note}
use Rattle.round_driver.specs.declared.timing.Timing.{Timing}
use Rattle.round_driver.specs.declared.table.TheConstants.{TAGS}
use Rattle.round_driver.specs.declared.table.Table.{Table}
use Rattle.round_driver.specs.declared.waits.TheConstants.{WAIT_BUCKETS}
use Rattle.round_driver.specs.declared.waits.Waits.{Waits}
use Rattle.round_driver.specs.declared.details.Finds.{Finds}
use Rattle.round_driver.specs.declared.details.ByKind.{ByKind}
use Rattle.round_driver.specs.declared.details.BySet.{BySet}
use Rattle.round_driver.specs.declared.details.Told.{Told}
use Rattle.round_driver.specs.declared.details.RoundEnds.{RoundEnds}
use Rattle.round_driver.specs.declared.details.Details.{Details}

-- a number came once more, if it has a place in the list
unfoldable pub with_one_at : List ℕ → ℕ → List ℕ
with_one_at counts n = slice_set counts n (slice_index_or counts n 0 + 1)

-- ---- accepted requests, by their kind

abbrev pub with_find : Finds → Option Lookup → Finds
with_find f (Some Hit) = record f { accepted = f.accepted + 1; hits = f.hits + 1 }
with_find f (Some Join) = record f { accepted = f.accepted + 1; joins = f.joins + 1 }
with_find f (Some Miss) = record f { accepted = f.accepted + 1; misses = f.misses + 1 }
with_find f None = record f { accepted = f.accepted + 1 }

abbrev pub with_kind : ByKind → Event → Option Lookup → ByKind
with_kind k (Load tag at) found = record k { loads = with_find k.loads found }
with_kind k (Store at word lanes) found = record k { stores = with_find k.stores found }
with_kind k (Prefetch at) found = record k { prefetches = with_find k.prefetches found }
with_kind k event found = k

-- ---- by their set

-- the set of the block of a word
abbrev pub set_of : MachineNumbers → ℕ → ℕ
set_of z at = at / z.block_words % z.sets

abbrev pub with_found_in : BySet → ℕ → Option Lookup → BySet
with_found_in b set (Some Hit) = record b { hits = with_one_at b.hits set }
with_found_in b set (Some Join) = record b { joins = with_one_at b.joins set }
with_found_in b set (Some Miss) = record b { misses = with_one_at b.misses set }
with_found_in b set None = b

abbrev pub with_set : MachineNumbers → BySet → Event → Option Lookup → BySet
with_set z b (Load tag at) found = with_found_in b (set_of z at) found
with_set z b (Store at word lanes) found = with_found_in b (set_of z at) found
with_set z b (Prefetch at) found = with_found_in b (set_of z at) found
with_set z b event found = b

-- ---- waits

-- a number's binary digits: 0 for 0, 1 for 1, 2 for 2 and 3, 3 for 4 to 7, and so on
abbrev pub bucket_of : ℕ → ℕ
bucket_of wait = 64 - leading_zeros w64 wait

abbrev pub with_wait : Waits → ℕ → Waits
with_wait w wait =
    record { loads = w.loads + 1; rounds = w.rounds + wait; longest = max w.longest wait; buckets = with_one_at w.buckets (bucket_of wait) }

-- ---- one event

-- the round that first asked the request at hand, which is asked in this round
abbrev pub asked_since : Option ℕ → ℕ → ℕ
asked_since (Some first) round = first
asked_since None round = round

abbrev pub first_asked : Told → ℕ → ℕ
first_asked t round = asked_since t.stalled_since round

abbrev pub with_found_of : MachineNumbers → Told → Note → Told
with_found_of z t n = record t { kinds = with_kind t.kinds n.event n.found; sets = with_set z t.sets n.event n.found }

abbrev pub with_accepted : MachineNumbers → Told → Note → Told
with_accepted z t n =
    record (with_found_of z t n) {
      accepted_in = since_with t.accepted_in n.event n.round;
      asked_in = since_with t.asked_in n.event (first_asked t n.round);
      stalled_since = None;
    }

abbrev pub with_refused : Told → Cause → ℕ → Told
with_refused t cause round = record t { stalled_since = if passes cause then Some (first_asked t round) else None }

-- a load is answered: it has waited since the round that accepted it, and since the round that first asked for it
abbrev pub with_value : Told → ℕ → ℕ → Told
with_value t tag round =
    record t {
      waits = with_wait t.waits (round - slice_index_or t.accepted_in tag 0);
      waits_from_asking = with_wait t.waits_from_asking (round - slice_index_or t.asked_in tag 0);
    }

abbrev pub counted_as : MachineNumbers → Told → Note → Answer → Told
counted_as z t n Accepted = with_accepted z t n
counted_as z t n (Value tag word) = with_value t tag n.round
counted_as z t n (Refused cause) = with_refused t cause n.round
counted_as z t n answer = t

unfoldable pub counted : MachineNumbers → Told → Note → Told
counted z t n = counted_as z t n n.answer

abbrev pub counted_all : MachineNumbers → Told → List Note → Told
counted_all z t [] = t
counted_all z t (n ∷ ns) = counted_all z (counted z t n) ns

-- ---- one round

-- how many loads are owed a value
abbrev pub owed_of : Told → ℕ
owed_of t = t.kinds.loads.accepted - t.waits.loads

abbrev pub with_end : RoundEnds → ℕ → ℕ → RoundEnds
with_end e registers owed = record { registers = with_one_at e.registers registers; owed = with_one_at e.owed owed }

-- ---- nothing yet

abbrev pub no_finds : Finds
no_finds = record { accepted = 0; hits = 0; joins = 0; misses = 0 }

abbrev pub no_sets : ℕ → BySet
no_sets sets = record { hits = replicate sets 0; joins = replicate sets 0; misses = replicate sets 0 }

abbrev pub no_waits : Waits
no_waits = record { loads = 0; rounds = 0; longest = 0; buckets = replicate WAIT_BUCKETS 0 }

abbrev pub nothing_told : MachineNumbers → Told
nothing_told z =
    record {
      kinds = record { loads = no_finds; stores = no_finds; prefetches = no_finds };
      sets = no_sets z.sets;
      waits = no_waits;
      waits_from_asking = no_waits;
      accepted_in = replicate TAGS 0;
      asked_in = replicate TAGS 0;
      stalled_since = None;
    }

abbrev pub no_ends : MachineNumbers → RoundEnds
no_ends z = record { registers = replicate (z.regs + 1) 0; owed = replicate (z.replies + 1) 0 }

-- ---- the sums of the counts

abbrev pub finds_total : Finds → ℕ
finds_total f = f.accepted + (f.hits + (f.joins + f.misses))

abbrev pub kinds_total : ByKind → ℕ
kinds_total k = finds_total k.loads + (finds_total k.stores + finds_total k.prefetches)

abbrev pub sets_total : BySet → ℕ
sets_total b = sum b.hits + (sum b.joins + sum b.misses)

abbrev pub waits_total : Waits → ℕ
waits_total w = w.loads + sum w.buckets

abbrev pub told_total : Told → ℕ
told_total t = kinds_total t.kinds + (sets_total t.sets + (waits_total t.waits + waits_total t.waits_from_asking))

abbrev pub told_rounds : Told → ℕ
told_rounds t = t.waits.rounds + t.waits_from_asking.rounds

abbrev pub ends_total : RoundEnds → ℕ
ends_total e = sum e.registers + sum e.owed

-- ---- a run

abbrev pub numbers_of : Sizes → MachineNumbers
numbers_of z = record { block_words = z.block_words; sets = z.sets; regs = z.regs; replies = z.replies }

-- the details of a run with this table and these outcomes: its last round, in which nothing moves, is counted too
abbrev pub details_from : Table → Told → RoundEnds → ℕ → List Outcome → Details
details_from table t ends registers outcomes =
    let e = with_end ends registers (owed_of t) in
    record {
      table = table;
      kinds = t.kinds;
      sets = t.sets;
      registers = e.registers;
      owed = e.owed;
      waits = t.waits;
      waits_from_asking = t.waits_from_asking;
      outcomes = outcomes;
    }

-- what was told of a run, as it is counted
abbrev pub told_of : MachineNumbers → Run → Told
told_of z r = counted_all z (nothing_told z) r.told

-- n rounds of a run, by how each ended
unfoldable pub ends_of : ℕ → MachineNumbers → Run → RoundEnds
ends_of zero z r = no_ends z
ends_of (suc n) z r =
    let s = rounds_until_over (suc n) r in
    with_end (ends_of n z r) (used_registers s.state) (owed_of (told_of z s))

-- what became of so many requests of a run, the first ones: no more than there are end
abbrev pub outcomes_in : ℕ → Run → List Outcome
outcomes_in requests r = take requests (outcomes_of r.told)

-- the details of a run
abbrev pub details_of : Timing → MachineState → List Event → Details
details_of timing s requests =
    let z = numbers_of s.sizes in
    let r = whole_run timing s requests in
    details_from (table_of timing s requests) (told_of z r) (ends_of r.schedule.round z (start_of timing s requests))
    (used_registers r.state) (outcomes_in (length requests) r)
