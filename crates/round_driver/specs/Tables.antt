-- What is counted of a run: each number is a fold over what was told.
use Rattle.std.specs.Prelude.{ℕ, ◌+◌, ◌-◌, Bool, true, false, if◌then◌else◌, List, [], ◌∷◌, replicate, Option, Some, None, max, slice_set}
use Rattle.std.specs.Prelude.{slice_index_or}
use Rattle.machine_core.specs.Words.{Cause, TagInUse, RepliesFull, TargetsFull, BlockQueued, NoRegister, SetPending, QueueFull, BankFull}
use Rattle.machine_core.specs.Words.{Event, Load, Drain, Answer, Accepted, Moved, Value, Nothing, Refused, Lookup, Hit, Join, Miss}
use Rattle.flat_model.specs.Causes.{passes}
use Rattle.machine_core.specs.Machine.{MachineState}
use Rattle.round_driver.specs.Rounds.{whole_run}
use Rattle.round_driver.specs.declared.note.Note.{Note}
use Rattle.round_driver.specs.declared.timing.Timing.{Timing}
use Rattle.round_driver.specs.declared.table.TheConstants.{TAGS}
use Rattle.round_driver.specs.declared.table.Table.{Table}
use Rattle.round_driver.specs.declared.table.LostRounds.{LostRounds}
use Rattle.round_driver.specs.declared.table.Counter.{Counter}

-- the counts so far, when each tag's load was accepted, and whether the request at hand has stalled
pub record Counting : Type 0 where
  pub table : Table
  pub since : List ℕ
  pub is_stalled : Bool

abbrev pub counting : Counter → Counting
counting c = record { table = c.table; since = c.since.items; is_stalled = c.is_stalled }

-- ---- the lost rounds

abbrev pub with_lost : LostRounds → Cause → LostRounds
with_lost l TagInUse = record l { tag_in_use = l.tag_in_use + 1 }
with_lost l RepliesFull = record l { replies_full = l.replies_full + 1 }
with_lost l TargetsFull = record l { targets_full = l.targets_full + 1 }
with_lost l BlockQueued = record l { block_queued = l.block_queued + 1 }
with_lost l NoRegister = record l { no_register = l.no_register + 1 }
with_lost l SetPending = record l { set_pending = l.set_pending + 1 }
with_lost l QueueFull = record l { queue_full = l.queue_full + 1 }
with_lost l BankFull = record l { bank_full = l.bank_full + 1 }
with_lost l cause = l

abbrev pub lost_total : LostRounds → ℕ
lost_total l =
    l.tag_in_use
    + (l.replies_full
    + (l.targets_full + (l.block_queued + (l.no_register + (l.set_pending + (l.queue_full + l.bank_full))))))

-- ---- one event

-- what an accepted request found, and the most registers in use behind one
abbrev pub table_with_found : Table → Option Lookup → Table
table_with_found t (Some Hit) = record t { hits = t.hits + 1 }
table_with_found t (Some Join) = record t { joins = t.joins + 1 }
table_with_found t (Some Miss) = record t { misses = t.misses + 1 }
table_with_found t None = t

abbrev pub with_found : Counting → Option Lookup → ℕ → Counting
with_found c lookup used =
    let t = table_with_found c.table lookup in
    record c { table = record t { registers = max t.registers used } }

-- when the load of each tag was accepted
abbrev pub since_with : List ℕ → Event → ℕ → List ℕ
since_with since (Load tag at) now = slice_set since tag now
since_with since event now = since

abbrev pub with_accepted : Counting → Note → Counting
with_accepted c n =
    with_found (record {
      table = record c.table { accepted = c.table.accepted + 1 };
      since = since_with c.since n.event n.round;
      is_stalled = false;
    }) n.found n.registers

-- a request stalls once, however often it is asked again
abbrev pub with_stall : Counting → Counting
with_stall c = record c { table = record c.table { stalled = c.table.stalled + (if c.is_stalled then 0 else 1) }; is_stalled = true }

abbrev pub with_denial : Counting → Counting
with_denial c = record c { table = record c.table { denied = c.table.denied + 1 }; is_stalled = false }

abbrev pub with_refused : Counting → Cause → Counting
with_refused c cause =
    if passes cause then with_stall (record c { table = record c.table { lost = with_lost c.table.lost cause } }) else with_denial c

-- a load's wait, from the round that accepted it to the round that answered it
abbrev pub wait_of : Counting → ℕ → ℕ → ℕ
wait_of c tag now = now - slice_index_or c.since tag 0

abbrev pub with_value : Counting → ℕ → ℕ → Counting
with_value c tag now =
    let wait = wait_of c tag now in
    record c {
      table = record c.table { values = c.table.values + 1; waited = c.table.waited + wait; longest = max c.table.longest wait };
    }

abbrev pub with_moved : Counting → Event → Counting
with_moved c Drain = record c { table = record c.table { written = c.table.written + 1 } }
with_moved c event = c

abbrev pub counted_as : Counting → Note → Answer → Counting
counted_as c n Accepted = with_accepted c n
counted_as c n Moved = with_moved c n.event
counted_as c n (Value tag word) = with_value c tag n.round
counted_as c n Nothing = c
counted_as c n (Refused cause) = with_refused c cause

unfoldable pub counted : Counting → Note → Counting
counted c n = counted_as c n n.answer

-- ---- a run

abbrev pub no_lost : LostRounds
no_lost =
    record {
      tag_in_use = 0;
      replies_full = 0;
      targets_full = 0;
      block_queued = 0;
      no_register = 0;
      set_pending = 0;
      queue_full = 0;
      bank_full = 0;
    }

abbrev pub empty_table : Table
empty_table =
    record {
      rounds = 0;
      accepted = 0;
      denied = 0;
      hits = 0;
      joins = 0;
      misses = 0;
      stalled = 0;
      lost = no_lost;
      values = 0;
      waited = 0;
      longest = 0;
      registers = 0;
      written = 0;
    }

abbrev pub nothing : Counting
nothing = record { table = empty_table; since = replicate TAGS 0; is_stalled = false }

abbrev pub counted_all : Counting → List Note → Counting
counted_all c [] = c
counted_all c (n ∷ ns) = counted_all (counted c n) ns

-- the sum of the counts
abbrev pub total : Table → ℕ
total t =
    t.accepted + (t.denied + (t.hits + (t.joins + (t.misses + (t.stalled + (t.values + (t.written + lost_total t.lost)))))))

abbrev pub with_rounds : Counting → ℕ → Table
with_rounds c rounds = record c.table { rounds = rounds }

-- the table of a run: the last round, in which nothing moves, is counted
abbrev pub table_of : Timing → MachineState → List Event → Table
table_of timing s requests =
    let r = whole_run timing s requests in
    with_rounds (counted_all nothing r.told) (r.schedule.round + 1)
