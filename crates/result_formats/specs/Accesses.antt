-- What is counted of the accesses of a log: each is as its worst word.
use Rattle.std.specs.Prelude.{ℕ, ◌+◌, Bool, true, false, if◌then◌else◌, List, [], ◌∷◌, take, drop}
use Rattle.std.specs.List.{list_any}
use Rattle.access_logs.specs.declared.access.AccessKind.{AccessKind}
use Rattle.access_logs.specs.declared.access.AccessKind.TheVariants.{Load, Store, Modify}
use Rattle.access_logs.specs.declared.reading.AccessGroup.{AccessGroup}
use Rattle.round_driver.specs.declared.outcomes.Outcome.{Outcome}
use Rattle.round_driver.specs.declared.outcomes.Outcome.TheVariants.{Hit, Join, Miss, Evicted, Denied}
use Rattle.result_formats.specs.declared.accesses.AccessFinds.{AccessFinds}
use Rattle.result_formats.specs.declared.accesses.AccessCounts.{AccessCounts}

-- ---- what became of an access

abbrev pub is_denied : Outcome → Bool
is_denied Denied = true
is_denied outcome = false

abbrev pub is_miss : Outcome → Bool
is_miss Miss = true
is_miss outcome = false

abbrev pub is_join : Outcome → Bool
is_join Join = true
is_join outcome = false

-- That of its worst word: it was denied if any of its words was, and else a miss if any missed, and else a join if any
-- joined, and else a hit.
unfoldable pub access_outcome : List Outcome → Outcome
access_outcome words =
    if list_any is_denied words then Denied
    else if list_any is_miss words then Miss
    else if list_any is_join words then Join
    else Hit

-- ---- counts

abbrev pub with_outcome : AccessFinds → Outcome → AccessFinds
with_outcome f Hit = record f { accesses = f.accesses + 1; hits = f.hits + 1 }
with_outcome f Join = record f { accesses = f.accesses + 1; joins = f.joins + 1 }
with_outcome f Miss = record f { accesses = f.accesses + 1; misses = f.misses + 1 }
with_outcome f Denied = record f { accesses = f.accesses + 1; denied = f.denied + 1 }
with_outcome f Evicted = record f { accesses = f.accesses + 1 }

-- a modification reads first, and counts as a read alone
abbrev pub with_access : AccessCounts → AccessKind → Outcome → AccessCounts
with_access c Load outcome = record c { reads = with_outcome c.reads outcome }
with_access c Modify outcome = record c { reads = with_outcome c.reads outcome }
with_access c Store outcome = record c { writes = with_outcome c.writes outcome }

-- each group has the next outcomes, as many as it has requests
abbrev pub counted_all : AccessCounts → List AccessGroup → List Outcome → AccessCounts
counted_all c [] outcomes = c
counted_all c (g ∷ gs) outcomes =
    counted_all (with_access c g.kind (access_outcome (take g.requests outcomes))) gs (drop g.requests outcomes)

abbrev pub no_finds : AccessFinds
no_finds = record { accesses = 0; hits = 0; joins = 0; misses = 0; denied = 0 }

-- the counts of accesses with these groups of requests, of which these became
abbrev pub counts_of : List AccessGroup → List Outcome → AccessCounts
counts_of groups outcomes = counted_all (record { reads = no_finds; writes = no_finds }) groups outcomes

-- the sum of the counts
abbrev pub finds_total : AccessFinds → ℕ
finds_total f = f.accesses + (f.hits + (f.joins + (f.misses + f.denied)))

abbrev pub counts_total : AccessCounts → ℕ
counts_total c = finds_total c.reads + finds_total c.writes
