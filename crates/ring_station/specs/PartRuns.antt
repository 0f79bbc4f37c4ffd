-- What a run makes of the cache side and of a bank.
use Rattle.std.specs.Prelude.{◌≡◌, ℕ, ◌+◌, ◌<◌, ◌≤◌, Bool, true, false, List, [], ◌∷◌, length, slice_index_or, slice_get, Option, Some}
use Rattle.std.specs.Prelude.{None}
use Rattle.station_journal.specs.declared.journal.Entry.{Entry}
use Rattle.station_journal.specs.declared.journal.Entry.TheVariants.{Step, Ended}
use Rattle.station_parts.specs.declared.bank.BankSide.{BankSide}
use Rattle.station_parts.specs.declared.parts.CacheSide.{CacheSide}
use Rattle.station_parts.specs.Ids.{bank_id, cache_id}
use Rattle.station_parts.specs.Rest.{is_at_rest}
use Rattle.station_parts.specs.Words.{received_by, earlier_of, held_of, journal_limit, cache_in}
use Rattle.ring_station.specs.declared.thread_end.ThreadEnd.{ThreadEnd}
use Rattle.ring_station.specs.Ends.{HasEnded}
use Rattle.ring_station.specs.Turns.{IsStuck}

-- ---- a bank

-- a step of the bank has found nothing that it could serve, and it has served nothing since
pub record HasFinished (bank : BankSide) : Type 0 where
  pub last : BankSide
  pub stuck : IsStuck last
  pub served : received_by bank ≡ received_by last

-- a thread of a bank with so many turns: at most one command was served in each that it began. It takes no memory and has
-- no journal
pub record BankRan (turns : ℕ) (old new : BankSide) (end : ThreadEnd) : Type 0 where
  pub same : bank_id new ≡ bank_id old
  pub served : length (received_by new) ≤ length (received_by old) + end.turns
  pub ended : HasEnded (HasFinished new) ⊥ ⊥ turns end

-- each bank
pub record BanksRan (turns : ℕ) (old new : List BankSide) (ends : List ThreadEnd) : Type 0 where
  pub number : length new ≡ length old
  pub ended : length ends ≡ length old
  pub each : (b : ℕ) (d : BankSide) (e : ThreadEnd) → b < length old
      → BankRan turns (slice_index_or old b d) (slice_index_or new b d) (slice_index_or ends b e)

-- ---- the cache side

-- an entry that ends a port
abbrev pub is_ended : Entry → Bool
is_ended (Ended port) = true
is_ended (Step source event answer) = false

-- the entry at a place is there, and ends a port
abbrev pub is_end : Option Entry → Bool
is_end (Some entry) = is_ended entry
is_end None = false

abbrev pub ends_at : List Entry → ℕ → Bool
ends_at entries place = is_end (slice_get entries place)

-- how many ports have said in a journal that they offer no more
abbrev pub ended_in : List Entry → ℕ
ended_in [] = 0
ended_in (Ended port ∷ rest) = ended_in rest + 1
ended_in (Step source event answer ∷ rest) = ended_in rest

-- nothing is under way, and so many ports have said since the run began that they offer no more
pub record IsServed (ports : ℕ) (old new : CacheSide) : Type 0 where
  pub rests : is_at_rest (cache_in new) ≡ true
  pub ended : ended_in (held_of old) + ports ≤ ended_in (held_of new)

-- the thread of a cache side with so many ports and turns: at most one entry was noted in each that it began, and none was
-- handed out. It takes no memory
pub record CacheRan (ports turns : ℕ) (old new : CacheSide) (end : ThreadEnd) : Type 0 where
  pub same : cache_id new ≡ cache_id old
  pub earlier : earlier_of new ≡ earlier_of old
  pub noted : length (held_of new) ≤ length (held_of old) + end.turns
  pub ended : HasEnded (IsServed ports old new) ⊥ (journal_limit new ≤ length (held_of new)) turns end
