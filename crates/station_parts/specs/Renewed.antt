-- What a renewal makes of a station, and when it is refused.
use Rattle.std.specs.Prelude.{◌≡◌, ◌≢◌, ◌≤◌, ◌<◌, ◌+◌, ℕ, false, List, [], ◌++◌, length, map}
use Rattle.std.specs.List.{All}
use Rattle.station_journal.specs.declared.journal.Entry.{Entry}
use Rattle.station_parts.specs.declared.make.TheConstants.{MAX_NOTED}
use Rattle.station_parts.specs.declared.port.Port.{Port}
use Rattle.station_parts.specs.declared.bank.BankSide.{BankSide}
use Rattle.station_parts.specs.declared.parts.CacheSide.{CacheSide}
use Rattle.station_parts.specs.declared.parts.Audit.TheVariants.{Clean}
use Rattle.station_parts.specs.declared.renewal.RenewFault.{RenewFault}
use Rattle.station_parts.specs.declared.renewal.RenewFault.TheVariants.{WornOut, OutOfMemory, NotClean}
use Rattle.station_parts.specs.Words.{offered, offered_before, taken, has_ended, known_places, earlier_of, held_of, journal_of}
use Rattle.station_parts.specs.Words.{journal_limit, fault_in, cache_in, asked_at, told_at, commands_at, words_at, telling_places}
use Rattle.station_parts.specs.Words.{command_places}
use Rattle.station_parts.specs.Audited.{AreAtMost, LeavesCache, LeavesPorts, audit_of}

-- how many entries the side has noted in all once one journal more is full
abbrev pub noted_after : CacheSide → ℕ
noted_after c = length (journal_of c) + journal_limit c

-- the segment at hand is handed out, and the side goes on as it stood
pub record RenewsCache (old new : CacheSide) (segment : List Entry) : Type 0 where
  pub segment_is : segment ≡ held_of old
  -- it stands behind those that were handed out before, an empty one is begun, and in all it is the same journal
  pub earlier : earlier_of new ≡ earlier_of old ++ segment
  pub held : held_of new ≡ []
  pub journal : journal_of new ≡ journal_of old
  -- the unit, the rings' lists and the fault are as they were, and no free place was forgotten
  pub fault : fault_in new ≡ fault_in old
  pub cache : cache_in new ≡ cache_in old
  pub asked : (p : ℕ) → asked_at new p ≡ asked_at old p
  pub told : (p : ℕ) → told_at new p ≡ told_at old p
  pub commands : (b : ℕ) → commands_at new b ≡ commands_at old b
  pub words : (b : ℕ) → words_at new b ≡ words_at old b
  pub for_tellings : (p : ℕ) → telling_places old p ≤ telling_places new p
  pub for_commands : (b : ℕ) → command_places old b ≤ command_places new b

-- all of the side but its journal is as it was
pub record GoesOn (old new : CacheSide) : Type 0 where
  pub unit : new.unit ≡ old.unit
  pub asks : new.asks ≡ old.asks
  pub tellings : new.tellings ≡ old.tellings
  pub row : new.row ≡ old.row
  pub answers : new.answers ≡ old.answers
  pub limit : new.limit ≡ old.limit
  pub fault : new.fault ≡ old.fault

-- each port may offer again, and what it has offered and taken is as it was
pub record ResumesPorts (old new : List Port) : Type 0 where
  -- it begins again here, so it has offered nothing since, and no Done
  pub before : All (λ p. offered_before p ≡ offered p) new
  pub again : All (λ p. has_ended p ≡ false) new
  pub offered : map offered new ≡ map offered old
  pub taken : map taken new ≡ map taken old
  pub for_asks : AreAtMost (map known_places old) (map known_places new)

-- why nothing was handed out: where too many entries would be noted, or memory is short, nothing has changed; else an
-- audit that found something has looked, and nothing else has changed
abbrev pub IsRefused : RenewFault → CacheSide → CacheSide → List Port → List Port → List BankSide
    → List BankSide → Type 0
IsRefused WornOut cache cache' ports ports' banks banks' =
    (MAX_NOTED < noted_after cache) × (cache' ≡ cache) × (ports' ≡ ports) × (banks' ≡ banks)
IsRefused OutOfMemory cache cache' ports ports' banks banks' =
    (noted_after cache ≤ MAX_NOTED) × (cache' ≡ cache) × (ports' ≡ ports) × (banks' ≡ banks)
IsRefused (NotClean found) cache cache' ports ports' banks banks' =
    (noted_after cache ≤ MAX_NOTED) × (found ≡ audit_of cache' ports' banks') × (found ≢ Clean) × LeavesCache cache cache' ×
    LeavesPorts ports ports'
