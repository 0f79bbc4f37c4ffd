-- Rooms decide nothing but cause 10.
use Rattle.std.proofs.Common.{◌≡◌, ℕ, ◌+◌, ◌*◌, ◌%◌, ◌<◌, ◌≤◌, false, ◌==◌, nat_lt}
use Rattle.std.proofs.Common.{List, [], length, arith, le-ltb, lt-ltb}
use Rattle.std.specs.List.{filter}
use Rattle.std.proofs.lemmas.List.Sums.{length-filter, count_by-le-length}
use Rattle.std.proofs.lemmas.List.FromFn.{length-range_with_len}
use Rattle.memory_banks.specs.Banks.{Bank, bank_at, room_in}
use Rattle.cache_law.specs.declared.Sizes.{Sizes}
use Rattle.cache_law.specs.State.{first_of}
use Rattle.cache_law.specs.Causes.{addresses, lacks_room}
use Rattle.memory_banks.proofs.Spreading.{spread_evenly}
use Rattle.cache_law.proofs.Rooms.{any_false}
use Rattle.station_journal.specs.Journal.{ample}

-- ---- rooms in which no block is too large

abbrev pub Suffices : Sizes → (ℕ → ℕ) → Type 0
Suffices z room = (block : ℕ) → lacks_room z room block ≡ false

pub ample-suffices : (z : Sizes) → Suffices z (ample z)
ample-suffices z block = any_false _ 0 _ each
  where
    each : (b : ℕ) → 0 ≤ b → b < 0 + z.banks → nat_lt z.block_words (length (filter (λ at. at % z.banks == b) (addresses z block))) ≡ false
    each b lo hi = grind (arith, length-filter, count_by-le-length, length-range_with_len, le-ltb)

-- the rooms of banks in which nothing waits
pub idle-suffices : (z : Sizes) (banks : List Bank) → z.block_words ≤ z.bank_queue * z.banks → length banks ≡ z.banks
    → ((b : ℕ) → b < z.banks → (bank_at banks b).queue ≡ []) → Suffices z (room_in z.bank_queue banks)
idle-suffices z banks takes n idle block = any_false _ 0 _ each
  where
    each : (b : ℕ) → 0 ≤ b → b < 0 + z.banks
        → nat_lt (room_in z.bank_queue banks b) (length (filter (λ at. at % z.banks == b) (addresses z block))) ≡ false
    each b lo hi =
        grind (arith, idle, le-ltb, lt-ltb, spread_evenly _ b (first_of z block) _ _ (omega arith) takes)
