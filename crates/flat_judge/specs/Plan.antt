-- What a plan says.
use Rattle.std.specs.Prelude.{ℕ, ◌+◌, ◌-◌, ◌*◌, ◌/◌, ◌%◌, ◌^◌, ◌≢◌, ◌≤◌, Bool, ◌&&◌, ◌||◌, ◌==◌, if◌then◌else◌, nat_lt, nat_le}
use Rattle.flat_judge.specs.declared.plan.Plan.{Plan}

-- ---- what is used

-- the bytes of each block: all, or those of its first words
unfoldable pub used_bytes : Plan → ℕ
used_bytes p = if p.words == 0 then p.block_bytes else p.words * p.widest

-- how many blocks are in set 0
unfoldable pub set_blocks : Plan → ℕ
set_blocks p = (p.blocks - 1) / p.sets + 1

-- how many of them conflicts go to: all, or the first ones
unfoldable pub used_blocks : Plan → ℕ
used_blocks p = if p.blocks_of_set == 0 then set_blocks p else p.blocks_of_set

-- ---- as tests

-- there are blocks, and all of them lie below 2^64
unfoldable pub has_memory : Plan → Bool
has_memory p =
    nat_lt 0 p.blocks && nat_lt 0 p.block_bytes && p.base % p.block_bytes == 0
    && nat_lt (p.blocks * p.block_bytes - 1) (2 ^ 64 - p.base)

-- accesses have a width: one of 1, 2, 4, .. 64 bytes, by which a block is cut evenly, into the words that are used or more
unfoldable pub has_widths : Plan → Bool
has_widths p =
    nat_lt 0 p.widest && nat_le p.widest 64 && 64 % p.widest == 0
    && nat_le p.widest p.block_bytes && p.block_bytes % p.widest == 0 && nat_le p.words (p.block_bytes / p.widest)

-- there is a set, of as many blocks as are used of it, or more
unfoldable pub has_sets : Plan → Bool
has_sets p = nat_lt 0 p.sets && nat_le p.blocks_of_set (set_blocks p)

-- somebody asks, and has bytes of its own where it wants them
unfoldable pub has_requesters : Plan → Bool
has_requesters p =
    nat_lt 0 p.burst && nat_lt 0 p.requesters && (p.apart == 0 || nat_le p.requesters (used_bytes p))

-- each number of a plan is in its range
unfoldable pub is_plan : Plan → Bool
is_plan p = has_memory p && has_widths p && has_sets p && has_requesters p

-- ---- as bounds

pub record Memory (p : Plan) : Type 0 where
  pub blocks : 1 ≤ p.blocks
  pub bytes : 1 ≤ p.block_bytes
  pub ends : p.base + p.blocks * p.block_bytes ≤ 2 ^ 64

pub record Widths (p : Plan) : Type 0 where
  pub narrow : 1 ≤ p.widest
  pub wide : p.widest ≤ 64
  pub fits : p.widest ≤ p.block_bytes
  pub words : p.words * p.widest ≤ p.block_bytes

pub record Sets (p : Plan) : Type 0 where
  pub sets : 1 ≤ p.sets
  pub blocks : p.blocks_of_set ≤ set_blocks p

pub record Requesters (p : Plan) : Type 0 where
  pub burst : 1 ≤ p.burst
  pub requesters : 1 ≤ p.requesters
  pub own : p.apart ≢ 0 → p.requesters ≤ used_bytes p
