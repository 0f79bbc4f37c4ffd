-- The access of each number: what is drawn for it, and what follows from that.
use Rattle.std.specs.Prelude.{ℕ, ◌+◌, ◌-◌, ◌*◌, ◌/◌, ◌%◌, ◌^◌, ◌≡◌, ◌≢◌, ◌<◌, ◌≤◌, max, if◌then◌else◌, ◌==◌, nat_lt, Bool, ◌&&◌, not}
use Rattle.std.specs.Prelude.{List, ◌++◌, drop, bit_xor}
use Rattle.rand_pcg.specs.Lcg.{Lcg, started, increment_of}
use Rattle.rand_pcg.specs.Pcg.{pcg32, multiplier_64}
use Rattle.rand_core.specs.Steps.{fill_via_u32, u64_via_u32}
use Rattle.rand_xoshiro.specs.SplitMix64.{mix_u64}
use Rattle.flat_judge.specs.declared.plan.Plan.{Plan}
use Rattle.flat_judge.specs.declared.access.Access.{Access}
use Rattle.flat_judge.specs.Plan.{is_plan, used_bytes, used_blocks}

-- ---- what is drawn

-- the word of SplitMix64 at a state: by it each number has another one
unfoldable pub mix_of : ℕ → ℕ
mix_of state = (mix_u64 state).0

-- where the generator of a number begins under a seed: of both, mixed
unfoldable pub state_of : ℕ → ℕ → ℕ
state_of seed number = mix_of (bit_xor (mix_of seed) number)

-- the generator of a burst, and the one of an access
unfoldable pub of_burst : ℕ → ℕ → Lcg
of_burst seed burst = started 64 multiplier_64 (state_of seed burst) (increment_of 64 burst)

unfoldable pub of_access : ℕ → ℕ → Lcg
of_access seed number = started 64 multiplier_64 (state_of (2 ^ 64 - 1 - seed) number) (increment_of 64 number)

-- the next word of a generator, and the generator behind it
unfoldable pub word : Lcg → ℕ
word g = (pcg32 g).0

unfoldable pub behind : Lcg → Lcg
behind g = (pcg32 g).1

-- the 64 bits that an access is drawn by behind two words, and the generator behind them
unfoldable pub chosen_by : Lcg → ℕ × Lcg
chosen_by g = u64_via_u32 pcg32 (behind (behind g))

-- a chance in 256ths, by a drawn number
abbrev pub happens : ℕ → ℕ → Bool
happens drawn share = nat_lt (drawn % 256) share

-- ---- what follows from it

-- the block of a burst: any, or one of set 0 that is used
unfoldable pub block_of : Plan → ℕ → ℕ → ℕ
block_of p seed burst =
    let g = of_burst seed burst in
    if happens (word (behind g)) p.conflicts then word g % used_blocks p * p.sets else word g % p.blocks

-- the bytes of an access: the widest, or a half, a quarter or an eighth of it; one, where each has bytes of its own
unfoldable pub length_of : Plan → ℕ → ℕ
length_of p pick = if p.apart == 0 then max 1 (p.widest / 2 ^ (pick % 4)) else 1

-- its place in what is used of the block: at a multiple of its length, or at one of the requester's own bytes
unfoldable pub offset_of : Plan → ℕ → ℕ → ℕ → ℕ
offset_of p requester length place =
    if p.apart == 0 then place % (used_bytes p / length) * length
    else place % (used_bytes p / p.requesters) * p.requesters + requester

-- the bytes that a store writes, none for a load: all, or some of them
unfoldable pub enables_of : Plan → ℕ → ℕ → ℕ → ℕ
enables_of p length pick chosen =
    if not (happens (pick / 4) p.stores) then 0 else
    if happens (pick / 1024) p.partial then chosen % 2 ^ length else (2 ^ 64 - 1) % 2 ^ length

-- the access of a number
unfoldable pub access_of : Plan → ℕ → ℕ → Access
access_of p seed number =
    let g = of_access seed number in
    let pick = word (behind g) in
    let requester = number % p.requesters in
    let length = length_of p pick in
    record {
      requester = requester;
      length = length;
      turn = number / p.requesters;
      address = p.base + block_of p seed (number / p.burst) * p.block_bytes + offset_of p requester length (word g);
      enables = enables_of p length pick (chosen_by g).0;
    }

-- what a store of this number writes, as far as so many bytes
unfoldable pub bytes_of : ℕ → ℕ → ℕ → List ℕ
bytes_of seed number n = (fill_via_u32 pcg32 n (chosen_by (of_access seed number)).1).0

-- ---- what holds of each

-- an access as the plan says: somebody who asks, one block of memory, bytes of the access, and of the requester
pub record IsOf (p : Plan) (a : Access) : Type 0 where
  pub asks : a.requester < p.requesters
  pub block : ℕ
  pub offset : ℕ
  pub there : block < p.blocks
  pub place : a.address ≡ p.base + block * p.block_bytes + offset
  pub fits : offset + a.length ≤ p.block_bytes
  pub used : offset + a.length ≤ used_bytes p
  pub some : 1 ≤ a.length
  pub bytes : a.length ≤ p.widest
  pub lanes : a.enables < 2 ^ a.length
  pub own : p.apart ≢ 0 → offset % p.requesters ≡ a.requester

-- ---- what C is told

-- 0: the access; 171: the numbers aren't a plan's; 109: there is no room for the widest access
abbrev pub status_of : Plan → ℕ → ℕ
status_of p room = if not (is_plan p) then 171 else if nat_lt room p.widest then 109 else 0

-- the row behind a call
abbrev pub row_behind : Access → ℕ → Access → Access
row_behind old status drawn = if status == 0 then drawn else old

-- the bytes behind a call: those of a store, and what stood behind them
abbrev pub bytes_behind : List ℕ → ℕ → ℕ → ℕ → Access → List ℕ
bytes_behind old status seed number drawn =
    if status == 0 && not (drawn.enables == 0) then bytes_of seed number drawn.length ++ drop drawn.length old else old
