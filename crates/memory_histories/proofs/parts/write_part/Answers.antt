use Rattle.std.proofs.Common.{◌≡◌, ℕ, zero, suc, ◌+◌, ◌==◌, if◌then◌else◌, List, None, map, slice_get, refl, arith}
use Rattle.std.specs.Int.{bit_at}
use Rattle.std.specs.List.{range_with_len}
use Rattle.memory_histories.specs.Parts.{lane_at, lanes_of}
use Rattle.memory_histories.proofs.Lanes.{lane_stored}
use Rattle.memory_histories.proofs.parts.write_part.Goals as goal

-- the lanes from the first byte of a store on
lanes_from : (a : ℕ) (bs : List ℕ) (e n k : ℕ)
    → map (λ i. if bit_at e i == 1 then slice_get bs i else None) (range_with_len k n)
    ≡ map (lane_at a (lanes_of bs e)) (range_with_len (a + k) n)
lanes_from a bs e zero k = refl
lanes_from a bs e (suc n) k = grind (arith, lane_stored, lanes_from a bs e n (k + 1))

pub returns-then-is_whole : goal.returns-then-is_whole
returns-then-is_whole c = grind (arith, lanes_from c.args.from c.args.bytes.now c.args.enables 8 0)
