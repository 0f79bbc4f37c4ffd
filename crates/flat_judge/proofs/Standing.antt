-- What follows from a plan's numbers.
use Rattle.std.proofs.Common.{ℕ, arith}
use Rattle.std.specs.Prelude.{◌+◌, ◌-◌, ◌*◌, ◌/◌, ◌%◌, ◌<◌, ◌≤◌}
use Rattle.std.proofs.Math.Nat.{mul-le-mul_right, div-mul-le_self, mod-lt, le-div_iff_mul-le}

-- a piece among many ends where all of them do, or before
pub piece_fits : (place many bytes within : ℕ) → place < many → within ≤ bytes → place * bytes + within ≤ many * bytes
piece_fits place many bytes within lt le = omega (arith, mul-le-mul_right bytes lt)

-- words of a width that a block has as often, or more, end where it does, or before
pub words_fit : (words bytes width : ℕ) → 1 ≤ width → words ≤ bytes / width → words * width ≤ bytes
words_fit words bytes width some le = (le-div_iff_mul-le some).0 le

-- one word or more are as wide as one
pub words_some : (words width : ℕ) → 1 ≤ words → width ≤ words * width
words_some words width some = omega (arith, mul-le-mul_right width some)

-- the last of so many blocks of set 0 is in memory
pub set_block_there : (many blocks sets : ℕ) → 1 ≤ blocks → 1 ≤ sets → many ≤ (blocks - 1) / sets + 1 → (many - 1) * sets < blocks
set_block_there many blocks sets some set most =
    omega (arith, (le-div_iff_mul-le {x = many - 1} {y = blocks - 1} set).0 (omega (arith, most)), some)

-- one that is picked among many is the last one, or before
pub picked_below : (drawn many step : ℕ) → 1 ≤ many → drawn % many * step ≤ (many - 1) * step
picked_below drawn many step some = mul-le-mul_right step (omega (arith, mod-lt drawn some))

-- there is a piece, where one fits
pub pieces_some : (bytes piece : ℕ) → 1 ≤ piece → piece ≤ bytes → 1 ≤ bytes / piece
pieces_some bytes piece some fits = (le-div_iff_mul-le some).1 (omega (arith, fits))

-- a piece that is picked ends where the block does, or before
pub piece_below : (place bytes piece : ℕ) → 1 ≤ piece → piece ≤ bytes → place % (bytes / piece) * piece + piece ≤ bytes
piece_below place bytes piece some fits =
    let picked : place % (bytes / piece) < bytes / piece = mod-lt place (pieces_some bytes piece some fits) in
    omega (arith, mul-le-mul_right piece picked, div-mul-le_self bytes piece)
