-- What a number between two others is.
use Rattle.std.proofs.Common.{◌≡◌, ℕ, ◌≤◌, true, nat_le, refl}
use Rattle.std.proofs.lemmas.Bool.{leb-true, le-leb, and_parts}
use Rattle.flat_model.specs.Ranges.{is_between}

pub between : (n low high : ℕ) → is_between n low high ≡ true → (low ≤ n) × (n ≤ high)
between n low high e =
    let p = and_parts (nat_le low n) (nat_le n high) e in
    (leb-true low n p.0, leb-true n high p.1)

pub inside : (n low high : ℕ) → low ≤ n → n ≤ high → is_between n low high ≡ true
inside n low high l h = rw (le-leb low n l, le-leb n high h) refl
