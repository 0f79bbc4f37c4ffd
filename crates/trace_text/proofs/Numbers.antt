-- The number that digits stand for is the one that has them.
use Rattle.std.proofs.Common.{◌≡◌, ℕ, zero, suc, ◌+◌, ◌-◌, ◌*◌, ◌^◌, ◌<◌, ◌≤◌, Bool, true, false, List, [], ◌∷◌, length}
use Rattle.std.proofs.Common.{Some, get_or, refl, arith, decimal}
use Rattle.std.specs.Prelude.{cond}
use Rattle.std.proofs.Common.{rules}
use Rattle.std.proofs.lemmas.Str.Parse.{IsNumeralModel, numerals_by_fold}
use Rattle.std.proofs.lemmas.Fmt.{decimal-digits_value, digits_decimal, digits_value-decimal, decimal_nonempty, first_decimal}
use Rattle.std.proofs.lemmas.Fmt.{decimal_digit}
use Rattle.trace_text.specs.Fields.{is_digit, number_after, begins_badly, number_of}

abbrev pub read_on : ℕ → List ℕ → ℕ
read_on n [] = n
read_on n (c ∷ cs) = read_on (n * 10 + (c - 48)) cs

abbrev pub all_digits : List ℕ → Bool
all_digits [] = true
all_digits (c ∷ cs) = cond (is_digit c) (all_digits cs) false

pub own : IsNumeralModel (λ ds. all_digits ds ≡ true) (read_on 0)
own = numerals_by_fold _ (search rules) read_on (search rules)

after_reads : (most n m : ℕ) (bs : List ℕ) → n ≤ most → number_after most n bs ≡ Some m → (all_digits bs ≡ true) × (read_on n bs ≡ m) ×
    (m ≤ most)
after_reads most n m [] le e = grind arith
after_reads most n m (b ∷ bs) le e = grind (arith, after_reads most (n * 10 + (b - 48)) m bs)

read_ge : (n : ℕ) (bs : List ℕ) → n ≤ read_on n bs
read_ge n [] = omega arith
read_ge n (b ∷ bs) = omega (arith, read_ge (n * 10 + (b - 48)) bs)

after_gives : (most n : ℕ) (bs : List ℕ) → all_digits bs ≡ true → read_on n bs ≤ most → number_after most n bs ≡ Some (read_on n bs)
after_gives most n [] e le = refl
after_gives most n (b ∷ bs) e le = grind (arith, read_ge (n * 10 + (b - 48)) bs, after_gives most (n * 10 + (b - 48)) bs)

good_front : (ds : List ℕ) → begins_badly ds ≡ false → (0 < length ds) × (get_or ds 0 0 ≡ 48 → length ds ≡ 1)
good_front [] e = cc
good_front (a ∷ ds) e = grind arith

front_good : (ds : List ℕ) → 0 < length ds → (get_or ds 0 0 ≡ 48 → length ds ≡ 1) → begins_badly ds ≡ false
front_good [] some h = absurd (omega arith)
front_good (a ∷ ds) some h = grind arith

short : (n : ℕ) → n < 2 ^ 64 → get_or (decimal n) 0 0 ≡ 48 → length (decimal n) ≡ 1
short zero fits is = grind (arith, decimal_digit)
short (suc n) fits is = grind (arith, first_decimal)

pub number_read : (most n : ℕ) (text : List ℕ) → most < 2 ^ 32 → number_of most text ≡ Some n → (text ≡ decimal n) × (n ≤ most)
number_read most n text small e =
    grind (arith, after_reads most 0 n text, good_front text, decimal-digits_value own text)

pub number_written : (most n : ℕ) → most < 2 ^ 32 → n ≤ most → number_of most (decimal n) ≡ Some n
number_written most n small le = grind (arith, digits_value-decimal, own, front_good, decimal_nonempty, short, after_gives, digits_decimal)

-- a number's text has digits alone
pub decimal_digits : (n : ℕ) → n < 2 ^ 64 → all_digits (decimal n) ≡ true
decimal_digits n fits = digits_decimal own n fits
