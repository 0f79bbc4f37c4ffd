-- How an axis is divided: its numbers as marks, up to the first that the greatest value doesn't exceed.
use Rattle.std.specs.Prelude.{ℕ, ◌-◌, ◌*◌, ◌/◌, ◌&&◌, ◌||◌, Bool, if◌then◌else◌, nat_le, nat_lt, Option, Some, None, List, [], ◌∷◌, ◌++◌}
use Rattle.std.specs.List.{flat_map}
use Rattle.result_figures.specs.declared.mark.Mark.{Mark}
use Rattle.result_figures.specs.declared.mark.Mark.TheVariants.{Tick}
use Rattle.result_figures.specs.declared.mark.Scale.{Scale}
use Rattle.result_figures.specs.declared.mark.Scale.TheVariants.{Linear, Logarithmic}
use Rattle.result_figures.specs.declared.scale.TheConstants.{MOST_STEPS, STEPS, TENS}

-- 1, 2 or 5 times this power of ten, the least of which so many steps reach the largest value
abbrev pub step_of : (ten most steps : ℕ) → Option ℕ
step_of ten most steps =
    if nat_le most (steps * ten) then Some ten
    else if nat_le most (steps * (2 * ten)) then Some (2 * ten)
    else if nat_le most (steps * (5 * ten)) then Some (5 * ten)
    else None

-- the first of these
abbrev pub some_or : Option ℕ → ℕ → ℕ
some_or (Some step) otherwise = step
some_or None otherwise = otherwise

abbrev pub step_among : List ℕ → (most steps : ℕ) → ℕ
step_among [] most steps = most
step_among (ten ∷ tens) most steps = some_or (step_of ten most steps) (step_among tens most steps)

-- a multiple of the step is on the axis if the one before it doesn't reach the greatest value
abbrev pub is_on : (step most count : ℕ) → Bool
is_on step most count = nat_le count 1 || nat_lt (step * (count - 1)) most

abbrev pub multiple : (step most count : ℕ) → List Mark
multiple step most count = if is_on step most count then Tick (step * count) ∷ [] else []

abbrev pub multiples : (step most : ℕ) → List ℕ → List Mark
multiples step most counts = flat_map (multiple step most) counts

-- The step is the least of 1, 2, 5, 10, 20, 50 .. of which so many reach the greatest value.
abbrev pub linear : (most steps : ℕ) → List Mark
linear most steps = multiples (step_among TENS most steps) most STEPS

-- ---- factors

-- a number with those before and behind it
abbrev pub between : (least most before value behind : ℕ) → List Mark
between least most before value behind = if nat_lt least behind && nat_lt before most then Tick value ∷ [] else []

-- 1, 2 and 5 times a power of ten; this alone, if they would be too many
abbrev pub decade : (least most ten : ℕ) → List Mark
decade least most ten =
    if nat_lt (1000 * least) most then between least most (ten / 10) ten (10 * ten)
    else between least most (ten / 2) ten (2 * ten) ++ between least most ten (2 * ten) (5 * ten)
    ++ between least most (2 * ten) (5 * ten) (10 * ten)

abbrev pub decades : (least most : ℕ) → List ℕ → List Mark
decades least most tens = flat_map (decade least most) tens

-- the numbers of an axis from a least to a greatest value
abbrev pub ticks : Scale → (least most : ℕ) → List Mark
ticks Linear least most = linear most MOST_STEPS
ticks Logarithmic least most = decades least most TENS
