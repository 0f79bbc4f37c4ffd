-- What the parts show is what the unit shows.
use Rattle.std.proofs.Common.{◌≡◌, ℕ, suc, nat_lt, ◌==◌, not, Bool, true, List, [], ◌∷◌, length, get_or, Some, None, refl, ◌∙◌}
use Rattle.std.proofs.Common.{arith, ◌+◌, zero, is_some, ◌&&◌, slice_get}
use Rattle.std.specs.List.{list_all}
use Rattle.std.proofs.lemmas.Option.{slice_get-get_or}
use Rattle.cache_law.specs.State.{Register, Cache, Frame}
use Rattle.cache_law.specs.Causes.{dirty_from}
use Rattle.flat_model.specs.Words.{has_any}
use Rattle.cache_directory.specs.declared.Cell.{Cell}
use Rattle.std.proofs.lemmas.Bool.Decides.{nat_tests}
use Rattle.cache_law.specs.Views.{is_clean}
use Rattle.cache_directory.specs.Frames as dir
use Rattle.miss_registers.specs.Registers as regs
use Rattle.miss_registers.specs.Views as shows

-- a register that isn't shown isn't there
pub not_shown : (rs : List Register) (slot : ℕ) → shows.register_view rs slot ≡ None → regs.register_at rs slot ≡ regs.free_register
not_shown [] slot e = refl
not_shown (r ∷ rs) zero e = cc
not_shown (r ∷ rs) (suc slot) e = not_shown rs slot e

pub some-within : {X : Type 0} (xs : List X) (i : ℕ) → is_some (slice_get xs i) ≡ nat_lt i (length xs)
some-within [] i = grind arith
some-within (x ∷ xs) zero = grind arith
some-within (x ∷ xs) (suc i) = some-within xs i ∙ grind (arith, nat_tests)

pub none_dirty : (block at : ℕ) (cells : List Cell)
    → (length (dirty_from block at cells) == 0) ≡ list_all (λ cell. not (has_any cell.dirty)) cells
none_dirty block at [] = refl
none_dirty block at (x ∷ cells) = grind (arith, nat_tests, none_dirty block (at + 1) cells)

pub cell-there : (cells : List Cell) (i : ℕ) → is_some (slice_get cells i) ≡ true → slice_get cells i ≡ Some (get_or cells i dir.zero_cell)
cell-there cells i e = grind (arith, slice_get-get_or, some-within)

abbrev pub all_free : List Register → Bool
all_free rs = list_all (λ r. not r.valid) rs

abbrev pub all_clean : List Frame → Bool
all_clean fs = list_all (λ f. list_all (λ cell. not (has_any cell.dirty)) f.cells) fs

pub clean_by : (c : Cache) (free clean none : Bool) → all_free c.registers ≡ free → all_clean c.directory.frames ≡ clean
    → (length c.queue == 0) ≡ none → (free && (clean && none)) ≡ is_clean c
clean_by c free clean none a b e = grind arith
