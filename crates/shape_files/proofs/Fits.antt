-- A shape whose fields are in range has the numbers of a machine.
use Rattle.std.proofs.Common.{◌≡◌, ℕ, ◌≤◌, ◌%◌, Bool, true, false, ◌&&◌, ◌==◌, None, refl, sym, ◌∙◌, arith}
use Rattle.std.proofs.lemmas.Grind.{common_steps}
use Rattle.std.proofs.lemmas.Bool.{and_parts, true≢false as no}
use Rattle.flat_model.specs.declared.ShapeField.TheVariants.{BlockWords, Ways, Regs, Depth, Words}
use Rattle.flat_model.specs.declared.limits.TheConstants.{MAX_BLOCK_WORDS, MAX_WAYS, MAX_REGS, MAX_DEPTH, MAX_WORDS, MAX_MEMORY}
use Rattle.flat_model.specs.Ranges.{is_between}
use Rattle.flat_model.proofs.Ranges.{between, inside}
use Rattle.cache_unit.specs.Sizes.{Sizes}
use Rattle.cache_unit.specs.Limits as limits
use Rattle.cache_unit.proofs.Numbers.{passed}
use Rattle.shape_files.specs.declared.shape_file.TheConstants.{MOST_WAYS}
use Rattle.shape_files.specs.declared.shape_file.ToolShape.{ToolShape}
use Rattle.shape_files.specs.MachineFile.{bad_machine}
use Rattle.shape_files.specs.ShapeFile.{is_register_count, sizes_of, bad_field}

some_registers : (n : ℕ) → is_register_count n ≡ true → (1 ≤ n) × (n ≤ 8)
some_registers n h = go (1 == n) refl (2 == n) refl (4 == n) refl (8 == n) refl
  where
    go : (a : Bool) → (1 == n) ≡ a → (b : Bool) → (2 == n) ≡ b → (c : Bool) → (4 == n) ≡ c → (d : Bool) → (8 == n) ≡ d → (1 ≤ n) × (n ≤ 8)
    go true e b f c i d j = let is : n ≡ 1 = grind (arith, common_steps, e) in (omega (arith, is), omega (arith, is))
    go false e true f c i d j = let is : n ≡ 2 = grind (arith, common_steps, f) in (omega (arith, is), omega (arith, is))
    go false e false f true i d j = let is : n ≡ 4 = grind (arith, common_steps, i) in (omega (arith, is), omega (arith, is))
    go false e false f false i true j = let is : n ≡ 8 = grind (arith, common_steps, j) in (omega (arith, is), omega (arith, is))
    go false e false f false i false j =
        let none : is_register_count n ≡ false = rw (e, f, i, j) refl in
        absurd (no (sym h ∙ none))

pub sizes_fit : (t : ToolShape) → bad_field t ≡ None → bad_machine (sizes_of t) ≡ None
sizes_fit t h =
    let ways = passed (is_between t.ways 1 MOST_WAYS) Ways _ h in
    let regs = passed (is_register_count t.regs) Regs _ ways.1 in
    let two = between t.ways 1 MOST_WAYS ways.0 in
    let eight = some_registers t.regs regs.0 in
    let few_ways = two.1 in
    let few_regs = eight.1 in
    let some_ways = inside t.ways 1 MAX_WAYS two.0 (omega (arith, few_ways)) in
    let some_regs = inside t.regs 1 MAX_REGS eight.0 (omega (arith, few_regs)) in
    rw (some_ways, some_regs) regs.1

-- a machine of the program is one of those whose numbers are given at run time, of which memory may be larger
pub at_run_time : (z : Sizes) → bad_machine z ≡ None → limits.bad_size z ≡ None
at_run_time z e =
    let block = passed (is_between z.block_words 1 MAX_BLOCK_WORDS) BlockWords _ e in
    let ways = passed (is_between z.ways 1 MAX_WAYS) Ways _ block.1 in
    let regs = passed (is_between z.regs 1 MAX_REGS) Regs _ ways.1 in
    let depth = passed (is_between z.depth 1 MAX_DEPTH) Depth (limits.bad_number_within MAX_WORDS z) regs.1 in
    let words = passed (is_between z.words 1 MAX_WORDS && (z.words % z.block_words == 0)) Words _ depth.1 in
    let memory = and_parts (is_between z.words 1 MAX_WORDS) (z.words % z.block_words == 0) words.0 in
    let range = between z.words 1 MAX_WORDS memory.0 in
    let few = range.1 in
    let fits : (is_between z.words 1 MAX_MEMORY && (z.words % z.block_words == 0)) ≡ true =
    rw (inside z.words 1 MAX_MEMORY range.0 (omega (arith, few)), memory.1) refl in
    rw (block.0, ways.0, regs.0, depth.0, fits) words.1
