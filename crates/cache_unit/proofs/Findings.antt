-- Where the code finds a word of a block that a frame holds.
use Rattle.std.proofs.Common.{◌≡◌, ℕ, true, false, length, Some, None, arith}
use Rattle.flat_model.specs.declared.Word.{Word}
use Rattle.input_stack.specs.Stack.{stack_word}
use Rattle.cache_law.specs.State.{Cache, field_at, Field, frame_at, frame_of, live_for, cell_of}
use Rattle.cache_law.specs.Causes.{Coming, found}
use Rattle.flat_model.specs.declared.Lanes.{Lanes}
use Rattle.flat_model.specs.Words.{zero_word, merged, has_all}
use Rattle.cache_unit.specs.Findings.{finding_of}
use Rattle.miss_registers.specs.Registers.{code_of_missing}
use Rattle.cache_unit.specs.declared.unit.present.Finding.TheVariants.{Here}
use Rattle.cache_directory.specs.Frames as dir
use Rattle.cache_unit.specs.declared.unit.present.Finding.TheVariants as finding

pub cell_found : (c : Cache) (block f i : ℕ) → frame_of c block ≡ Some f → cell_of c block i ≡ dir.cell_at (frame_at c f) i
cell_found c block f i e = grind arith

pub zero_from : (w : Word) → (w.b0 ≡ 0) × ((w.b1 ≡ 0) × ((w.b2 ≡ 0) × (w.b3 ≡ 0))) → w ≡ zero_word
zero_from w h = grind arith

-- a word that has a code to show isn't processed, and that is its code
pub missing_parts : (f : Field) (code : Lanes) → code_of_missing f ≡ Some code → (f.processed ≡ false) × (f.code ≡ code)
missing_parts f code = grind arith

module _ (c : Cache) (block i slot : ℕ) (live : live_for c block ≡ Some slot) where
  abbrev kept : Field
  kept = field_at c slot i

  pub finding-processed : code_of_missing kept ≡ None → finding_of c block i (found c block i) ≡ Here (cell_of c block i).word
  finding-processed h = grind arith

  module _ (code : Lanes) (missing : code_of_missing kept ≡ Some code) where
    pub finding-written : has_all code ≡ true → finding_of c block i (found c block i) ≡ Here (cell_of c block i).word
    finding-written h = grind arith

    pub finding-stacked : (w : Word) → has_all code ≡ false → stack_word c.stack slot i ≡ Some w
        → finding_of c block i (found c block i) ≡ Here (merged w (cell_of c block i).word code)
    finding-stacked w h s = grind arith

    pub finding-coming : has_all code ≡ false → stack_word c.stack slot i ≡ None → finding_of c block i (found c block i)
        ≡ finding.Coming slot (merged zero_word (cell_of c block i).word code) code (length kept.waiting)
    finding-coming h s = grind arith

pub finding-resident : (c : Cache) (block i : ℕ) → live_for c block ≡ None
    → finding_of c block i (found c block i) ≡ Here (cell_of c block i).word
finding-resident c block i e = grind arith

-- what the code finds of a word that is on its way
pub record IsComing (c : Cache) (block i slot : ℕ) (held : Word) (code : Lanes) (waiting : ℕ) : Type 0 where
  pub coming : found c block i ≡ Coming slot
  pub held_is : held ≡ merged zero_word (cell_of c block i).word (field_at c slot i).code
  pub code_is : code ≡ (field_at c slot i).code
  pub waiting_is : waiting ≡ length (field_at c slot i).waiting

pub is_coming : (c : Cache) (block i slot : ℕ) (held : Word) (code : Lanes) (waiting : ℕ)
    → finding_of c block i (found c block i) ≡ finding.Coming slot held code waiting → IsComing c block i slot held code waiting
is_coming c block i slot held code waiting e = grind arith
