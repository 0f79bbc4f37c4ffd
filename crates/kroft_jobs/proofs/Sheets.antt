-- The solution of a sheet is written.
use Rattle.std.proofs.Common.{◌≡◌, List, ℕ, Result, Ok, Err, IfErr, OnOk, OnErr, inr, sym, subst}
use Rattle.register_sweeps.specs.Machine.{MachineState}
use Rattle.kroft_jobs.specs.Words.{TraceFault}
use Rattle.kroft_jobs.specs.Grading.{SolutionOf, WritesSheet}
use Rattle.kroft_jobs.specs.Writing.{IsCut, IsPut, IsWritten}
use Rattle.trace_sheets.specs.Ends.{SheetRead}
use Rattle.trace_sheets.specs.Solutions.{solved}
use Rattle.trace_text.specs.declared.fault.TraceFault.TheVariants.{Write}

-- it is put, or cut
pub solution_put : {R W : Type 0} (gave : R → List ℕ → R → Type 0) (failed : R → R → Type 0) (took : W → List ℕ → W → Type 0)
    (refused unflushed : W → W → Type 0) (m : MachineState) (input input' : R) (output output' : W) (texts : List (List ℕ)) (text : List ℕ)
    → SheetRead gave input input' texts → text ≡ solved m texts → (result : Result (Unit {0}) TraceFault)
    → OnOk result (IsPut took output text output') → OnErr result (IsCut took refused unflushed output text output')
    → IfErr result (λ e. e ≡ Write)
    → WritesSheet gave failed took refused unflushed (SolutionOf m) input input' output output' result
solution_put gave failed took refused unflushed m input input' output output' texts text read is (Ok done) put cut fault =
    (texts, text, read, is, put)
solution_put gave failed took refused unflushed m input input' output output' texts text read is (Err e) put cut fault =
    let written = subst (λ f. IsWritten {X = Unit {0}} took refused unflushed text output output' (Err f)) (sym fault) cut in
    inr (texts, text, tt, read, is, written)
