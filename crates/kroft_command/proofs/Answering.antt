-- How an end is told, and the end of a job that puts what it found.
use Rattle.std.proofs.Common.{◌≡◌, ℕ, List, Result, Ok, Err, IfOk, IfErr, OnOk, OnErr, IsErrAnd, refl, sym, ap, subst, inr, ◌∙◌}
use Rattle.kroft_jobs.specs.Writing.{IsPut, IsCut}
use Rattle.kroft_command.specs.Words.{ToolFault}
use Rattle.kroft_command.specs.Tool.{write_fault, no_memory}
use Rattle.result_figures.specs.declared.mark.Mark.{Mark}
use Rattle.kroft_command.specs.Program.{told, Answers, PutsText, DrawsMarks}

-- a fault that is told is that of the end
pub told_err : {X F : Type 0} (status_for : X → ℕ) (fault_for : F → ToolFault) (end : Result X F) (f : F)
    → end ≡ Err f → (result : Result ℕ ToolFault) → IsErrAnd result (λ e. e ≡ fault_for f) → result ≡ told status_for fault_for end
told_err s t end f was (Ok n) same = absurd same
told_err s t end f was (Err e) same = ap Err same ∙ sym (ap (told s t) was)

-- what was found was put, or cut
pub answered : {W : Type 0} (took : W → List ℕ → W → Type 0) (refused unflushed : W → W → Type 0)
    (Finds : List ℕ → ℕ → Type 0) (Fails : ToolFault → Type 0) (old new : W) (text : List ℕ) (status : ℕ)
    → Finds text status → (result : Result ℕ ToolFault)
    → OnOk result (IsPut took old text new) → IfOk result (λ s. s ≡ status)
    → OnErr result (IsCut took refused unflushed old text new) → IfErr result (λ f. f ≡ write_fault)
    → Answers took refused unflushed Finds Fails old new result
answered took refused unflushed Finds Fails old new text status found (Ok s) put same cut fault =
    (text, subst (Finds text) (sym same) found, put)
answered took refused unflushed Finds Fails old new text status found (Err f) put same cut fault = inr (text, status, found, cut, fault)

-- a text alone was put, or cut
pub text_put : {W : Type 0} (took : W → List ℕ → W → Type 0) (refused unflushed : W → W → Type 0) (old new : W) (text : List ℕ)
    → (result : Result ℕ ToolFault) → OnOk result (IsPut took old text new) → IfOk result (λ s. s ≡ 0)
    → OnErr result (IsCut took refused unflushed old text new) → IfErr result (λ f. f ≡ write_fault)
    → PutsText took refused unflushed text old new result
text_put took refused unflushed old new text (Ok s) put same cut fault = (put, same)
text_put took refused unflushed old new text (Err f) put same cut fault = (cut, fault)

-- memory is missing for marks
pub no_marks : {W E : Type 0} (took : W → List ℕ → W → Type 0) (refused unflushed : W → W → Type 0)
    (noted : E → List ℕ → E → Type 0) (unnoted unsettled : E → E → Type 0) (Finds : List Mark → Type 0) (Fails : ToolFault → Type 0)
    (errors : E) (output : W) (result : Result ℕ ToolFault) → IsErrAnd result (λ f. f ≡ no_memory)
    → DrawsMarks took refused unflushed noted unnoted unsettled Finds Fails errors errors output output result
no_marks took refused unflushed noted unnoted unsettled Finds Fails errors output (Ok s) h = absurd h
no_marks took refused unflushed noted unnoted unsettled Finds Fails errors output (Err f) h = inr (f, inr h, refl, refl, refl)
