-- Where an explanation stands behind lines, and why it stops at one.
use Rattle.std.specs.Prelude.{◌≡◌, ℕ, ◌+◌, Option, Some, None, Result, Ok, Err, List, length}
use Rattle.flat_model.specs.declared.Event.{Event}
use Rattle.flat_model.specs.declared.Answer.{Answer}
use Rattle.flat_model.specs.Flat.{flat_step}
use Rattle.trace_text.specs.Pairs.{pair_of}
use Rattle.trace_text.specs.Recorded.{recorded}
use Rattle.trace_text.specs.Checks.{JudgedFrom}
use Rattle.trace_text.specs.declared.fault.TraceFault.{TraceFault}
use Rattle.trace_text.specs.declared.fault.TraceFault.TheVariants as fault
use Rattle.run_reasons.specs.declared.explain.Explanation.{Explanation}
use Rattle.run_reasons.specs.declared.explain.Explanation.TheVariants as explained
use Rattle.run_reasons.specs.Origins.{Origins, origins_from}
use Rattle.run_reasons.specs.Reasons.{mismatch_at}
use Rattle.run_reasons.specs.Shown.{shown}
use Rattle.run_reasons.specs.declared.lines.Explaining.{Explaining}
use Rattle.run_reasons.specs.declared.reason.Mismatch.{Mismatch}

-- From these origins on all of these lines were taken, as steps of flat memory.
pub record HasTaken (o : Origins) (texts : List (List ℕ)) (e : Explaining) : Type 0 where
  pub flat : JudgedFrom o.flat texts e.steps None (origins_from 1 o texts).flat
  pub origins : shown e.explainer ≡ origins_from 1 o texts
  pub lines : e.lines ≡ length texts
  pub none : e.mismatch ≡ None

-- why a step ends the reading: its pair isn't listed, or there was too little memory
abbrev pub StepEnds : Origins → ℕ → Event → Answer → Option Mismatch → Type 0
StepEnds o n event answer None = Unit {0}
StepEnds o n event answer (Some m) = (flat_step o.flat event answer ≡ None) × (m ≡ mismatch_at o n event answer)

-- the same of a line, which is this step
abbrev pub StopsAt : Explaining → List ℕ → Option Mismatch → Type 0
StopsAt e text None = Unit {0}
StopsAt e text (Some m) = (pair_of text ≡ Ok (recorded m.event m.answer)) ×
    StepEnds (shown e.explainer) (e.lines + 1) m.event m.answer (Some m)

-- what is told where the reading stopped at a line
abbrev pub explained_by : Option Mismatch → Result Explanation TraceFault
explained_by None = Err fault.OutOfMemory
explained_by (Some m) = Ok (explained.Mismatch m)
