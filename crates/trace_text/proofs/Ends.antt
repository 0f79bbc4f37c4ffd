-- How serving, checking and collecting end.
use Rattle.std.proofs.Common.{◌≡◌, ℕ, Result, Option, List, [], Ok, Err, refl, inl, inr}
use Rattle.machine_core.specs.Machine.{MachineState}
use Rattle.trace_text.specs.declared.lines.LineFault.{LineFault}
use Rattle.trace_text.specs.declared.serve.Counts.{Counts}
use Rattle.trace_text.specs.declared.reading.Stop.{Stop}
use Rattle.trace_text.specs.declared.reading.Stop.TheVariants.{Fault, Halted}
use Rattle.trace_text.specs.declared.fault.TraceFault.{TraceFault}
use Rattle.trace_text.specs.declared.fault.TraceFault.TheVariants as fault
use Rattle.trace_text.specs.Reading.{ReadStops, ReadFails}
use Rattle.trace_text.specs.Collecting.{Reads}
use Rattle.trace_text.specs.Serving.{trace_fault, Applied, Broken, Ends}

module _ {R W S : Type 0} (gave : R → List ℕ → R → Type 0) (failed : R → R → Type 0) (took : W → List ℕ → W → Type 0)
    (refused unflushed : W → W → Type 0) (wr : S → W) (st : S → MachineState) (ct : S → Counts) (r r' : R) (c c' : S) where
  -- a fault of what was read is none of the collector's own
  ends_told : {w v w' : W} {m m' : MachineState} {k : Counts} (texts : List (List ℕ)) (e : TraceFault)
      → ReadStops gave failed trace_fault 64 r r' texts e → Applied took w m texts v m' k → took v [] w'
      → Ends gave failed took refused unflushed r r' w w' m m' (Err e)
  ends_told texts fault.Write p q flush = absurd p
  ends_told texts fault.OutOfMemory p q flush = absurd p
  ends_told {v = v} {k = k} texts e p q flush = (texts, v, k, p, q, flush)

  -- a text is read by what serves it
  abbrev ServingReads : Result (Unit {0}) Stop → Type 0
  ServingReads = Reads gave failed trace_fault (λ s texts t. Applied took (wr s) (st s) texts (wr t) (st t) (ct t))
      (λ s text t. Broken took refused (wr s) (st s) text (wr t) (st t)) (λ s t. took (wr s) [] (wr t) × (st t ≡ st s) × (ct t ≡ ct s))
      (λ s t. unflushed (wr s) (wr t) × (st t ≡ st s)) 64 r r' c c'

  pub serve_ends : (done : Unit {0}) → ServingReads (Ok done)
      → Ends gave failed took refused unflushed r r' (wr c) (wr c') (st c) (st c') (Ok (ct c'))
  serve_ends done h = (h.0, wr h.1, h.2, rw (h.4.1, h.4.2) h.3, h.4.0)

  pub serve_stops : (stop : Stop) (e : TraceFault) → ServingReads (Err stop) → ((f : TraceFault) → stop ≡ Fault f → e ≡ f)
      → (stop ≡ Halted → e ≡ fault.Write) → Ends gave failed took refused unflushed r r' (wr c) (wr c') (st c) (st c') (Err e)
  serve_stops (Fault f) e h same halted = rw (same f refl)
      (ends_told {k = ct h.1} h.0 f h.2 (rw h.4.1 h.3) h.4.0)
  serve_stops Halted e h same halted = rw (halted refl)
      (h.0, h.1, wr h.2, st h.2, ct h.2, h.3, elim h.4 [ inl before ↦ inl (before.0, before.1.0, before.1.1) | inr into ↦ inr into ])

-- a text that is kept or judged: its collector stops at want of memory alone
pub read_fails : {R C : Type 0} (gave : R → List ℕ → R → Type 0) (failed : R → R → Type 0) (f : List ℕ → Option LineFault)
    (went : C → List (List ℕ) → C → Type 0) (stopped : C → List ℕ → C → Type 0) (paused unpaused : C → C → Type 0) (most : ℕ) (r r' : R)
    (c c' : C) (stop : Stop) (e : TraceFault)
    → Reads gave failed f went stopped paused unpaused most r r' c c' (Err stop)
    → ((g : TraceFault) → stop ≡ Fault g → e ≡ g) → (stop ≡ Halted → e ≡ fault.OutOfMemory)
    → ReadFails gave failed f most r r' e
read_fails gave failed f went stopped paused unpaused most r r' c c' (Fault g) e h same halted =
    inr (h.0, rw (same g refl) h.2)
read_fails gave failed f went stopped paused unpaused most r r' c c' Halted e h same halted = inl (halted refl)
