-- Why a sweep has no rows, by the fault of its machines; and what is counted of requests that were read.
use Rattle.std.proofs.Common.{◌≡◌, ◌≢◌, ℕ, ◌+◌, ◌<◌, true, List, [], ◌∷◌, ◌++◌, length, take, get_or, map, Result, Ok, Err}
use Rattle.std.proofs.Common.{IfErr, IsErrAnd, refl, sym, subst}
use Rattle.std.proofs.lemmas.List.{take_more}
use Rattle.std.specs.List.{list_all}
use Rattle.shape_files.specs.MachineFile.{bad_machine}
use Rattle.kroft_jobs.specs.Words.{Sizes, Event, MAX_LINE, Details, Table, Timing, RoundsRow, SweepFault}
use Rattle.register_sweeps.specs.Machine.{MachineState}
use Rattle.trace_text.specs.Reading.{ReadWhole}
use Rattle.trace_text.specs.Serving.{trace_fault}
use Rattle.round_driver.specs.Details.{details_of}
use Rattle.round_driver.specs.Tables.{table_of}
use Rattle.round_driver.specs.Walks.{is_request, RequestsEnd}
use Rattle.register_sweeps.specs.declared.sweeps.SweepFault.TheVariants as sweep
use Rattle.register_sweeps.specs.Rounds.{rounds_row_of, EachRunEnds}
use Rattle.register_sweeps.specs.Sweep.{FaultSays}
use Rattle.kroft_jobs.specs.declared.fault.JobFault.{JobFault}
use Rattle.kroft_jobs.specs.Jobs.{of_sweep}
use Rattle.kroft_jobs.specs.declared.rounds.LatencyRows.{LatencyRows}
use Rattle.kroft_jobs.specs.Sweeping.{IsCounted, IsDetailed, AreCounted, AreSwept, SweepFails}

-- ---- the fault of a sweep over a trace that was read

module _ {R : Type 0} (gave : R → List ℕ → R → Type 0) (failed : R → R → Type 0) (machines : List Sizes) (input input' : R)
    (texts : List (List ℕ)) (whole : ReadWhole gave trace_fault MAX_LINE input input' texts) where
  fails : (fault : SweepFault) → fault ≢ sweep.TurnLimit → FaultSays bad_machine machines fault
      → SweepFails gave failed machines input input' (of_sweep fault)
  fails (sweep.BadShape place field) begun says = (texts, place, whole, says)
  fails sweep.TurnLimit begun says = absurd (begun refl)
  fails sweep.OutOfMemory begun says = tt

  pub unswept : {X : Type 0} (made : List Sizes) → made ≡ machines → (fault : SweepFault) → fault ≢ sweep.TurnLimit
      → FaultSays bad_machine made fault → (result : Result X JobFault) → IsErrAnd result (λ told. told ≡ of_sweep fault)
      → IfErr result (SweepFails gave failed machines input input')
  unswept made same fault begun says (Ok rows) told = tt
  unswept made same fault begun says (Err f) told =
      let here = fails fault begun (subst (λ zs. FaultSays bad_machine zs fault) same says) in
      subst (SweepFails gave failed machines input input') (sym told) here

-- ---- what is counted of requests that were read

pub table_counted : (timing : Timing) (s : MachineState) (requests said : List Event) (table : Table) → requests ≡ said
    → list_all is_request requests ≡ true → table ≡ table_of timing s requests → RequestsEnd timing s requests
    → IsCounted timing s said table
table_counted timing s requests said table read all made ends = subst (λ events. IsCounted timing s events table) read (made, ends all)

pub all_detailed : (timing : Timing) (s : MachineState) (requests said : List Event) (details : Details) → requests ≡ said
    → list_all is_request requests ≡ true → details ≡ details_of timing s requests → RequestsEnd timing s requests
    → IsDetailed timing s said details
all_detailed timing s requests said details read all made ends = subst (λ events. IsDetailed timing s events details) read (made, ends all)

pub rows_counted : (timing : Timing) (requests said : List Event) (made swept : List Sizes) (rows : List RoundsRow) → requests ≡ said
    → list_all is_request requests ≡ true → made ≡ swept → rows ≡ map (rounds_row_of timing requests) made
    → EachRunEnds timing requests made
    → AreCounted timing swept said rows
rows_counted timing requests said made swept rows read all same counted ends =
    let here = subst (λ zs. AreCounted timing zs requests rows) same (counted, λ i u inside. ends i u inside all) in
    subst (λ events. AreCounted timing swept events rows) read here

pub counted : (timing : Timing) (requests : List Event) (machines : List Sizes) (rows : List RoundsRow)
    → list_all is_request requests ≡ true → rows ≡ map (rounds_row_of timing requests) machines
    → EachRunEnds timing requests machines → AreCounted timing machines requests rows
counted timing requests machines rows all made ends = (made, λ i u inside. ends i u inside all)

-- ---- one latency more

swept_more : (timings : List Timing) (timing : Timing) (machines : List Sizes) (requests : List Event) (before : List LatencyRows)
    (last : LatencyRows) → AreSwept timings machines requests before → last.latency ≡ timing.latency
    → AreCounted timing machines requests last.rows.items → AreSwept (timings ++ timing ∷ []) machines requests (before ++ last ∷ [])
swept_more [] timing machines requests [] last held same made = (same, made, tt)
swept_more [] timing machines requests (b ∷ bs) last held same made = absurd held
swept_more (t ∷ ts) timing machines requests [] last held same made = absurd held
swept_more (t ∷ ts) timing machines requests (b ∷ bs) last held same made =
    (held.0, held.1, swept_more ts timing machines requests bs last held.2 same made)

pub swept_next : (timings : List Timing) (i : ℕ) (d : Timing) (machines : List Sizes) (requests : List Event)
    (before next : List LatencyRows) (last : LatencyRows) → AreSwept (take i timings) machines requests before → i < length timings
    → last.latency ≡ (get_or timings i d).latency → AreCounted (get_or timings i d) machines requests last.rows.items
    → next ≡ before ++ last ∷ [] → AreSwept (take (i + 1) timings) machines requests next
swept_next timings i d machines requests before next last held inside same made e =
    subst (AreSwept (take (i + 1) timings) machines requests) (sym e)
    (subst (λ ts. AreSwept ts machines requests (before ++ last ∷ [])) (sym (take_more timings i d inside))
    (swept_more (take i timings) (get_or timings i d) machines requests before last held same made))

pub all_swept : (timings : List Timing) (requests said : List Event) (made swept : List Sizes) (rows : List LatencyRows)
    → requests ≡ said → made ≡ swept → AreSwept timings made requests rows → AreSwept timings swept said rows
all_swept timings requests said made swept rows read same held =
    subst (λ events. AreSwept timings swept events rows) read (subst (λ zs. AreSwept timings zs requests rows) same held)
