-- A reading by one reader is seen as a reading by another.
use Rattle.std.proofs.Common.{◌≡◌, ℕ, ◌<◌, Option, Result, Ok, Err, List, [], ◌∷◌, length, take, slice_set}
use Rattle.std.proofs.Common.{ap, inl, inr, refl, ◌∙◌, arith}
use Rattle.std.specs.List.{FoldsTo}
use Rattle.trace_text.specs.Collecting.{Reads}
use Rattle.trace_text.specs.Streams.{Came, Moves}
use Rattle.trace_text.specs.Reading.{ReadSoFar, ReadInto, ReadStops}
use Rattle.trace_text.specs.declared.fault.TraceFault.{TraceFault}
use Rattle.trace_text.specs.declared.fault.TraceFault.TheVariants as fault
use Rattle.trace_text.specs.declared.lines.LineFault.{LineFault}
use Rattle.trace_text.specs.declared.lines.LineFault.TheVariants.{Unknown, Field, TooLong, NotEnded}
use Rattle.trace_text.specs.declared.reading.Stop.{Stop}
use Rattle.trace_text.specs.declared.reading.Stop.TheVariants.{Fault, Halted}

module _ {S R : Type 0} (seen : S → R) (G : S → List ℕ → S → Type 0) (F : S → S → Type 0) (gave : R → List ℕ → R → Type 0)
    (failed : R → R → Type 0) (gives : (s : S) (bytes : List ℕ) (t : S) → G s bytes t → gave (seen s) bytes (seen t))
    (fails : (s t : S) → F s t → failed (seen s) (seen t)) where
  folds : (pieces : List (List ℕ)) (s t : S) → FoldsTo (Came G) s pieces t → FoldsTo (Came gave) (seen s) pieces (seen t)
  folds [] s t h = ap seen h
  folds (x ∷ xs) s t h = (seen h.0, (gives s x h.0 h.1.0, h.1.1), folds xs h.0 t h.2)

  moves : (s t : S) (bytes : List ℕ) → Moves (Came G) s bytes t → Moves (Came gave) (seen s) bytes (seen t)
  moves s t bytes m = record { pieces = m.pieces; steps = folds m.pieces s t m.steps; whole = m.whole }

  module _ (fault_in : List ℕ → Option LineFault) (most : ℕ) where
    so_far : (s t : S) (texts : List (List ℕ)) (pending : List ℕ) → ReadSoFar G fault_in most s t texts pending
        → ReadSoFar gave fault_in most (seen s) (seen t) texts pending
    so_far s t texts pending h = record {
      bytes = h.bytes;
      read = moves s t h.bytes h.read;
      good = h.good;
      short = h.short;
      unfinished = h.unfinished;
      within = h.within;
      room = h.room;
    }

    into : (s t : S) (texts : List (List ℕ)) (rest : List ℕ) → ReadInto G fault_in most s t texts rest
        → ReadInto gave fault_in most (seen s) (seen t) texts rest
    unfolding so_far
    into s t texts rest h = record {
      before = h.before;
      pending = h.pending;
      last = seen h.last;
      so_far = so_far s h.last h.before h.pending h.so_far;
      piece = h.piece;
      gives = (gives h.last h.piece t h.gives.0, h.gives.1);
      good = h.good;
      added = h.added;
      behind = h.behind;
      within = h.within;
    }

    stops : (s t : S) (texts : List (List ℕ)) (e : TraceFault) → ReadStops G F fault_in most s t texts e
        → ReadStops gave failed fault_in most (seen s) (seen t) texts e
    stops s t texts fault.Read h = (seen h.0, h.1, so_far s h.0 texts h.1 h.2, fails h.0 t h.3)
    stops s t texts (fault.Line n NotEnded) h =
        (seen h.0, h.1, so_far s h.0 texts h.1 h.2, gives h.0 [] t h.3, h.4, h.5)
    stops s t texts (fault.Line n Unknown) h = (h.0, into s t texts h.0 h.1, h.2, h.3, h.4)
    stops s t texts (fault.Line n Field) h = (h.0, into s t texts h.0 h.1, h.2, h.3, h.4)
    stops s t texts (fault.Line n TooLong) h = (h.0, into s t texts h.0 h.1, h.2, h.3, h.4)
    stops s t texts fault.TooManyLines h = (h.0, into s t texts h.0 h.1, h.2, h.3)
    stops s t texts fault.OutOfMemory h = absurd h
    stops s t texts fault.Write h = absurd h

    pub along : {C : Type 0} (went : C → List (List ℕ) → C → Type 0) (stopped : C → List ℕ → C → Type 0) (paused unpaused : C → C → Type 0)
        (s t : S) (c c' : C) (end : Result (Unit {0}) Stop)
        → Reads G F fault_in went stopped paused unpaused most s t c c' end
        → Reads gave failed fault_in went stopped paused unpaused most (seen s) (seen t) c c' end
    along went stopped paused unpaused s t c c' (Ok done) h =
        (h.0, h.1, (seen h.2.0, so_far s h.2.0 h.0 [] h.2.1, gives h.2.0 [] t h.2.2), h.3, h.4)
    along went stopped paused unpaused s t c c' (Err (Fault e)) h = (h.0, h.1, stops s t h.0 e h.2, h.3, h.4)
    along went stopped paused unpaused s t c c' (Err Halted) h = (
      h.0,
      h.1,
      h.2,
      h.3,
      elim h.4 [
        | inl before ↦ inl (so_far s t h.0 h.1 before.0, before.1)
        | inr read ↦ inr (into s t h.0 h.1 read.0, read.1)
      ],
    )

-- ---- what no read changes

module _ {X : Type 0} where
  abbrev pub Same : X → List ℕ → X → Type 0
  Same x bytes y = x ≡ y

  abbrev pub Alike : X → X → Type 0
  Alike x y = x ≡ y

  same_folds : (pieces : List (List ℕ)) (x y : X) → FoldsTo (Came Same) x pieces y → x ≡ y
  same_folds [] x y h = h
  same_folds (p ∷ ps) x y h = h.1.0 ∙ same_folds ps h.0 y h.2

  module _ (fault_in : List ℕ → Option LineFault) (most : ℕ) where
    same_so_far : (x y : X) (texts : List (List ℕ)) (pending : List ℕ) → ReadSoFar Same fault_in most x y texts pending → x ≡ y
    same_so_far x y texts pending h = same_folds h.read.pieces x y h.read.steps

    same_into : (x y : X) (texts : List (List ℕ)) (rest : List ℕ) → ReadInto Same fault_in most x y texts rest → x ≡ y
    same_into x y texts rest h = same_so_far x h.last h.before h.pending h.so_far ∙ h.gives.0

    same_stops : (x y : X) (texts : List (List ℕ)) (e : TraceFault) → ReadStops Same Alike fault_in most x y texts e → x ≡ y
    same_stops x y texts fault.Read h = same_so_far x h.0 texts h.1 h.2 ∙ h.3
    same_stops x y texts (fault.Line n NotEnded) h = same_so_far x h.0 texts h.1 h.2 ∙ h.3
    same_stops x y texts (fault.Line n Unknown) h = same_into x y texts h.0 h.1
    same_stops x y texts (fault.Line n Field) h = same_into x y texts h.0 h.1
    same_stops x y texts (fault.Line n TooLong) h = same_into x y texts h.0 h.1
    same_stops x y texts fault.TooManyLines h = same_into x y texts h.0 h.1
    same_stops x y texts fault.OutOfMemory h = absurd h
    same_stops x y texts fault.Write h = absurd h

    pub same_along : {C : Type 0} (went : C → List (List ℕ) → C → Type 0) (stopped : C → List ℕ → C → Type 0)
        (paused unpaused : C → C → Type 0) (x y : X) (c c' : C) (end : Result (Unit {0}) Stop)
        → Reads Same Alike fault_in went stopped paused unpaused most x y c c' end → x ≡ y
    same_along went stopped paused unpaused x y c c' (Ok done) h = same_so_far x h.2.0 h.0 [] h.2.1 ∙ h.2.2
    same_along went stopped paused unpaused x y c c' (Err (Fault e)) h = same_stops x y h.0 e h.2
    same_along went stopped paused unpaused x y c c' (Err Halted) h =
        elim h.4 [ inl before ↦ same_so_far x y h.0 h.1 before.0 | inr read ↦ same_into x y h.0 h.1 read.0 ]

-- ---- what is put at the front

pub first_set : (xs : List ℕ) (x : ℕ) → 0 < length xs → take 1 (slice_set xs 0 x) ≡ x ∷ []
first_set [] x some = let none : ⊥ = omega (arith, some) in absurd none
first_set (y ∷ ys) x some = refl
