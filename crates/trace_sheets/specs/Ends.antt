-- How a text is read whose last line may lack its LF.
use Rattle.std.specs.Prelude.{◌≡◌, ◌≢◌, ◌⊎◌, ℕ, if◌then◌else◌, nat_eq, List, [], ◌∷◌}
use Rattle.std.specs.List.{ends_with}
use Rattle.trace_text.specs.Codes.{line_feed}
use Rattle.trace_text.specs.Reading.{ReadInto, ReadWhole, ReadStops, ReadFails}
use Rattle.trace_text.specs.declared.fault.TheConstants.{MAX_PAIR}
use Rattle.trace_text.specs.declared.fault.TraceFault.{TraceFault}
use Rattle.trace_sheets.specs.Sheets.{sheet_fault}
use Rattle.trace_sheets.specs.declared.ended.Place.{Place}
use Rattle.trace_sheets.specs.declared.ended.Place.TheVariants.{Begin, Within, End}

-- a reader, and where it stands in a line
pub record Standing (R : Type 0) : Type 0 where
  pub reader : R
  pub place : Place

-- a reader that stands there
abbrev pub at : {R : Type 0} → R → Place → Standing R
at r place = record { reader = r; place = place }

abbrev pub place_behind : List ℕ → Place
place_behind bytes = if ends_with nat_eq bytes (line_feed ∷ []) then Begin else Within

-- what a line lacks if the text ends there
abbrev pub lacked : Place → List ℕ
lacked Begin = []
lacked Within = line_feed ∷ []
lacked End = []

-- What a read gave before the text's end: what the reader gave, or at its first end what the last line lacks,
abbrev pub GaveMore : {R : Type 0} (gave : R → List ℕ → R → Type 0) → Standing R → List ℕ → Standing R → Type 0
GaveMore gave s bytes t =
    (gave s.reader bytes t.reader × (bytes ≢ []) × (t.place ≡ place_behind bytes))
    ⊎ (gave s.reader [] t.reader × (bytes ≡ lacked s.place) × (t.place ≡ End))

-- and behind it nothing.
abbrev pub gave_from : {R : Type 0} (gave : R → List ℕ → R → Type 0) → Place → Standing R → List ℕ → Standing R → Type 0
gave_from gave Begin = GaveMore gave
gave_from gave Within = GaveMore gave
gave_from gave End = λ s bytes t. (bytes ≡ []) × (t ≡ s)

abbrev pub ended_gave : {R : Type 0} (gave : R → List ℕ → R → Type 0) → Standing R → List ℕ → Standing R → Type 0
ended_gave gave s bytes t = gave_from gave s.place s bytes t

abbrev pub ended_failed : {R : Type 0} (failed : R → R → Type 0) → Standing R → Standing R → Type 0
ended_failed failed s t = failed s.reader t.reader × (t.place ≡ s.place)

-- ---- a sheet

-- A sheet was read to its end: these are its lines, of which the last may lack its LF.
abbrev pub SheetRead : {R : Type 0} (gave : R → List ℕ → R → Type 0) (r r' : R) (texts : List (List ℕ)) → Type 0
SheetRead gave r r' texts = (place : Place) × ReadWhole (ended_gave gave) sheet_fault MAX_PAIR (at r Begin) (at r' place) texts

-- One line more came than these.
abbrev pub SheetInto : {R : Type 0} (gave : R → List ℕ → R → Type 0) (r r' : R) (texts : List (List ℕ)) (rest : List ℕ) → Type 0
SheetInto gave r r' texts rest =
    (place : Place) × ReadInto (ended_gave gave) sheet_fault MAX_PAIR (at r Begin) (at r' place) texts rest

-- It has this fault behind these lines.
abbrev pub SheetStops : {R : Type 0} (gave : R → List ℕ → R → Type 0) (failed : R → R → Type 0) (r r' : R) (texts : List (List ℕ))
    → TraceFault → Type 0
SheetStops gave failed r r' texts e =
    (place : Place) × ReadStops (ended_gave gave) (ended_failed failed) sheet_fault MAX_PAIR (at r Begin) (at r' place) texts e

-- It wasn't read to its end, since it has this fault or memory is missing.
abbrev pub SheetFails : {R : Type 0} (gave : R → List ℕ → R → Type 0) (failed : R → R → Type 0) (r r' : R) → TraceFault → Type 0
SheetFails gave failed r r' e =
    (place : Place) × ReadFails (ended_gave gave) (ended_failed failed) sheet_fault MAX_PAIR (at r Begin) (at r' place) e
