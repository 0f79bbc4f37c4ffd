-- The first shape or machine with a bad number, and the rows of machines that have none.
use Rattle.std.proofs.Common.{◌≡◌, ℕ, zero, suc, ◌+◌, ◌<◌, List, [], ◌∷◌, map, length, get_or, Option, None, Result, Ok, Err, IfOk}
use Rattle.std.proofs.Common.{OnOk, Vec, Global, refl, sym, ap, ap₂, ◌∙◌, arith}
use Rattle.std.specs.List.{All}
use Rattle.std.proofs.lemmas.List.{get_or-map, length-map}
use Rattle.flat_model.specs.declared.ShapeField.{ShapeField}
use Rattle.machine_core.specs.Words.{Sizes}
use Rattle.shape_files.specs.declared.shape_file.TheConstants.{DEFAULT_SHAPE}
use Rattle.shape_files.specs.declared.shape_file.ToolShape.{ToolShape}
use Rattle.register_sweeps.specs.declared.threads.Stop.{Stop}
use Rattle.register_sweeps.specs.declared.sweeps.SweepFault.{SweepFault}
use Rattle.shape_files.specs.ShapeFile.{sizes_of, bad_field as bad_shape}
use Rattle.shape_files.proofs.Fits.{sizes_fit}
use Rattle.register_sweeps.specs.Sweep.{AreGood, bad_from}

-- Of shapes, or of machines, by what is out of its range in one.
module _ {S : Type 0} (bad : S → Option ShapeField) where
  good_one : (ss : List S) (place i : ℕ) (d : S) → bad_from bad place ss ≡ None → i < length ss → bad (get_or ss i d) ≡ None
  good_one [] place i d h l = absurd (omega arith)
  good_one (s ∷ ss) place zero d h l = grind arith
  good_one (s ∷ ss) place (suc i) d h l = grind (arith, good_one ss (place + 1) i d)

  -- where none is found, each is good
  pub each_good : (ss : List S) → bad_from bad 0 ss ≡ None → All (λ s. bad s ≡ None) ss
  each_good ss h = λ i d l. good_one ss 0 i d h l

-- the machines of good shapes are good
pub machines_good : (ts : List ToolShape) (zs : List Sizes) → bad_from bad_shape 0 ts ≡ None → zs ≡ map sizes_of ts → AreGood zs
machines_good ts zs good same = λ i d l.
    let inside : i < length ts = grind (arith, length-map) in
    let fits = sizes_fit (get_or ts i DEFAULT_SHAPE) (each_good bad_shape ts good i DEFAULT_SHAPE inside) in
    grind (arith, fits, get_or-map)

-- ---- the rows of these machines, whatever a row is and shows of its machine

module _ {A : Type 0} (gives : Sizes → A) (shows : Sizes → Type 0) where
  -- rows that are each that of its machine
  each_row : (ts : List Sizes) (rows : List A) → length rows ≡ length ts
      → ((i : ℕ) (t : Sizes) (r : A) → i < length ts → get_or rows i r ≡ gives (get_or ts i t)) → rows ≡ map gives ts
  each_row [] [] h e = refl
  each_row [] (r ∷ rows) h e = grind arith
  each_row (t ∷ ts) [] h e = absurd (omega (arith, h))
  each_row (t ∷ ts) (r ∷ rows) h e =
      ap₂ (λ x xs. x ∷ xs) (e 0 t r (omega arith)) (each_row ts rows (omega (arith, h)) (λ i u s l. e (suc i) u s (omega arith)))

  -- this row is that of the machine, and shows what it shows
  abbrev IsRow : Sizes → A → Type 0
  IsRow t row = (row ≡ gives t) × shows t

  -- each answer that is a row is that of its machine
  abbrev pub EachIsRow : List Sizes → List (Result A Stop) → Type 0
  EachIsRow ts answers =
      (i : ℕ) (d : Result A Stop) (t : Sizes) → i < length ts → IfOk (get_or answers i d) (IsRow (get_or ts i t))

  if_ok : (P : A → Type 0) (a : Result A Stop) (r : A) → a ≡ Ok r → IfOk a P → P r
  if_ok P a r e h = grind arith

  some_row : (rows : List A) (i : ℕ) → i < length rows → A
  some_row [] i l = absurd (omega (arith, l))
  some_row (r ∷ rows) i l = r

  module _ (ts : List Sizes) (rows : List A) (answers : List (Result A Stop)) (all : map Ok rows ≡ answers)
      (len : length answers ≡ length ts) (each : EachIsRow ts answers) where
    as_long : length rows ≡ length ts
    as_long = sym (length-map rows Ok) ∙ ap length all ∙ len

    at_place : (i : ℕ) (t : Sizes) (r : A) → i < length ts → IsRow (get_or ts i t) (get_or rows i r)
    at_place i t r l =
        let long = as_long in
        let inside : i < length rows = omega (arith, long, l) in
        let answer : get_or answers i (Ok r) ≡ Ok (get_or rows i r) = sym (ap (λ xs. get_or xs i (Ok r)) all)
        ∙ get_or-map Ok rows i r (Ok r) inside in
        if_ok (IsRow (get_or ts i t)) (get_or answers i (Ok r)) (get_or rows i r) answer (each i (Ok r) t l)

    rows_said : rows ≡ map gives ts
    rows_said = each_row ts rows as_long (λ i t r l. (at_place i t r l).0)

    all_shown : All shows ts
    all_shown = λ i t l. let long = as_long in (at_place i t (some_row rows i (omega (arith, long, l))) l).1

  -- where every thread gave a row, these are the rows of the machines
  pub rows_of_answers : (ts : List Sizes) (answers given : List (Result A Stop)) (r : Result (Vec A Global) SweepFault)
      → IfOk r (λ rows. map Ok rows.items ≡ given) → given ≡ answers → length answers ≡ length ts → EachIsRow ts answers
      → IfOk r (λ rows. rows.items ≡ map gives ts)
  rows_of_answers ts answers given (Ok rows) h same len each = rows_said ts rows.items answers (h ∙ same) len each
  rows_of_answers ts answers given (Err e) h same len each = tt

  -- and all is shown of the machines that their rows show
  pub shown_by_answers : (ts : List Sizes) (answers given : List (Result A Stop)) (r : Result (Vec A Global) SweepFault)
      → IfOk r (λ rows. map Ok rows.items ≡ given) → given ≡ answers → length answers ≡ length ts → EachIsRow ts answers
      → OnOk r (All shows ts)
  shown_by_answers ts answers given (Ok rows) h same len each = all_shown ts rows.items answers (h ∙ same) len each
  shown_by_answers ts answers given (Err e) h same len each = tt
