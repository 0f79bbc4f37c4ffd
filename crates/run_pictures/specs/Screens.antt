-- Screens: the lines of each picture.
use Rattle.std.specs.Prelude.{◌≡◌, ℕ, ◌-◌, ◌+◌, ◌^◌, ◌%◌, ◌==◌, Bool, true, false, ◌&&◌, ◌||◌, not, if◌then◌else◌, List, [], ◌++◌, codes}
use Rattle.std.specs.Prelude.{decimal, length, Option, Some, None}
use Rattle.std.specs.Fmt.{padded, format_spec}
use Rattle.std.specs.List.{flat_map, filter_map, list_any}
use Rattle.std.specs.String.{string_bytes}
use Rattle.machine_core.specs.Words.{Answer}
use Rattle.flat_model.specs.Texts.{event_text, answer_text}
use Rattle.machine_core.specs.Machine.{MachineState}
use Rattle.flat_model.specs.declared.image.Image.{Image}
use Rattle.run_pictures.specs.declared.place.Place.{Place}
use Rattle.run_pictures.specs.declared.place.Place.TheVariants as spot
use Rattle.run_pictures.specs.declared.place.Place.TheVariants.{Register, Line, Field, Load, Frame, Cell, Stack, Queue, Reply, Memory}
use Rattle.run_pictures.specs.declared.cells.Cell.{Cell as CellShown}
use Rattle.run_pictures.specs.declared.shown.Shown.{Shown}
use Rattle.run_pictures.specs.declared.shown.Shown.TheVariants as shown
use Rattle.run_pictures.specs.declared.screens.Owner.{Owner}
use Rattle.run_pictures.specs.declared.screens.Owner.TheVariants as owner
use Rattle.run_pictures.specs.contracts.screens.OwnerPartialEq.TheImpl as owner_eq
use Rattle.run_pictures.specs.declared.screens.Screens.{Screens}
use Rattle.run_pictures.specs.declared.step.Step.{Step}
use Rattle.run_pictures.specs.Cells.{shown_text}
use Rattle.run_pictures.specs.Phrases.{text_of}
use Rattle.run_pictures.specs.Pictures.{Begins, GoesOn}

-- what a place is called
abbrev pub label_text : Place → List ℕ
label_text (Register slot) = codes "register " ++ decimal slot
label_text (Line slot) = []
label_text (Field slot i) = codes "  word " ++ decimal i
label_text (Load slot i place) = codes "    load"
label_text (Frame frame) = codes "frame " ++ decimal frame
label_text (Cell frame i) = codes "  word " ++ decimal i
label_text (Stack place) = codes "input stack " ++ decimal place
label_text (Queue place) = codes "write queue " ++ decimal place
label_text (spot.Command bank place) = codes "bank " ++ (decimal bank ++ (codes " command " ++ decimal place))
label_text (spot.Answer bank place) = codes "bank " ++ (decimal bank ++ (codes " answer " ++ decimal place))
label_text (Reply place) = codes "ready " ++ decimal place
label_text (Memory at) = codes "memory " ++ decimal at

-- something stands there
abbrev pub is_there : Shown → Bool
is_there shown.Nothing = false
is_there shown.Free = false
is_there it = true

-- memory is shown only where it changed, and another place where something stands or stood
abbrev pub is_shown : Place → Shown → Bool → Bool
is_shown (Line slot) it changed = false
is_shown (Memory at) it changed = changed
is_shown place it changed = changed || is_there it

-- ---- what is written of a picture: all of it, or what changed, with all of the registers and frames in which it lies

-- the register or the frame that a place is of, if it is of one
abbrev pub owner_of : Place → Option Owner
owner_of (Register slot) = Some (owner.Register slot)
owner_of (Field slot i) = Some (owner.Register slot)
owner_of (Load slot i place) = Some (owner.Register slot)
owner_of (Frame frame) = Some (owner.Frame frame)
owner_of (Cell frame i) = Some (owner.Frame frame)
owner_of place = None

abbrev pub owner_changed : CellShown → Option Owner
owner_changed cell = if cell.is_changed then owner_of cell.place else None

-- the registers and frames in which something changed
abbrev pub owners_changed : List CellShown → List Owner
owners_changed cells = filter_map owner_changed cells

abbrev pub is_among : List Owner → Option Owner → Bool
is_among owners None = false
is_among owners (Some it) = list_any (λ other. (owner_eq.ghosts).eq other it) owners

-- of a picture that isn't whole a place is written if it changed, or is of one of these registers and frames
abbrev pub is_written : Bool → List Owner → CellShown → Bool
is_written whole owners cell =
    is_shown cell.place cell.shown cell.is_changed && (whole || (cell.is_changed || is_among owners (owner_of cell.place)))

abbrev pub mark_text : Bool → List ℕ
mark_text changed = if changed then codes "*" else codes " "

-- a label in a column of 18
abbrev pub column_text : List ℕ → List ℕ
column_text label = padded (format_spec 32 1 0 18 (2 ^ 64 - 1)) label

-- where something stood and nothing stands
abbrev pub or_dash : Shown → List ℕ
or_dash shown.Nothing = codes "-"
or_dash it = shown_text it

abbrev pub line_text : Bool → List Owner → CellShown → List ℕ
line_text whole owners cell =
    if is_written whole owners cell
    then mark_text cell.is_changed
    ++ (codes " " ++ (column_text (label_text cell.place) ++ (codes " " ++ (or_dash cell.shown ++ codes "\n"))))
    else []

-- a picture, whole or not: the lines of its places, in their order
abbrev pub picture_text : Bool → List CellShown → List ℕ
picture_text whole cells = flat_map (line_text whole (owners_changed cells)) cells

-- the line of a recorded answer that isn't the machine's
abbrev pub recorded_text : Option Answer → List ℕ
recorded_text None = []
recorded_text (Some answer) = codes "  recorded: " ++ (answer_text answer ++ codes "\n")

-- which step it is, and what it did
abbrev pub head_text : Step → List ℕ
head_text step =
    codes "\nstep "
    ++ (decimal step.number
    ++ (codes ": "
    ++ (event_text step.made.event
    ++ (codes " -> "
    ++ (answer_text step.made.answer
    ++ (codes "\n" ++ (recorded_text step.made.other ++ (codes "  " ++ (text_of step.words ++ codes "\n")))))))))

-- ---- screens

-- Before the first event: the first picture, of which nothing changed.
pub record ScreensOpen (image : Image) (s : MachineState) (p : Screens) : Type 0 where
  pub film : Begins image s p.film
  pub text : string_bytes p.text ≡ codes "step 0: the machine before the first event\n" ++ picture_text true p.film.cells.items

-- A step behind which the machine stands so: its picture stands behind the others, whole or what changed.
pub record ScreensGoOn (whole : Bool) (s : MachineState) (step : Step) (old new : Screens) : Type 0 where
  pub film : GoesOn s step.made old.film new.film
  pub text : string_bytes new.text ≡ string_bytes old.text ++ (head_text step ++ picture_text whole new.film.cells.items)
