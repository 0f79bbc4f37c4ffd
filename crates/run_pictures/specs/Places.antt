-- The places of a picture.
use Rattle.std.specs.Prelude.{ℕ, ◌*◌, min, List, [], ◌∷◌, ◌++◌}
use Rattle.std.specs.List.{flat_map, range_with_len}
use Rattle.machine_core.specs.Words.{MAX_WAITING, Sizes}
use Rattle.run_pictures.specs.Layouts.{fitted, frames_in}
use Rattle.run_pictures.specs.declared.place.Place.{Place}
use Rattle.run_pictures.specs.declared.place.TheConstants.{MOST_MEMORY}
use Rattle.run_pictures.specs.declared.place.Place.TheVariants.{Register, Line, Field, Load, Frame, Cell, Stack, Queue, Command, Answer}
use Rattle.run_pictures.specs.declared.place.Place.TheVariants.{Reply, Memory}

-- the place of the same kind with this last number
abbrev pub nth : Place → ℕ → Place
nth (Register slot) n = Register n
nth (Line slot) n = Line n
nth (Field slot i) n = Field slot n
nth (Load slot i place) n = Load slot i n
nth (Frame frame) n = Frame n
nth (Cell frame i) n = Cell frame n
nth (Stack place) n = Stack n
nth (Queue place) n = Queue n
nth (Command bank place) n = Command bank n
nth (Answer bank place) n = Answer bank n
nth (Reply place) n = Reply n
nth (Memory at) n = Memory n

-- what each of the first numbers has
abbrev pub of_each : (ℕ → List Place) → ℕ → List Place
of_each f n = flat_map f (range_with_len 0 n)

abbrev pub one : Place → ℕ → List Place
one first n = nth first n ∷ []

-- so many places of a kind
abbrev pub all : Place → ℕ → List Place
all first n = of_each (one first) n

-- a word of a register, and the loads that may wait for it
abbrev pub field_places : ℕ → ℕ → List Place
field_places slot i = Field slot i ∷ all (Load slot i 0) MAX_WAITING

abbrev pub register_places : (words slot : ℕ) → List Place
register_places words slot = Register slot ∷ (Line slot ∷ of_each (field_places slot) words)

abbrev pub all_registers : Sizes → List Place
all_registers z = of_each (register_places z.block_words) z.regs

abbrev pub frame_places : (words frame : ℕ) → List Place
frame_places words frame = Frame frame ∷ all (Cell frame 0) words

abbrev pub all_frames : Sizes → List Place
all_frames z = of_each (frame_places z.block_words) (frames_in z)

-- the commands that may wait at a bank, and the answers that may stand there: each word of a register is asked for once
abbrev pub bank_places : Sizes → ℕ → List Place
bank_places z bank = all (Command bank 0) z.bank_queue ++ all (Answer bank 0) (fitted (z.regs * z.block_words))

abbrev pub all_banks : Sizes → List Place
all_banks z = of_each (bank_places z) z.banks

-- the places of a machine's picture, in the order in which they are drawn
abbrev pub places_in : Sizes → List Place
places_in z =
    all_registers z ++ all_frames z ++ all (Stack 0) z.depth ++ all (Queue 0) z.write_queue ++ all_banks z ++ all (Reply 0) z.replies
    ++ all (Memory 0) (min z.words MOST_MEMORY)
