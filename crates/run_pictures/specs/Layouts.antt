-- Where things lie in a machine that is drawn.
use Rattle.std.specs.Prelude.{ℕ, ◌*◌, ◌/◌, ◌%◌, if◌then◌else◌, nat_lt}
use Rattle.machine_core.specs.Words.{Sizes}

-- a number as 32 bits hold it, the greatest one for any beyond
abbrev pub fitted : ℕ → ℕ
fitted n = if nat_lt n 4294967296 then n else 4294967295

-- how many frames there are
abbrev pub frames_in : Sizes → ℕ
frames_in z = fitted (z.sets * z.ways)

-- the set in which a block may be
abbrev pub set_in : Sizes → ℕ → ℕ
set_in z block = block % z.sets

-- the set to which a frame belongs
abbrev pub set_of_frame : Sizes → ℕ → ℕ
set_of_frame z frame = frame / z.ways

-- the bank in which the word at an address lies
abbrev pub bank_in : Sizes → ℕ → ℕ
bank_in z at = at % z.banks
