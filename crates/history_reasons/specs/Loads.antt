-- The open loads of a log.
use Rattle.std.specs.Prelude.{ℕ, ◌-◌, ◌==◌, ◌&&◌, nat_le, nat_lt, not, Bool, List}
use Rattle.std.specs.List.{filter, flat_map}
use Rattle.memory_histories.specs.declared.windows.LoadByte.{LoadByte}
use Rattle.memory_histories.specs.Windows.{load_byte, load_bytes}
use Rattle.history_reasons.specs.declared.loads.OpenLoad.{OpenLoad}

-- the bytes of open loads
abbrev pub bytes_of : OpenLoad → List LoadByte
bytes_of l = load_bytes l.number l.address l.length l.enables l.began

abbrev pub all_bytes_of : List OpenLoad → List LoadByte
all_bytes_of loads = flat_map bytes_of loads

-- whether a load is open under a number, and asks for the byte at an address
abbrev pub asks_for : ℕ → ℕ → OpenLoad → Bool
asks_for number address l = (l.number == number) && (nat_le l.address address && nat_lt (address - l.address) l.length)

-- the byte at an address that a load asks for
abbrev pub byte_at : ℕ → OpenLoad → LoadByte
byte_at address l = load_byte l.number l.address l.enables l.began address

-- those that have another number
abbrev pub without_load : ℕ → List OpenLoad → List OpenLoad
without_load number loads = filter (λ l. not (l.number == number)) loads
