-- What a line of a log says, in each format: an access, or nothing that is asked of a data cache.
use Rattle.std.specs.Prelude.{ℕ, ◌+◌, ◌*◌, ◌/◌, ◌^◌, ◌==◌, Bool, true, false, ◌&&◌, ◌||◌, if◌then◌else◌, Option, None, Some, Result, Ok}
use Rattle.std.specs.Prelude.{Err, List, [], ◌∷◌, position, nat_le, nat_lt}
use Rattle.std.specs.Option.{option_map, option_and_then}
use Rattle.trace_text.specs.Fields.{hex_of, number_of}
use Rattle.trace_text.specs.Lines.{cut_at, cut_of}
use Rattle.trace_text.specs.declared.lines.LineFault.{LineFault}
use Rattle.trace_text.specs.declared.lines.LineFault.TheVariants.{Unknown, Field}
use Rattle.access_logs.specs.declared.access.Access.{Access}
use Rattle.access_logs.specs.declared.access.TheConstants.{MAX_SIZE, WORD_BYTES}
use Rattle.access_logs.specs.declared.access.AccessKind.TheVariants.{Load, Store, Modify}
use Rattle.access_logs.specs.declared.format.Reference.{Reference}
use Rattle.access_logs.specs.declared.format.Reference.TheVariants.{Fetch, Data}

-- ---- what is touched

-- a hexadecimal address and a size, 1 to 512, no byte of which lies behind the last address
abbrev pub extent_with : Option ℕ → Option ℕ → Option (ℕ × ℕ)
extent_with (Some address) (Some size) =
    if nat_lt 0 size && nat_le (address + size) (2 ^ 64) then Some (address, size) else None
extent_with address size = None

abbrev pub extent_from : List ℕ × Option (List ℕ) → Option (ℕ × ℕ)
extent_from (address, None) = None
extent_from (address, Some size) = extent_with (hex_of address) (number_of MAX_SIZE size)

-- `ADDRESS,SIZE`
abbrev pub extent_of : List ℕ → Option (ℕ × ℕ)
extent_of fields = extent_from (cut_at fields (position (λ b. b == 44) fields))

-- the word of an address
abbrev pub word_extent : ℕ → ℕ × ℕ
word_extent address = (address / WORD_BYTES * WORD_BYTES, WORD_BYTES)

abbrev pub word_extent_of : Option (List ℕ) → Option (ℕ × ℕ)
word_extent_of None = None
word_extent_of (Some field) = option_map word_extent (hex_of field)

-- ---- lines

-- A load, store or modification is an access; an instruction's fetch is none, since it goes to another cache.
abbrev pub access_by : Reference → ℕ × ℕ → Option Access
access_by Fetch extent = None
access_by (Data kind) extent = Some (record { kind = kind; address = extent.0; size = extent.1 })

abbrev pub said_as : Option Reference → Option (ℕ × ℕ) → Result (Option Access) LineFault
said_as None extent = Err Unknown
said_as (Some reference) None = Err Field
said_as (Some reference) (Some extent) = Ok (access_by reference extent)

-- a line of valgrind itself begins with two of `=`, `-` or `*`
abbrev pub is_remark : List ℕ → Bool
is_remark (a ∷ b ∷ rest) = (a == b) && ((a == 61) || ((a == 45) || (a == 42)))
is_remark text = false

-- `L`, `S` or `M`
abbrev pub kind_of : ℕ → Option Reference
kind_of b = if b == 76 then Some (Data Load) else if b == 83 then Some (Data Store) else if b == 77 then Some (Data Modify) else None

-- whether a name ends here: at the end of the line, or at a space
abbrev pub is_name_end : List ℕ → Bool
is_name_end [] = true
is_name_end (b ∷ rest) = b == 32

-- what follows one space, or two
abbrev pub behind_space : List ℕ → Option (List ℕ)
behind_space [] = None
behind_space (b ∷ fields) = if b == 32 then Some fields else None

abbrev pub behind_spaces : List ℕ → Option (List ℕ)
behind_spaces rest = option_and_then behind_space (behind_space rest)

-- a line whose name is ` L`, ` S` or ` M`, or none
abbrev pub data_from : ℕ → List ℕ → Result (Option Access) LineFault
data_from kind rest =
    said_as (if is_name_end rest then kind_of kind else None) (option_and_then extent_of (behind_space rest))

-- a line that begins with a space
abbrev pub data_line : List ℕ → Result (Option Access) LineFault
data_line [] = Err Unknown
data_line (kind ∷ rest) = data_from kind rest

-- a line whose name is `I`, or none
abbrev pub fetch_from : List ℕ → Result (Option Access) LineFault
fetch_from rest =
    said_as (if is_name_end rest then Some Fetch else None) (option_and_then extent_of (behind_spaces rest))

-- `I  ADDRESS,SIZE`, ` L ADDRESS,SIZE`, ` S ADDRESS,SIZE` or ` M ADDRESS,SIZE`
abbrev pub lackey_from : List ℕ → Result (Option Access) LineFault
lackey_from [] = Err Unknown
lackey_from (a ∷ rest) = if a == 73 then fetch_from rest else if a == 32 then data_line rest else Err Unknown

-- what a line of lackey's says
abbrev pub lackey_access : List ℕ → Result (Option Access) LineFault
lackey_access text = if is_remark text then Ok None else lackey_from text

-- `0`, `1` or `2`
abbrev pub label_of : List ℕ → Option Reference
label_of (b ∷ []) =
    if b == 48 then Some (Data Load) else if b == 49 then Some (Data Store) else if b == 50 then Some Fetch else None
label_of text = None

abbrev pub din_from : List ℕ × Option (List ℕ) → Result (Option Access) LineFault
din_from (label, address) = said_as (label_of label) (word_extent_of address)

-- what a line of `din` says, `LABEL ADDRESS`
abbrev pub din_access : List ℕ → Result (Option Access) LineFault
din_access text = din_from (cut_of text)
