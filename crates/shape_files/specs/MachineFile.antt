-- What a machine file says: the answer for every text.
use Rattle.std.specs.Prelude.{ℕ, ℤ, ◌≡◌, ◌⊎◌, ◌^◌, ◌-◌, Bool, true, false, not, if◌then◌else◌, List, ◌++◌, map, take}
use Rattle.std.specs.Prelude.{Option, Some, None, IsSome}
use Rattle.std.specs.Prelude.{codes, decimal}
use Rattle.std.specs.List.{list_any, find}
use Rattle.std.specs.Str.{bytes_eq}
use Rattle.std.specs.String.{string_bytes}
use Rattle.toml.specs.Data.{Members, no_members, member}
use Rattle.toml.specs.Errors.{IsBlank}
use Rattle.toml.specs.Parse.{parse_document}
use Rattle.flat_model.specs.declared.ShapeField.{ShapeField}
use Rattle.flat_model.specs.declared.ShapeField.TheVariants.{Ways, Regs, Words, Sets, Banks, BankQueue, WriteQueue, Replies, BlockWords}
use Rattle.flat_model.specs.declared.ShapeField.TheVariants.{Depth}
use Rattle.flat_model.specs.declared.limits.TheConstants.{MAX_BLOCK_WORDS, MAX_WAYS, MAX_REGS, MAX_DEPTH, MAX_WORDS, MAX_SETS, MAX_BANKS}
use Rattle.flat_model.specs.declared.limits.TheConstants.{MAX_BANK_QUEUE, MAX_WRITE_QUEUE, MAX_REPLIES}
use Rattle.flat_model.specs.Ranges.{is_between}
use Rattle.cache_unit.specs.Sizes.{Sizes}
use Rattle.cache_unit.specs.Limits as limits
use Rattle.shape_files.specs.declared.shape_file.TheConstants.{DEFAULT_SHAPE}
use Rattle.shape_files.specs.declared.machine_file.TheConstants.{MACHINE_FIELDS, MAX_TOLD_KEY}
use Rattle.shape_files.specs.declared.machine_file.MachineFault.{MachineFault}
use Rattle.shape_files.specs.declared.machine_file.MachineFault.TheVariants.{NotToml, UnknownKey, NotWhole, OutOfRange, OutOfMemory}
use Rattle.shape_files.specs.ShapeFile.{key_of, integer_at, fitted, sizes_of}

-- ---- keys

-- the key of a number
abbrev pub machine_key : ShapeField → List ℕ
machine_key Regs = codes "registers"
machine_key Depth = codes "stack"
machine_key field = key_of field

-- whether a machine file may have this key
abbrev pub is_machine_key : List ℕ → Bool
is_machine_key k = list_any (λ field. bytes_eq k (machine_key field)) MACHINE_FIELDS

-- the first key at the top that no machine has
abbrev pub other_key : Members → Option (List ℕ)
other_key no_members = None
other_key (member k d rest) = if is_machine_key k then other_key rest else Some k

-- ---- numbers

-- whether it is nothing or a whole number that stands at a key
abbrev pub is_absent_or_whole : Option (Option ℤ) → Bool
is_absent_or_whole (Some None) = false
is_absent_or_whole found = true

abbrev pub is_whole_at : Members → ShapeField → Bool
is_whole_at ms field = is_absent_or_whole (integer_at (machine_key field) ms)

-- the first number that is no whole one
abbrev pub first_not_whole : Members → Option ShapeField
first_not_whole ms = find (λ field. not (is_whole_at ms field)) MACHINE_FIELDS

-- the number, the default if there is none
abbrev pub number_or : ℕ → Option (Option ℤ) → ℕ
number_or default (Some (Some z)) = fitted z
number_or default found = default

abbrev pub number_at : Members → ShapeField → ℕ → ℕ
number_at ms field default = number_or default (integer_at (machine_key field) ms)

-- the machine of the program, which has the defaults
abbrev pub usual_machine : Sizes
usual_machine = sizes_of DEFAULT_SHAPE

-- the numbers of a table
abbrev pub sizes_said : Members → Sizes
sizes_said ms =
    record {
      ways = number_at ms Ways usual_machine.ways;
      block_words = number_at ms BlockWords usual_machine.block_words;
      regs = number_at ms Regs usual_machine.regs;
      depth = number_at ms Depth usual_machine.depth;
      words = number_at ms Words usual_machine.words;
      sets = number_at ms Sets usual_machine.sets;
      banks = number_at ms Banks usual_machine.banks;
      bank_queue = number_at ms BankQueue usual_machine.bank_queue;
      write_queue = number_at ms WriteQueue usual_machine.write_queue;
      replies = number_at ms Replies usual_machine.replies;
    }

-- ---- ranges

-- the largest numbers of a machine of the program: of its memory the most that a type has, of the others the most at run time
abbrev pub most_of_program : limits.Most
most_of_program = record { ways = MAX_WAYS; regs = MAX_REGS; depth = MAX_DEPTH; words = MAX_WORDS }

-- the first number of such a machine that is out of its range
abbrev pub bad_machine : Sizes → Option ShapeField
bad_machine z = limits.bad_field_within most_of_program z

-- ---- what a table says

-- a byte as one of ASCII that can be printed, or a question mark
abbrev pub printable_byte : ℕ → ℕ
printable_byte b = if is_between b 32 126 then b else 63

-- a key as it is told: its start, byte for byte
abbrev pub told_key : List ℕ → List ℕ
told_key key = map printable_byte (take MAX_TOLD_KEY key)

-- All keys are a machine's, all numbers are whole ones, and in their ranges.
abbrev pub TableSays : Members → Sizes → Type 0
TableSays ms z = (other_key ms ≡ None) × (first_not_whole ms ≡ None) × (z ≡ sizes_said ms) × (bad_machine z ≡ None)

-- Why not: the first cause in this order. Memory may be missing for the name of a key.
abbrev pub TableFails : Members → MachineFault → Type 0
TableFails ms NotToml = ⊥
TableFails ms (UnknownKey name) = (key : List ℕ) × (other_key ms ≡ Some key) × (string_bytes name ≡ told_key key)
TableFails ms (NotWhole field) = (other_key ms ≡ None) × (first_not_whole ms ≡ Some field)
TableFails ms (OutOfRange field) =
    (other_key ms ≡ None) × (first_not_whole ms ≡ None) × (bad_machine (sizes_said ms) ≡ Some field)
TableFails ms OutOfMemory = IsSome (other_key ms)

-- ---- what a text says

-- It is a table that says these numbers.
abbrev pub TextSays : Option Members → Sizes → Type 0
TextSays None z = ⊥
TextSays (Some ms) z = TableSays ms z

-- Why it isn't, where it is a table or not
abbrev pub DocumentFails : Option Members → MachineFault → Type 0
DocumentFails None fault = fault ≡ NotToml
DocumentFails (Some ms) fault = TableFails ms fault

-- Memory may be missing for any text but a blank one.
abbrev pub TextFails : List ℕ → MachineFault → Type 0
TextFails text fault = DocumentFails (parse_document text) fault ⊎ ((fault ≡ OutOfMemory) × ¬ IsBlank text)

-- ---- what is told of a fault

-- the least that a number may be
abbrev pub least_text : ShapeField → List ℕ
least_text BankQueue = codes "block_words / banks, rounded up,"
least_text WriteQueue = codes "block_words"
least_text field = codes "1"

-- the most that a number may be; the last three have no key
abbrev pub most_of : ShapeField → ℕ
most_of BlockWords = MAX_BLOCK_WORDS
most_of Ways = MAX_WAYS
most_of Regs = MAX_REGS
most_of Depth = MAX_DEPTH
most_of Words = MAX_WORDS
most_of Sets = MAX_SETS
most_of Banks = MAX_BANKS
most_of BankQueue = MAX_BANK_QUEUE
most_of WriteQueue = MAX_WRITE_QUEUE
most_of Replies = MAX_REPLIES
most_of field = 2 ^ 32 - 1

-- what it has to be beside
abbrev pub condition_text : ShapeField → List ℕ
condition_text Words = codes ", a multiple of block_words"
condition_text field = codes ""

abbrev pub range_text : ShapeField → List ℕ
range_text field = least_text field ++ codes " to " ++ decimal (most_of field) ++ condition_text field

abbrev pub machine_fault_text : MachineFault → List ℕ
machine_fault_text NotToml = codes "machine: not TOML"
machine_fault_text (UnknownKey name) = codes "machine: unknown key " ++ string_bytes name
machine_fault_text (NotWhole field) = codes "machine: " ++ machine_key field ++ codes " is not a whole number"
machine_fault_text (OutOfRange field) = codes "machine: " ++ machine_key field ++ codes " out of range: " ++ range_text field
machine_fault_text OutOfMemory = codes "out of memory"
