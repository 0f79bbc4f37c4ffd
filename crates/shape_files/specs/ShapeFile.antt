-- What a shape file says: the answer for every text that TOML's grammar takes.
use Rattle.std.specs.Prelude.{ℕ, ℤ, pos, negsuc, Bool, false, ◌||◌, not, if◌then◌else◌, ◌==◌, ◌-◌, ◌^◌, nat_lt, List, ◌++◌, Option, Some}
use Rattle.std.specs.Prelude.{None, Result, Ok, Err, codes}
use Rattle.std.specs.List.{list_any}
use Rattle.std.specs.Option.{option_map}
use Rattle.std.specs.Str.{bytes_eq}
use Rattle.toml.specs.Data.{Members, no_members, member, get_member, as_integer}
use Rattle.flat_model.specs.declared.ShapeField.{ShapeField}
use Rattle.flat_model.specs.declared.ShapeField.TheVariants.{Ways, Regs, Words, Sets, Banks, BankQueue, WriteQueue, Replies, BlockWords}
use Rattle.flat_model.specs.declared.ShapeField.TheVariants.{Depth, Ports, Journal, Image}
use Rattle.flat_model.specs.Ranges.{is_between}
use Rattle.cache_unit.specs.Sizes.{Sizes}
use Rattle.cache_unit.specs.Shown as shown
use Rattle.cache_unit.specs.Limits.{bad_number}
use Rattle.shape_files.specs.declared.shape_file.TheConstants.{BLOCK_WORDS, DEPTH, MOST_WAYS, REGISTER_COUNTS, DEFAULT_SHAPE}
use Rattle.shape_files.specs.declared.shape_file.ToolShape.{ToolShape}
use Rattle.shape_files.specs.declared.shape_file.ShapeFault.{ShapeFault}
use Rattle.shape_files.specs.declared.shape_file.ShapeFault.TheVariants.{NotToml, UnknownKey, NotWhole, BadShape, OutOfMemory}
use Rattle.shape_files.specs.declared.shape_file.Numbers.{Numbers}

-- whether a shape file may have this key
abbrev pub is_key : List ℕ → Bool
is_key k =
    bytes_eq k (codes "words") || bytes_eq k (codes "sets") || bytes_eq k (codes "ways") || bytes_eq k (codes "regs")
    || bytes_eq k (codes "banks") || bytes_eq k (codes "bank_queue") || bytes_eq k (codes "write_queue") || bytes_eq k (codes "replies")

-- whether any other key stands at the top
abbrev pub has_other_key : Members → Bool
has_other_key no_members = false
has_other_key (member k d rest) = not (is_key k) || has_other_key rest

-- an answer, and what is made of it where it is no fault
abbrev pub and_then : {A B : Type 0} → Result A ShapeFault → (A → Result B ShapeFault) → Result B ShapeFault
and_then (Ok x) f = f x
and_then (Err e) f = Err e

-- what stands at a key: nothing, a whole number, or (`Some None`) something else
abbrev pub integer_at : List ℕ → Members → Option (Option ℤ)
integer_at key ms = option_map as_integer (get_member key ms)

-- a whole number, the default where nothing stands
abbrev pub whole : ShapeField → ℕ → Option (Option ℤ) → Result ℤ ShapeFault
whole field default None = Ok (pos default)
whole field default (Some (Some z)) = Ok z
whole field default (Some None) = Err (NotWhole field)

-- the numbers of a table, in the order in which they are asked for
abbrev pub numbers_of : Members → Result Numbers ShapeFault
numbers_of ms =
    and_then (whole Ways DEFAULT_SHAPE.ways (integer_at (codes "ways") ms)) (λ ways.
    and_then (whole Regs DEFAULT_SHAPE.regs (integer_at (codes "regs") ms)) (λ regs.
    and_then (whole Words DEFAULT_SHAPE.shape.words (integer_at (codes "words") ms)) (λ words.
    and_then (whole Sets DEFAULT_SHAPE.shape.sets (integer_at (codes "sets") ms)) (λ sets.
    and_then (whole Banks DEFAULT_SHAPE.shape.banks (integer_at (codes "banks") ms)) (λ banks.
    and_then (whole BankQueue DEFAULT_SHAPE.shape.bank_queue (integer_at (codes "bank_queue") ms)) (λ bank_queue.
    and_then (whole WriteQueue DEFAULT_SHAPE.shape.write_queue (integer_at (codes "write_queue") ms)) (λ write_queue.
    and_then (whole Replies DEFAULT_SHAPE.shape.replies (integer_at (codes "replies") ms)) (λ replies.
    Ok
    (record {
      ways = ways;
      regs = regs;
      words = words;
      sets = sets;
      banks = banks;
      bank_queue = bank_queue;
      write_queue = write_queue;
      replies = replies;
    })))))))))

-- the numbers of registers that there may be
abbrev pub is_register_count : ℕ → Bool
is_register_count n = list_any (λ count. count == n) REGISTER_COUNTS

-- the sizes of the machine of a shape
abbrev pub sizes_of : ToolShape → Sizes
sizes_of t = shown.sizes_of t.ways BLOCK_WORDS t.regs DEPTH t.shape

-- the first field that is out of its range
abbrev pub bad_field : ToolShape → Option ShapeField
bad_field t =
    if not (is_between t.ways 1 MOST_WAYS) then Some Ways
    else (if not (is_register_count t.regs) then Some Regs else bad_number (sizes_of t))

-- a number as 32 bits have it; one that they haven't is out of every range, as the largest is
abbrev pub fitted : ℤ → ℕ
fitted (pos n) = if nat_lt n (2 ^ 32) then n else 2 ^ 32 - 1
fitted (negsuc n) = 2 ^ 32 - 1

-- the shape that the numbers say
abbrev pub shape_said : Numbers → ToolShape
shape_said n =
    record {
      shape =
          record {
            words = fitted n.words;
            sets = fitted n.sets;
            banks = fitted n.banks;
            bank_queue = fitted n.bank_queue;
            write_queue = fitted n.write_queue;
            replies = fitted n.replies;
          };
      ways = fitted n.ways;
      regs = fitted n.regs;
    }

-- a shape without a bad field
abbrev pub or_bad : ToolShape → Option ShapeField → Result ToolShape ShapeFault
or_bad t None = Ok t
or_bad t (Some field) = Err (BadShape field)

-- the shape of the numbers, where each is in its range
abbrev pub shape_of : Numbers → Result ToolShape ShapeFault
shape_of n = or_bad (shape_said n) (bad_field (shape_said n))

-- what a table says
abbrev pub table_says : Members → Result ToolShape ShapeFault
table_says ms = if has_other_key ms then Err UnknownKey else and_then (numbers_of ms) shape_of

-- what a text says
abbrev pub text_says : Option Members → Result ToolShape ShapeFault
text_says None = Err NotToml
text_says (Some ms) = table_says ms

-- ---- what is told of a fault

-- the key of a field; the last five have none in a shape file
abbrev pub key_of : ShapeField → List ℕ
key_of Words = codes "words"
key_of Sets = codes "sets"
key_of Ways = codes "ways"
key_of Regs = codes "regs"
key_of Banks = codes "banks"
key_of BankQueue = codes "bank_queue"
key_of WriteQueue = codes "write_queue"
key_of Replies = codes "replies"
key_of BlockWords = codes "block_words"
key_of Depth = codes "depth"
key_of Ports = codes "ports"
key_of Journal = codes "journal"
key_of Image = codes "image"

abbrev pub fault_text : ShapeFault → List ℕ
fault_text NotToml = codes "shape: not TOML"
fault_text UnknownKey = codes "shape: unknown key"
fault_text (NotWhole field) = codes "shape: " ++ key_of field ++ codes " is not a whole number"
fault_text (BadShape field) = codes "shape: " ++ key_of field ++ codes " out of range"
fault_text OutOfMemory = codes "out of memory"
