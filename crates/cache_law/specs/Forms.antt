-- What each word stands for, also before it has come.
use Rattle.std.specs.Prelude.{ℕ, ◌&&◌, if◌then◌else◌, ◌==◌, List, [], ◌∷◌, Option, Some, None}
use Rattle.std.specs.Option.{option_map, option_or}
use Rattle.std.specs.List.{find}
use Rattle.flat_model.specs.declared.Word.{Word}
use Rattle.flat_model.specs.declared.Lanes.{Lanes}
use Rattle.flat_model.specs.Words.{Lane, byte, has, word_of}
use Rattle.memory_banks.specs.declared.BankAnswer.{BankAnswer}
use Rattle.input_stack.specs.Stack.{stack_word}
use Rattle.cache_law.specs.State.{Cache, Target, targets, field_at, live_for, cell_of}

-- a byte, or a lane of a word that a register has asked for
pub data LaneForm : Type 0 where
  Byte : (b : ℕ) → LaneForm
  Asked : (slot i : ℕ) → (l : Lane) → LaneForm

abbrev pub Form : Type 0
Form = Lane → LaneForm

abbrev pub bytes_of : Word → Form
bytes_of w l = Byte (byte w l)

-- a word that isn't in the buffer yet: it stands in the stack, or memory has still to answer
abbrev pub missing_form : Option Word → ℕ → ℕ → Form
missing_form (Some w) slot i l = Byte (byte w l)
missing_form None slot i l = Asked slot i l

abbrev pub coming_form : Cache → ℕ → ℕ → Form
coming_form c slot i = missing_form (stack_word c.stack slot i) slot i

-- these lanes of a word, and elsewhere the other form
abbrev pub over_form : Lanes → Word → Form → Form
over_form lanes w form l = if has lanes l then Byte (byte w l) else form l

-- the form of word i of a present block
abbrev pub form_in : Cache → Option ℕ → ℕ → Word → Form
form_in c None i buffer = bytes_of buffer
form_in c (Some slot) i buffer =
    if (field_at c slot i).processed then bytes_of buffer else over_form (field_at c slot i).code buffer (coming_form c slot i)

abbrev pub form : Cache → ℕ → ℕ → Form
form c block i = form_in c (live_for c block) i (cell_of c block i).word

-- ---- what accepted loads are owed

abbrev pub target_form : Cache → Target → Form
target_form c t = over_form t.load.lanes t.load.held (coming_form c t.slot t.i)

-- the owed list: the form that each tag is owed
abbrev pub owed : Cache → ℕ → Option Form
owed c tag =
    option_or (option_map (λ r. bytes_of r.word) (find (λ r. r.tag == tag) c.ready))
    (option_map (target_form c) (find (λ t. t.load.tag == tag) (targets c.registers)))

-- ---- filling

-- a lane once word i of the register in this slot is known
abbrev pub fill : ℕ → ℕ → Word → LaneForm → LaneForm
fill slot i w (Byte b) = Byte b
fill slot i w (Asked slot' i' l) = if (slot == slot') && (i == i') then Byte (byte w l) else Asked slot' i' l

-- the byte of a lane, filled by all these answers, one after the other
abbrev pub value : List BankAnswer → LaneForm → ℕ
value [] (Byte b) = b
value [] (Asked slot i l) = 0
value (a ∷ answers) form = value answers (fill a.slot a.i a.word form)

-- the word of a form, so filled
abbrev pub filled_by : List BankAnswer → Form → Word
filled_by answers form = word_of (λ l. value answers (form l))
