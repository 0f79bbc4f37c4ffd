-- What is written for a line.
use Rattle.std.specs.Prelude.{ℕ, Bool, if◌then◌else◌, Option, Some, None, List, [], ◌∷◌, ◌++◌, codes, decimal}
use Rattle.std.specs.List.{flat_map, range_with_len}
use Rattle.flat_model.specs.declared.limits.TheConstants.{MAX_BLOCK_WORDS}
use Rattle.flat_model.specs.declared.Word.{Word}
use Rattle.flat_model.specs.declared.Answer.{Answer}
use Rattle.flat_model.specs.declared.Answer.TheVariants.{Accepted, Moved, Value, Nothing, Refused}
use Rattle.flat_model.specs.Flat.{number}
use Rattle.machine_core.specs.Words.{RegisterView, FieldView}
use Rattle.machine_core.specs.Machine.{MachineState}
use Rattle.machine_core.specs.AnyMachine.{answered, after_event, register_shown, field_shown, bank_shown, is_settled}
use Rattle.trace_text.specs.Codes.{space, hyphen, closing_bracket, letter_I, letter_O, letter_P, letter_V}
use Rattle.flat_model.specs.Texts.{lanes_text, word_text}
use Rattle.trace_text.specs.Fields.{padded}
use Rattle.trace_text.specs.declared.lines.Line.{Line}
use Rattle.trace_text.specs.declared.lines.Line.TheVariants as line

-- ---- an answer

unfoldable pub answer_text : Answer → List ℕ
answer_text Accepted = codes "accepted"
answer_text Moved = codes "moved"
answer_text (Value tag word) = codes "value " ++ decimal tag ++ space ∷ word_text word
answer_text Nothing = codes "nothing"
answer_text (Refused cause) = codes "refused " ++ decimal (number cause)

-- ---- a register

-- a letter where a mark stands, and else a hyphen
abbrev pub mark_text : Bool → ℕ → ℕ
mark_text mark letter = if mark then letter else hyphen

-- how many loads wait for a word, and a hyphen for none
abbrev pub waiting_text : FieldView → List ℕ
waiting_text f = if f.send then decimal f.targets else codes "-"

-- how many wait, whether the word stands in the input stack, and whether it was processed
unfoldable pub marks_text : FieldView → List ℕ
marks_text f = waiting_text f ++ mark_text f.in_stack letter_I ∷ mark_text f.processed letter_P ∷ []

-- what is kept of the first load that waits
unfoldable pub held_text : FieldView → List ℕ
held_text f = padded 5 f.tag ++ space ∷ lanes_text f.held_lanes ++ space ∷ word_text f.held

-- the part of a register for one word
unfoldable pub field_text : FieldView → List ℕ
field_text f = codes " [" ++ marks_text f ++ space ∷ lanes_text f.code ++ space ∷ held_text f ++ closing_bracket ∷ []

abbrev pub shown_or_nothing : Option FieldView → List ℕ
shown_or_nothing None = []
shown_or_nothing (Some f) = field_text f

abbrev pub field_text_at : MachineState → ℕ → ℕ → List ℕ
field_text_at s slot i = shown_or_nothing (field_shown s slot i)

-- the part of a register before its words
unfoldable pub head_text : RegisterView → List ℕ
head_text r =
    mark_text r.valid letter_V ∷ mark_text r.obsolete letter_O ∷ space ∷ padded 7 r.block ++ space ∷ padded 4 r.frame
    ++ space ∷ padded 2 r.processed

abbrev pub register_text_from : MachineState → ℕ → Option RegisterView → List ℕ
register_text_from s slot None = codes "none"
register_text_from s slot (Some r) = head_text r ++ flat_map (field_text_at s slot) (range_with_len 0 MAX_BLOCK_WORDS)

-- a register and each word of its block
unfoldable pub register_text : MachineState → ℕ → List ℕ
register_text s slot = register_text_from s slot (register_shown s slot)

-- ---- a line

unfoldable pub bank_text : Option Word → List ℕ
bank_text None = codes "none"
bank_text (Some word) = word_text word

unfoldable pub settled_text : Bool → List ℕ
settled_text b = if b then codes "yes" else codes "no"

-- the text of what a machine answers to a line
unfoldable pub reply_text : MachineState → Line → List ℕ
reply_text s (line.Event event) = answer_text (answered s event)
reply_text s (line.Register slot) = register_text s slot
reply_text s (line.Bank at) = bank_text (bank_shown s at)
reply_text s line.Settled = settled_text (is_settled s)

-- the machine after a line
unfoldable pub after_line : MachineState → Line → MachineState
after_line s (line.Event event) = after_event s event
after_line s (line.Register slot) = s
after_line s (line.Bank at) = s
after_line s line.Settled = s
