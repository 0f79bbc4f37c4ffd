-- Figures with names, as a row of a table (CSV) and as an object (JSON).
use Rattle.std.specs.Prelude.{ℕ, ◌/◌, ◌%◌, Bool, if◌then◌else◌, Option, Some, None, List, [], ◌∷◌, ◌++◌, codes, decimal}
use Rattle.std.specs.List.{flat_map}
use Rattle.flat_model.specs.Texts.{byte_text, word_text, event_text, answer_text}
use Rattle.named_fields.specs.Texts.{quoted, escaped}
use Rattle.named_fields.specs.declared.figures.Figure.{Figure}
use Rattle.named_fields.specs.declared.figures.Figure.TheVariants.{Count, Hundredths, Truth, Name, OfWord, OfByte, OfEvent, OfAnswer}
use Rattle.named_fields.specs.declared.figures.Figure.TheVariants.{Numbers, Bytes, Quoted, Missing}
use Rattle.named_fields.specs.declared.fields.Field.{Field}
use Rattle.named_fields.specs.declared.format.Format.{Format}
use Rattle.named_fields.specs.declared.format.Format.TheVariants.{Text, Csv, Json}
use Rattle.named_fields.specs.declared.format.VerdictFormat.{VerdictFormat}
use Rattle.named_fields.specs.declared.format.VerdictFormat.TheVariants as verdict

-- what stands under a name
pub record Named : Type 0 where
  pub name : List ℕ
  pub value : List ℕ

-- the texts of these, with commas between them
abbrev pub joined : {X : Type 0} → (X → List ℕ) → List X → List ℕ
joined text [] = []
joined text (x ∷ xs) = text x ++ flat_map (λ y. codes "," ++ text y) xs

abbrev pub truth_text : Bool → List ℕ
truth_text b = if b then codes "true" else codes "false"

-- hundredths with both their digits
abbrev pub number_text : ℕ → ℕ → List ℕ
number_text whole part = decimal whole ++ (codes "." ++ (decimal (part / 10) ++ decimal (part % 10)))

abbrev pub quoted_byte : ℕ → List ℕ
quoted_byte b = quoted (byte_text b)

-- a list of an object
abbrev pub listed : {X : Type 0} → (X → List ℕ) → List X → List ℕ
listed text xs = codes "[" ++ (joined text xs ++ codes "]")

-- what a figure says: numbers as they stand in a row too
abbrev pub value_text : Figure → List ℕ
value_text (Count n) = decimal n
value_text (Hundredths whole part) = number_text whole part
value_text (Truth b) = truth_text b
value_text (Name name) = quoted name.now
value_text (OfWord word) = quoted (word_text word)
value_text (OfByte byte) = quoted (byte_text byte)
value_text (OfEvent event) = quoted (event_text event)
value_text (OfAnswer answer) = quoted (answer_text answer)
value_text (Numbers numbers) = listed decimal numbers.now
value_text (Bytes bytes) = listed quoted_byte bytes.now
value_text (Quoted text) = escaped text.now
value_text Missing = codes "null"

-- a figure under a name
abbrev pub named : List ℕ → Figure → Named
named name figure = record { name = name; value = value_text figure }

-- a word of its own: a name with letters, digits, `_` and spaces
abbrev pub worded : List ℕ → List ℕ → Named
worded name text = record { name = name; value = quoted text }

-- a text that any bytes may stand in
abbrev pub written : List ℕ → List ℕ → Named
written name text = record { name = name; value = escaped text }

-- nothing
abbrev pub absent : List ℕ → Named
absent name = record { name = name; value = codes "null" }

-- a number, and one that there may be
abbrev pub counted : List ℕ → ℕ → Named
counted name n = record { name = name; value = decimal n }

abbrev pub counted_if : List ℕ → Option ℕ → Named
counted_if name None = absent name
counted_if name (Some n) = counted name n

-- a list of numbers, and one of bytes in two digits each
abbrev pub numbers : List ℕ → List ℕ → Named
numbers name ns = record { name = name; value = listed decimal ns }

abbrev pub bytes : List ℕ → List ℕ → Named
bytes name bs = record { name = name; value = listed quoted_byte bs }

-- what a field says
abbrev pub said : Field → Named
said f = named f.name.now f.figure

abbrev pub name_text : Named → List ℕ
name_text f = f.name

abbrev pub figure_text : Named → List ℕ
figure_text f = f.value

abbrev pub member_text : Named → List ℕ
member_text f = codes "\"" ++ (f.name ++ (codes "\":" ++ f.value))

-- the names as the first line of a table
unfoldable pub header_text : List Named → List ℕ
header_text fields = joined name_text fields

-- the figures as a line of a table
unfoldable pub row_text : List Named → List ℕ
row_text fields = joined figure_text fields

-- an object, on one line
unfoldable pub object_text : List Named → List ℕ
object_text fields = codes "{" ++ (joined member_text fields ++ codes "}")

-- a line of a table, or an object, or the text that people read
unfoldable pub in_format : Format → List ℕ → List Named → List ℕ
in_format Text text fields = text
in_format Csv text fields = row_text fields
in_format Json text fields = object_text fields

-- what stands before the first line: the names, in a table
unfoldable pub head_in_format : Format → List Named → List ℕ
head_in_format Csv fields = header_text fields ++ codes "\n"
head_in_format format fields = []

-- an object, or the text that people read
unfoldable pub verdict_in : VerdictFormat → List ℕ → List Named → List ℕ
verdict_in verdict.Text text fields = text
verdict_in verdict.Json text fields = object_text fields

-- ---- the fields of the code, which may be written so

-- texts of fields with commas between them
unfoldable pub joined_fields : (Named → List ℕ) → List Field → List ℕ
joined_fields text fields = joined (λ f. text (said f)) fields
