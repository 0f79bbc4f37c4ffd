-- One step of flat memory over the words and the table that the caller keeps.
use Rattle.std.specs.Prelude.{List, Option, Some, None, slice_set}
use Rattle.flat_model.specs.declared.Word.{Word}
use Rattle.flat_model.specs.declared.Event.{Event}
use Rattle.flat_model.specs.declared.Event.TheVariants.{Load, Take}
use Rattle.flat_model.specs.declared.Answer.{Answer}
use Rattle.flat_model.specs.declared.Answer.TheVariants.{Accepted, Value}
use Rattle.flat_model.specs.Flat.{Flat, flat_step, word_at}
use Rattle.flat_judge.specs.declared.table.Due.{Due}
use Rattle.flat_judge.specs.Table.{due_in, owed_entry, taken_entry}

-- the flat memory that words and a table say
abbrev pub flat : List Word → List Due → Flat
flat words due = record { mem = words; due = due_in due }

-- the step that an event and its answer make: `None` where one of the two isn't there, or flat memory never answers so
abbrev pub judged : List Word → List Due → Option Event → Option Answer → Option Flat
judged words due (Some event) (Some answer) = flat_step (flat words due) event answer
judged words due event answer = None

-- what is written of the table: the entry of a tag that is loaded, or whose value is taken, and no other
abbrev pub table_with : List Word → List Due → Event → Answer → List Due
table_with words due (Load tag at) Accepted = slice_set due tag (owed_entry (word_at words at))
table_with words due (Take place) (Value tag word) = slice_set due tag (taken_entry word)
table_with words due event answer = due

-- the table behind a step
abbrev pub table_after : List Word → List Due → Option Event → Option Answer → List Due
table_after words due (Some event) (Some answer) = table_with words due event answer
table_after words due event answer = due
