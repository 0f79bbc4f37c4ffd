-- What the caller's table says that each tag is owed.
use Rattle.std.specs.Prelude.{ℕ, if◌then◌else◌, ◌==◌, List, Option, Some, None, is_some, slice_index_or}
use Rattle.std.specs.List.{filter, range_with_len}
use Rattle.flat_model.specs.declared.Word.{Word}
use Rattle.flat_model.specs.Words.{zero_word}
use Rattle.flat_judge.specs.declared.table.Due.{Due}
use Rattle.flat_judge.specs.declared.table.TheConstants.{TAGS}

-- the word that an entry of the table says is owed
abbrev pub owed_by : Due → Option Word
owed_by e = if e.owed == 0 then None else Some e.word

-- the entries that the judge writes: of a tag that is owed this word, and of one whose value was this word
abbrev pub owed_entry : Word → Due
owed_entry word = record { owed = 1; word = word }

abbrev pub taken_entry : Word → Due
taken_entry word = record { owed = 0; word = word }

-- an entry that says of nothing that it is owed
abbrev pub no_due : Due
no_due = record { owed = 0; word = zero_word }

-- the entry of a tag, by a table
abbrev pub entry_of : List Due → ℕ → Due
entry_of due tag = slice_index_or due tag no_due

-- the word that a tag is owed, by a table
abbrev pub due_in : List Due → ℕ → Option Word
due_in due tag = owed_by (entry_of due tag)

-- the word that is owed, or else this one
abbrev pub owed_or : Word → Option Word → Word
owed_or word None = word
owed_or word (Some owed) = owed

-- the tags below a number that are owed a word, the lowest first
unfoldable pub owed_below : List Due → ℕ → List ℕ
owed_below due tags = filter (λ tag. is_some (due_in due tag)) (range_with_len 0 tags)

-- the tags that are owed a word
unfoldable pub tags_owed : List Due → List ℕ
tags_owed due = owed_below due TAGS

-- the tag at a place among these, or else this one
abbrev pub nth_tag : ℕ → List ℕ → ℕ → ℕ
nth_tag tag tags n = slice_index_or tags n tag
