-- Counts by a number, under one name.
use Rattle.std.specs.Prelude.{ℕ, ◌+◌, ◌-◌, ◌*◌, ◌^◌, min, ◌==◌, if◌then◌else◌, List, [], ◌∷◌, ◌++◌, codes, decimal}
use Rattle.std.specs.List.{flat_map}
use Rattle.result_formats.specs.declared.series.By.{By}
use Rattle.result_formats.specs.declared.series.By.TheVariants.{Number, Doubling}
use Rattle.result_formats.specs.declared.series.Series.{Series}
use Rattle.named_fields.specs.declared.format.Format.{Format}
use Rattle.named_fields.specs.declared.format.Format.TheVariants.{Text, Csv, Json}
use Rattle.named_fields.specs.Formats.{Named, joined, name_text, figure_text, member_text}

-- the number behind this one, up to the greatest of 64 bits: each number, or the powers of two behind 0
abbrev pub next : By → ℕ → ℕ
next Number n = min (n + 1) (2 ^ 64 - 1)
next Doubling n = if n == 0 then 1 else min (n * 2) (2 ^ 64 - 1)

-- counts under a name: the count of 0 comes first
pub record Listed : Type 0 where
  pub name : List ℕ
  pub by : By
  pub counts : List ℕ

abbrev pub listed : List ℕ → By → List ℕ → Listed
listed name by counts = record { name = name; by = by; counts = counts }

-- what a series of the code says
abbrev pub told : Series → Listed
told s = record { name = s.name.now; by = s.by; counts = s.counts.now }

-- each count behind its number, from this number on
abbrev pub pairs_text : By → ℕ → List ℕ → List ℕ
pairs_text by from [] = []
pairs_text by from (n ∷ ns) = codes " " ++ (decimal from ++ (codes ":" ++ (decimal n ++ pairs_text by (next by from) ns)))

-- a line for each count, with the name and the number
abbrev pub rows_text : List ℕ → By → ℕ → List ℕ → List ℕ
rows_text name by from [] = []
rows_text name by from (n ∷ ns) =
    codes "\n" ++ (name ++ (codes "," ++ (decimal from ++ (codes "," ++ (decimal n ++ rows_text name by (next by from) ns)))))

-- the counts with commas between them
unfoldable pub counts_text : List ℕ → List ℕ
counts_text counts = joined decimal counts

-- a series behind something else: as a line, as lines of a table, as a member of an object
abbrev pub series_in : Format → Listed → List ℕ
series_in Text s = codes "\n" ++ (s.name ++ pairs_text s.by 0 s.counts)
series_in Csv s = rows_text s.name s.by 0 s.counts
series_in Json s = codes ",\"" ++ (s.name ++ (codes "\":[" ++ (counts_text s.counts ++ codes "]")))

unfoldable pub all_series : Format → List Listed → List ℕ
all_series format all = flat_map (series_in format) all

-- a figure behind something else: as a line, as a line of a table, as a member of an object
abbrev pub field_in : Format → Named → List ℕ
field_in Text f = codes "\n" ++ (name_text f ++ (codes " " ++ figure_text f))
field_in Csv f = codes "\n" ++ (name_text f ++ (codes ",," ++ figure_text f))
field_in Json f = codes "," ++ member_text f

unfoldable pub all_fields : Format → List Named → List ℕ
all_fields format fields = flat_map (field_in format) fields
