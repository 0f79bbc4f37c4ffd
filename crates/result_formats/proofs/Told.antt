-- What is written of the code's fields and series is what they say.
use Rattle.std.proofs.Common.{◌≡◌, List, map, sym}
use Rattle.std.specs.List.{flat_map}
use Rattle.std.proofs.lemmas.List.Folds.{flat_map-map}
use Rattle.named_fields.specs.declared.fields.Field.{Field}
use Rattle.named_fields.specs.declared.format.Format.{Format}
use Rattle.named_fields.specs.Formats.{said}
use Rattle.result_formats.specs.declared.series.Series.{Series}
use Rattle.result_formats.specs.Series.{told, field_in, all_fields, series_in, all_series}

pub fields_said : (format : Format) (fs : List Field) → flat_map (λ g. field_in format (said g)) fs ≡ all_fields format (map said fs)
unfolding all_fields
fields_said format fs = sym (flat_map-map (field_in format) said fs)

pub series_told : (format : Format) (ss : List Series) → flat_map (λ s. series_in format (told s)) ss ≡ all_series format (map told ss)
unfolding all_series
series_told format ss = sym (flat_map-map (series_in format) told ss)
