-- Where a load finds its word, as the code names it.
use Rattle.std.specs.Prelude.{ℕ, length}
use Rattle.flat_model.specs.Words.{zero_word, merged}
use Rattle.cache_unit.specs.declared.unit.present.Finding.{Finding}
use Rattle.cache_unit.specs.declared.unit.present.Finding.TheVariants as finding
use Rattle.cache_law.specs.State.{Cache, cell_of, field_at}
use Rattle.cache_law.specs.Causes.{Found, Here, Coming}

abbrev pub finding_of : Cache → ℕ → ℕ → Found → Finding
finding_of c block i (Here w) = finding.Here w
finding_of c block i (Coming slot) =
    finding.Coming slot (merged zero_word (cell_of c block i).word (field_at c slot i).code)
    (field_at c slot i).code (length (field_at c slot i).waiting)
