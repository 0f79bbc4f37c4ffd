-- What is written of the code's fields is what their names and figures make.
use Rattle.std.proofs.Common.{◌≡◌, ℕ, List, [], ◌∷◌, ◌++◌, refl, ap, map}
use Rattle.std.specs.Prelude.{codes}
use Rattle.std.specs.List.{flat_map}
use Rattle.named_fields.specs.declared.fields.Field.{Field}
use Rattle.named_fields.specs.Formats.{Named, said, joined, joined_fields}
use Rattle.named_fields.specs.Formats.{name_text, figure_text, member_text, header_text, row_text, object_text}

more_said : (text : Named → List ℕ) (fs : List Field)
    → flat_map (λ f. codes "," ++ text (said f)) fs ≡ flat_map (λ g. codes "," ++ text g) (map said fs)
more_said text [] = refl
more_said text (f ∷ fs) = ap (λ l. (codes "," ++ text (said f)) ++ l) (more_said text fs)

pub joined_said : (text : Named → List ℕ) (fs : List Field) → joined_fields text fs ≡ joined text (map said fs)
unfolding joined_fields
joined_said text [] = refl
joined_said text (f ∷ fs) = ap (λ l. text (said f) ++ l) (more_said text fs)

pub header_said : (fs : List Field) → joined_fields name_text fs ≡ header_text (map said fs)
unfolding header_text
header_said fs = joined_said name_text fs

pub row_said : (fs : List Field) → joined_fields figure_text fs ≡ row_text (map said fs)
unfolding row_text
row_said fs = joined_said figure_text fs

pub object_said : (fs : List Field) → codes "{" ++ (joined_fields member_text fs ++ codes "}") ≡ object_text (map said fs)
unfolding object_text
object_said fs = ap (λ l. codes "{" ++ (l ++ codes "}")) (joined_said member_text fs)
