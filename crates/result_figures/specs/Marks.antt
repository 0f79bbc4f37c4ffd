-- What a figure leaves out, in words.
use Rattle.std.specs.Prelude.{ℕ, List, [], ◌∷◌, ◌++◌, codes, decimal, if◌then◌else◌, nat_lt}
use Rattle.std.specs.List.{flat_map}
use Rattle.result_figures.specs.declared.mark.Mark.{Mark}
use Rattle.result_figures.specs.declared.mark.Mark.TheVariants.{Omitted}
use Rattle.result_figures.specs.declared.mark.Omission.{Omission}
use Rattle.result_figures.specs.declared.mark.Omission.TheVariants.{Denied, Undrawn, Recorded}

unfoldable pub denials_text : (denied requests : ℕ) → List ℕ
denials_text denied requests =
    decimal denied ++ codes " of " ++ decimal requests ++ codes " requests denied: outside of memory, or nothing to store or evict"

unfoldable pub undrawn_text : (drawn requests : ℕ) → List ℕ
undrawn_text drawn requests = codes "the first " ++ decimal drawn ++ codes " of " ++ decimal requests ++ codes " requests are drawn"

unfoldable pub recorded_text : (event : ℕ) → List ℕ
recorded_text event = codes "event " ++ (decimal event ++ codes " has another recorded answer: the machine's are drawn")

abbrev pub omission_text : Omission → List ℕ
omission_text (Denied it) = denials_text it.denied it.requests
omission_text (Undrawn it) = undrawn_text it.drawn it.requests
omission_text (Recorded event) = recorded_text event

abbrev pub omission_line : Mark → List ℕ
omission_line (Omitted omission) = omission_text omission ++ codes "\n"
omission_line mark = []

-- a line for each thing that a figure of these marks leaves out
abbrev pub omissions_text : List Mark → List ℕ
omissions_text marks = flat_map omission_line marks

-- so many requests of so many were denied, if any were
abbrev pub denials : (denied requests : ℕ) → List Mark
denials denied requests = if nat_lt 0 denied then Omitted (Denied (record { denied = denied; requests = requests })) ∷ [] else []
