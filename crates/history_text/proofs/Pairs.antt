-- The bytes of digits, pair by pair.
use Rattle.std.proofs.Common.{◌≡◌, ℕ, Option, Some, None, List, [], ◌∷◌, ◌++◌, append_assoc, refl, sym, ◌∙◌, ap}
use Rattle.std.specs.Option.{option_map}
use Rattle.trace_text.specs.Fields.{byte_of}
use Rattle.history_text.specs.Fields.{bytes_in, cons_byte}

one_more : (bs : List ℕ) (b : ℕ) (more : Option (List ℕ))
    → option_map (λ l. bs ++ l) (cons_byte (Some b) more) ≡ option_map (λ l. (bs ++ b ∷ []) ++ l) more
one_more bs b None = refl
one_more bs b (Some l) = ap Some (sym (append_assoc bs (b ∷ []) l))

-- a pair's byte moves to the end of those so far
pub pair_more : (text bs pushed rest behind : List ℕ) (high low b : ℕ) → bytes_in text ≡ option_map (λ l. bs ++ l) (bytes_in rest)
    → rest ≡ high ∷ low ∷ behind → byte_of high low ≡ Some b → pushed ≡ bs ++ b ∷ []
    → bytes_in text ≡ option_map (λ l. pushed ++ l) (bytes_in behind)
pair_more text bs pushed rest behind high low b whole is byte more =
    whole
    ∙ ap (λ r. option_map (λ l. bs ++ l) (bytes_in r)) is
    ∙ ap (λ o. option_map (λ l. bs ++ l) (cons_byte o (bytes_in behind))) byte
    ∙ one_more bs b _
    ∙ ap (λ p. option_map (λ l. p ++ l) (bytes_in behind)) (sym more)
