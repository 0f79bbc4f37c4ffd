-- Looks, and none, at the far ends of rings.
use Rattle.std.proofs.Common.{ℕ, List, [], ◌++◌, sym, ap, ◌∙◌, subst, append-nil, append_assoc}
use mathlib.Core.List.{IsPrefix}
use Rattle.station_parts.specs.Rows.{known_at, PopsAt}
use Rattle.station_parts.proofs.Rows.{Popper, only-none}
use Rattle.station_parts.proofs.SideMakes.{popped_none, known_more}

pub prefix_steps : {T : Type 0} (xs ys zs : List T) → IsPrefix xs ys → IsPrefix ys zs → IsPrefix xs zs
prefix_steps xs ys zs (more, p) (rest, q) = (more ++ rest, sym (append_assoc xs more rest) ∙ ap (λ l. l ++ rest) p ∙ q)

-- one look more
pub looks_steps : {T : Type 0} (xs ys zs : List (Popper T)) (place : ℕ) → PopsAt xs ys 0 [] → PopsAt ys zs place []
    → PopsAt xs zs 0 []
looks_steps xs ys zs place first then =
    record {
      rings = then.rings ∙ first.rings;
      popped = λ p. popped_none ys zs place then p ∙ popped_none xs ys 0 first p
          ∙ sym (cc (only-none 0 p, append-nil _));
      known = λ p. subst (λ l. IsPrefix (known_at xs p) (l ++ known_at zs p)) (sym (only-none 0 p))
          (prefix_steps _ _ _ (known_more xs ys 0 first p) (known_more ys zs place then p));
    }
