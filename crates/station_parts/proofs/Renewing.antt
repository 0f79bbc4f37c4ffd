-- A renewal: what was audited stays as it was found, but for the journal and the ports' leave to offer again.
use Rattle.std.proofs.Common.{◌≡◌, ℕ, ◌+◌, cond, List, [], ◌∷◌, ◌++◌, map, position, Some, refl, ap, ap₂, append-nil, append_assoc, arith}
use Rattle.std.specs.List.{position_from}
use Rattle.std.proofs.lemmas.Iterator.Adapters.{position_from-zero}
use Rattle.std.specs.Global.{Vec}
use Rattle.station_journal.specs.declared.journal.Entry.{Entry}
use Rattle.station_parts.specs.declared.port.Port.{Port}
use Rattle.station_parts.specs.Segments.{whole_of}
use Rattle.station_parts.specs.Words.{known_tellings}
use Rattle.station_parts.specs.Audited.{holds_item}

-- one segment more
pub handed_over : (segments : List (Vec Entry)) (segment : Vec Entry)
    → whole_of (segments ++ segment ∷ []) ≡ whole_of segments ++ segment.items
handed_over [] segment = append-nil segment.items
handed_over (first ∷ rest) segment = cc (handed_over rest segment, append_assoc first.items _ segment.items)

-- ---- the ports

still_told : (k : ℕ) (old new : List Port) → map known_tellings new ≡ map known_tellings old
    → position_from (λ p. holds_item (known_tellings p)) k new ≡ position_from (λ p. holds_item (known_tellings p)) k old
still_told k [] [] e = refl
still_told k [] (y ∷ ys) e = absurd (cc)
still_told k (x ∷ xs) [] e = absurd (cc)
still_told k (x ∷ xs) (y ∷ ys) e =
    ap₂ (λ t o. cond t (Some k) o) (ap holds_item cc) (still_told (k + 1) xs ys cc)

pub told_alike : (old new : List Port) → map known_tellings new ≡ map known_tellings old
    → position (λ p. holds_item (known_tellings p)) new ≡ position (λ p. holds_item (known_tellings p)) old
told_alike old new e = grind (arith, position_from-zero, still_told)
