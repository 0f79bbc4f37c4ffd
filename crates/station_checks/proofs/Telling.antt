-- Texts that are written one behind the other.
use Rattle.std.proofs.Common.{zero-add, ◌≡◌, ℕ, zero, suc, ◌+◌, ◌<◌, List, [], ◌∷◌, ◌++◌, length, take, drop, get_or, refl, add-one}
use Rattle.std.proofs.Common.{append-nil, append_assoc, arith, Result, OnOk}
use Rattle.std.specs.Prelude.{Option, flat_map}
use Rattle.std.specs.List.{slice_get, enumerate_from}
use Rattle.std.specs.Global.{Vec}
use Rattle.std.specs.Io.KnownBytes.{Appends}
use Rattle.station_journal.specs.declared.asks.Ask.{Ask}
use Rattle.station_journal.specs.declared.asks.Told.{Told}
use Rattle.station_parts.specs.Runs.{list_in}
use Rattle.station_checks.specs.PortTexts.{final_verdicts, ask_line, placed_ask_line, port_text, numbered_port_text}

pub appends_more : (old next new : Option (List ℕ)) (xs ys : List ℕ) → Appends old next xs → Appends next new ys
    → Appends old new (xs ++ ys)
appends_more old next new xs ys p q = grind (arith, append_assoc)

pub more_told : {X E : Type 0} (r : Result X E) (old next new : Option (List ℕ)) (first second : List ℕ) → Appends old next first
    → OnOk r (Appends next new second) → OnOk r (Appends old new (first ++ second))
more_told r old next new first second p q = grind (arith, appends_more)

-- ---- items that are told with their places

numbered_from : {X : Type 0} (f : ℕ × X → List ℕ) (n : ℕ) (xs : List X) (i : ℕ) (d : X) → i < length xs
    → flat_map f (enumerate_from n (take (suc i) xs)) ≡ flat_map f (enumerate_from n (take i xs)) ++ f (n + i, get_or xs i d)
numbered_from f n [] i d within = absurd (omega arith)
numbered_from f n (x ∷ xs) zero d within = grind (arith, append-nil)
numbered_from f n (x ∷ xs) (suc i) d within = grind (arith, append_assoc, numbered_from f (n + 1) xs i d)

-- one item more
pub numbered_more : {X : Type 0} (f : ℕ × X → List ℕ) (xs : List X) (i : ℕ) (d : X) (old next new : Option (List ℕ)) → i < length xs
    → Appends old next (flat_map f (enumerate_from 0 (take i xs))) → Appends next new (f (i, get_or xs i d))
    → Appends old new (flat_map f (enumerate_from 0 (take (i + 1) xs)))
numbered_more f xs i d old next new within before adds = rw (add-one, numbered_from f 0 xs i d within, zero-add i)
    (appends_more old next new _ _ before adds)

-- ---- what is left of a list

first_left : {X : Type 0} (xs : List X) (i : ℕ) → slice_get (drop i xs) 0 ≡ slice_get xs i
first_left [] zero = refl
first_left [] (suc i) = refl
first_left (x ∷ xs) zero = refl
first_left (x ∷ xs) (suc i) = first_left xs i

one_less : {X : Type 0} (xs : List X) (i : ℕ) → drop 1 (drop i xs) ≡ drop (suc i) xs
one_less [] zero = refl
one_less [] (suc i) = refl
one_less (x ∷ xs) zero = refl
one_less (x ∷ xs) (suc i) = one_less xs i

-- ---- what is told of the ports

module _ (list : List Told) (asks : List Ask) (i : ℕ) (rest : List Told)
    (before : final_verdicts rest ≡ drop i (final_verdicts list)) where
  -- one ask more, with the first of the verdicts that are left
  pub ask_more : (d : Ask) (verdict : Option Told) (old next new : Option (List ℕ)) → i < length asks
      → verdict ≡ slice_get (final_verdicts rest) 0
      → Appends old next (flat_map (placed_ask_line list) (enumerate_from 0 (take i asks)))
      → Appends next new (ask_line list (get_or asks i d) verdict)
      → Appends old new (flat_map (placed_ask_line list) (enumerate_from 0 (take (i + 1) asks)))
  ask_more d verdict old next new within first told adds =
      numbered_more (placed_ask_line list) asks i d old next new within told
      (rw (first, before, first_left (final_verdicts list) i) at adds)

  -- and the others are left
  pub fewer_left : (behind : List Told) → final_verdicts behind ≡ drop 1 (final_verdicts rest)
      → final_verdicts behind ≡ drop (i + 1) (final_verdicts list)
  fewer_left behind is = rw add-one (cc (is, before, one_less (final_verdicts list) i))

-- one port more
pub port_more : (asks : ℕ) (lists : List (Vec Told)) (scripts : List (Vec Ask)) (i : ℕ) (script d : Vec Ask) (items : List Ask)
    (list : List Told) (old next new : Option (List ℕ)) → i < length scripts → script ≡ get_or scripts i d → items ≡ script.items
    → list ≡ list_in lists i
    → Appends old next (flat_map (numbered_port_text asks lists) (enumerate_from 0 (take i scripts)))
    → Appends next new (port_text i asks items list)
    → Appends old new (flat_map (numbered_port_text asks lists) (enumerate_from 0 (take (i + 1) scripts)))
port_more asks lists scripts i script d items list old next new within is holds told before adds =
    numbered_more (numbered_port_text asks lists) scripts i d old next new within before (rw (told, holds, is) at adds)
