-- The bytes of the open loads of a log.
use Rattle.std.proofs.Common.{◌≡◌, ℕ, zero, suc, ◌+◌, ◌-◌, ◌==◌, ◌&&◌, not, if◌then◌else◌, List, [], ◌∷◌, map, Some, None, refl, sym, arith}
use Rattle.std.specs.Prelude.{nat_le, nat_lt}
use Rattle.std.specs.List.{filter, find, range_with_len}
use Rattle.std.specs.Option.{option_map}
use Rattle.std.proofs.lemmas.Bool.{cases_Bool}
use Rattle.std.proofs.lemmas.Bool.Decides.{nat_tests}
use Rattle.std.proofs.lemmas.List.{flat_map_more}
use Rattle.std.proofs.lemmas.List.Elements.{filter-append}
use Rattle.std.proofs.lemmas.List.Folds.{find-append}
use Rattle.memory_histories.specs.declared.events.HistoryEvent.{HistoryEvent}
use Rattle.memory_histories.specs.declared.events.HistoryEvent.TheVariants.{LoadRequest, LoadResponse}
use Rattle.memory_histories.specs.Windows.{load_byte, is_of, is_at}
use Rattle.memory_histories.specs.declared.windows.LoadByte.{LoadByte}
use Rattle.history_reasons.specs.declared.loads.OpenLoad.{OpenLoad}
use Rattle.history_reasons.specs.Loads.{bytes_of, all_bytes_of, asks_for, byte_at, without_load}
use Rattle.history_reasons.specs.Log.{noted_loads, told_loads}

module _ (number m x e t : ℕ) where
  abbrev bytes_from : ℕ → ℕ → List LoadByte
  bytes_from a n = map (load_byte m x e t) (range_with_len a n)

  -- the byte at an address
  of_load : (address a n : ℕ) → find (is_at number address) (bytes_from a n)
      ≡ (if (m == number) && (nat_le a address && nat_lt (address - a) n) then Some (load_byte m x e t address) else None)
  of_load address a zero = grind (arith, nat_tests)
  of_load address a (suc n) = grind (arith, nat_tests, of_load address (a + 1) n)

  -- an answer takes all or none
  one_kept : (a n : ℕ) → filter (λ l. not (is_of number l)) (bytes_from a n) ≡ (if m == number then [] else bytes_from a n)
  one_kept a zero = grind (arith, nat_tests)
  one_kept a (suc n) = grind (arith, nat_tests, one_kept (a + 1) n)

-- a byte is found in its load
pub byte_found : (number address : ℕ) (loads : List OpenLoad)
    → option_map (byte_at address) (find (asks_for number address) loads) ≡ find (is_at number address) (all_bytes_of loads)
byte_found number address [] = refl
byte_found number address (l ∷ ls) =
    let its = of_load number l.number l.address l.enables l.began address l.address l.length in
    grind (arith, find-append, its, cases_Bool, byte_found number address ls)

kept : (number : ℕ) (loads : List OpenLoad)
    → all_bytes_of (without_load number loads) ≡ filter (λ l. not (is_of number l)) (all_bytes_of loads)
kept number [] = refl
kept number (l ∷ ls) =
    let its = one_kept number l.number l.address l.enables l.began l.address l.length in
    grind (arith, filter-append, its, cases_Bool, kept number ls)

-- the bytes of the loads are noted with the loads
pub bytes_noted : (loads : List OpenLoad) (moment : ℕ) (event : HistoryEvent)
    → all_bytes_of (told_loads loads moment event) ≡ noted_loads (all_bytes_of loads) moment event
bytes_noted loads moment (LoadRequest number address n enables) =
    sym (flat_map_more bytes_of [] loads
    (record { number = number; address = address; length = n; enables = enables; began = moment }))
bytes_noted loads moment (LoadResponse number bytes) = kept number loads
bytes_noted loads moment event = refl
