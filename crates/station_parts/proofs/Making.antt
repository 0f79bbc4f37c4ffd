-- A station's parts as they are made, one port and one bank after another.
use Rattle.std.proofs.Common.{ap, ◌≡◌, ℕ, zero, suc, ◌+◌, ◌-◌, ◌/◌, ◌<◌, List, [], ◌∷◌, ◌++◌, map, length, replicate, slice_index_or, refl}
use Rattle.std.proofs.Common.{sym, ◌∙◌, arith, length-append, None, ◌≤◌, not, Bool, cond, true, false, Option, Some}
use Rattle.std.specs.List.{All, range_with_len}
use Rattle.std.proofs.lemmas.List.{map-append, length-replicate}
use Rattle.std.proofs.lemmas.List.Elements.{All-push, All-head, All-tail, All-weaker}
use Rattle.std.proofs.lemmas.List.FromFn.{length-map-range_with_len, map-range_with_len_more}
use Rattle.station_parts.specs.declared.make.TheConstants.{MAX_PORTS, MAX_ENTRIES}
use Rattle.rtrb.specs.Ring.{IsPair, known_free}
use Rattle.flat_model.specs.Words.{zero_word}
use Rattle.flat_model.specs.declared.Word.{Word}
use Rattle.memory_banks.specs.Banks.{share_of}
use Rattle.memory_banks.specs.declared.BankAnswer.{BankAnswer}
use Rattle.cache_law.specs.declared.Sizes.{Sizes}
use Rattle.cache_law.specs.State.{UnitState, opening_cache}
use Rattle.cache_law.specs.Sound.{InRange}
use Rattle.cache_unit.specs.Limits as limits
use Rattle.cache_unit.proofs.Numbers.{in_size, looser}
use Rattle.station_journal.specs.Journal.{opening_stand}
use Rattle.station_journal.specs.Side.{SideTells}
use Rattle.station_journal.specs.declared.asks.Ask.{Ask}
use Rattle.station_journal.specs.declared.asks.Told.{Told}
use Rattle.station_parts.specs.declared.port.TheConstants.{TELLING_PLACES}
use Rattle.station_parts.specs.declared.port.Port.{Port}
use Rattle.station_parts.specs.declared.row.Line.{Line}
use Rattle.station_parts.specs.declared.bank.BankSide.{BankSide}
use Rattle.station_parts.specs.Rows.{sent_at, free_at, taken_at, popped_at, received_at, pushed_at, room_at}
use Rattle.station_parts.specs.Ports.{PortsTell}
use Rattle.station_parts.specs.declared.parts.CacheSide.{CacheSide}
use Rattle.station_parts.specs.Rings.{pushes_to, pops_from}
use Rattle.station_parts.specs.Ids.{BankId, bank_id}
use Rattle.station_parts.proofs.Looking.{as_long}
use Rattle.std.specs.Option.{option_or}
use Rattle.flat_model.specs.declared.ShapeField.{ShapeField}
use Rattle.flat_model.specs.declared.ShapeField.TheVariants.{Ports, Journal}
use Rattle.flat_model.specs.Ranges.{is_between}
use Rattle.station_parts.specs.New.{bad_field, bad_size, bad_count, IsNewPort, IsNewBank, IsNewPopper, IsNewPusher, IsNewLine, IsNewCache}
use Rattle.station_parts.specs.New.{IsNewStation, AreNewPorts, AreNewBanks}
use Rattle.station_parts.proofs.Rows.{Popper, Pusher}

-- the two ends of a ring belong to it
pub ring_of_pair : {T : Type 0} (p : Pusher T) (c : Popper T) → IsPair p c → pops_from c ≡ pushes_to p
ring_of_pair p c h = cc

-- ---- rows that grow

matched_more : {X Y Z W : Type 0} (f : Y → Z) (g : X → Y) (h : W → Z) (xs : List X) (ys : List W) (x : X) (y : W)
    → map f (map g xs) ≡ map h ys → f (g x) ≡ h y → map f (map g (xs ++ x ∷ [])) ≡ map h (ys ++ y ∷ [])
matched_more f g h xs ys x y so_far e = grind (arith, map-append)

-- ---- a port

pub one_more_port : (ports : List Port) (asks : List (Popper Ask)) (tellings : List (Pusher Told))
    (p : Port) (a : Popper Ask) (t : Pusher Told) → AreNewPorts ports asks tellings → IsPair p.asks a
    → IsPair t p.tellings → IsNewPort p → IsNewPopper a → IsNewPusher TELLING_PLACES t
    → AreNewPorts (ports ++ p ∷ []) (asks ++ a ∷ []) (tellings ++ t ∷ [])
one_more_port ports asks tellings p a t h asks_pair told_pair port popper pusher =
    record {
      ask_rings = matched_more _ _ _ _ _ _ _ h.ask_rings (sym (ring_of_pair p.asks a asks_pair));
      told_rings = matched_more _ _ _ _ _ _ _ h.told_rings (ring_of_pair t p.tellings told_pair);
      each_port = All-push IsNewPort _ _ h.each_port port;
      each_asks = All-push IsNewPopper _ _ h.each_asks popper;
      each_tellings = All-push (IsNewPusher TELLING_PLACES) _ _ h.each_tellings pusher;
    }

-- ---- a bank

pub one_more_bank : (z : Sizes) (banks : List BankSide) (lines : List Line) (answers : List (Popper BankAnswer))
    (b : BankSide) (l : Line) (a : Popper BankAnswer) → AreNewBanks z banks lines answers → IsPair l.ring b.commands
    → IsPair b.answers a → IsNewBank z.bank_queue b → IsNewLine z.bank_queue l → IsNewPopper a
    → length b.words.items ≡ (z.words + z.banks - 1 - length banks) / z.banks
    → AreNewBanks z (banks ++ b ∷ []) (lines ++ l ∷ []) (answers ++ a ∷ [])
one_more_bank z banks lines answers b l a h command_pair answer_pair bank line popper count =
    record {
      command_rings = matched_more _ _ _ _ _ _ _ h.command_rings (ring_of_pair l.ring b.commands command_pair);
      answer_rings = matched_more _ _ _ _ _ _ _ h.answer_rings (sym (ring_of_pair b.answers a answer_pair));
      words =
          matched_more (λ (x : BankId). x.words) bank_id shares banks _ b (length banks) h.words (count ∙ sym share_count)
          ∙ map-append shares _ _
          ∙ sym (map-range_with_len_more shares 0 (length banks) _ (omega arith))
          ∙ ap (λ n. map shares (range_with_len 0 n)) (sym (length-append banks _));
      each_bank = All-push (IsNewBank z.bank_queue) _ _ h.each_bank bank;
      each_line = All-push (IsNewLine z.bank_queue) _ _ h.each_line line;
      each_answers = All-push IsNewPopper _ _ h.each_answers popper;
    }
  where
    shares : ℕ → ℕ
    shares k = length (share_of (replicate z.words zero_word) z.banks k)

    share_count : shares (length banks) ≡ (z.words + z.banks - 1 - length banks) / z.banks
    share_count = grind (arith, length-map-range_with_len, length-replicate, z.words)

pub zero_words : (ws : List Word) (n : ℕ) → ws ≡ replicate n zero_word → ws ≡ replicate (length ws) zero_word
zero_words ws n e = grind (arith, length-replicate)

-- ---- the cache side

-- what each element has, or would have
at_all : {X Y : Type 0} (f : X → Y) (d : Y) (xs : List X) (p : ℕ) → All (λ x. f x ≡ d) xs → slice_index_or (map f xs) p d ≡ d
at_all f d [] p h = refl
at_all f d (x ∷ xs) zero h = All-head (λ x. f x ≡ d) x xs h
at_all f d (x ∷ xs) (suc p) h = at_all f d xs p (All-tail (λ x. f x ≡ d) x xs h)

-- what each element has
at_each : {X Y : Type 0} (f : X → Y) (v d : Y) (xs : List X) (p : ℕ) → p < length xs → All (λ x. f x ≡ v) xs
    → slice_index_or (map f xs) p d ≡ v
at_each f v d [] p l h = absurd (omega arith)
at_each f v d (x ∷ xs) zero l h = All-head (λ x. f x ≡ v) x xs h
at_each f v d (x ∷ xs) (suc p) l h = at_each f v d xs p (omega arith) (All-tail (λ x. f x ≡ v) x xs h)

module _ (ports : List Port) (asks : List (Popper Ask)) (tellings : List (Pusher Told))
    (new : AreNewPorts ports asks tellings) where
  pub asks_number : length asks ≡ length ports
  asks_number = grind (arith, as_long)

  tellings_number : length tellings ≡ length ports
  tellings_number = grind (arith, as_long)

  free_tellings : (p : ℕ) → p < length ports → room_at tellings p ≡ TELLING_PLACES
  free_tellings p l =
      at_each known_free TELLING_PLACES 0 tellings p (rw (sym tellings_number) at l)
      (All-weaker (IsNewPusher TELLING_PLACES) _ (λ x h. h.1) tellings new.each_tellings)

  none_asked : (p : ℕ) → received_at asks p ≡ []
  none_asked p = grind (arith, at_all)

  none_told : (p : ℕ) → pushed_at tellings p ≡ []
  none_told p = grind (arith, at_all)

  pub new_ports : PortsTell asks tellings []
  new_ports = grind (arith, tellings_number, asks_number, none_asked, none_told)

module _ (z : Sizes) (banks : List BankSide) (lines : List Line) (answers : List (Popper BankAnswer))
    (made : AreNewBanks z banks lines answers) where
  pub lines_number : length lines ≡ length banks
  lines_number = grind (arith, as_long)

  pub answers_number : length answers ≡ length banks
  answers_number = grind (arith, as_long)

  free_commands : (b : ℕ) → b < length banks → free_at lines b ≡ z.bank_queue
  free_commands b l =
      at_each (λ x. known_free x.ring) z.bank_queue 0 lines b (rw (sym lines_number) at l)
      (All-weaker (IsNewLine z.bank_queue) _ (λ x h. h.ring.1) lines made.each_line)

  none_sent : (b : ℕ) → sent_at lines b ≡ []
  none_sent b = grind (arith, at_all)

  none_popped : (b : ℕ) → popped_at answers b ≡ []
  none_popped b = grind (arith, at_all)

  pub new_counted : (b : ℕ) → taken_at lines b ≡ length (popped_at answers b)
  new_counted b = grind (arith, at_all)

  pub new_tells : (u : UnitState) → u ≡ record { sizes = z; cache = opening_cache z }
      → SideTells u.sizes u.cache (sent_at lines) (popped_at answers) None []
  new_tells u is =
      rw is (record {
        stand = opening_stand z;
        come = λ b. [];
        walks = refl;
        unit = refl;
        commands = λ b l. sym (none_sent b);
        words = λ b l. refl;
        all = none_popped;
      })

module _ (z : Sizes) (entries : ℕ) (ports : List Port) (banks : List BankSide) (c : CacheSide)
    (new : AreNewPorts ports c.asks.items c.tellings.items) (made : AreNewBanks z banks c.row.lines.items c.answers.items)
    (bank_number : length banks ≡ z.banks) (unit_is : c.unit ≡ record { sizes = z; cache = opening_cache z })
    (first : c.earlier.values ≡ []) (empty : c.journal.items ≡ []) (limit_is : c.limit ≡ entries) (sound : c.fault ≡ None) where
  new_cache : IsNewCache z (length ports) entries c
  new_cache =
      record {
        journal = grind arith;
        limit = limit_is;
        fault = sound;
        sizes = grind arith;
        cache = grind arith;
        ports = grind (arith, as_long);
        asked = grind (arith, at_all);
        told = grind (arith, at_all);
        asks = grind (arith, at_all);
        telling_places = free_tellings _ _ _ new;
        commands = grind (arith, at_all);
        came = grind (arith, at_all);
        words = grind (arith, at_all);
        command_places = λ b l. free_commands z banks _ _ made b (rw (sym bank_number) at l);
      }

  pub new_station : IsNewStation z (length ports) entries c ports banks
  new_station = grind (arith, new_cache)

-- ---- the limits

-- what numbers that are all in their ranges give
pub record AreInRange (z : Sizes) (ports journal : ℕ) : Type 0 where
  pub unit : limits.bad_size z ≡ None
  pub range : InRange z
  pub few_ports : ports ≤ MAX_PORTS
  pub few_entries : journal ≤ MAX_ENTRIES

pub are_in_range : (z : Sizes) (ports journal : ℕ) → bad_size z ports journal ≡ None → AreInRange z ports journal
are_in_range z ports journal e = go _ refl _ refl _ refl e
  where
    go : (o : Option ShapeField) → limits.bad_size z ≡ o → (p : Bool) → is_between ports 1 MAX_PORTS ≡ p → (j : Bool)
        → is_between journal 1 MAX_ENTRIES ≡ j → option_or o (cond (not p) (Some Ports) (cond (not j) (Some Journal) None)) ≡ None
        → AreInRange z ports journal
    go (Some field) u p q j r h = cc
    go None u false q j r h = cc
    go None u true q false r h = cc
    go None u true q true r h = grind (arith, in_size)

-- where the unit's numbers are within the ranges of a type, both orders of checks find the same
pub found_alike : (z : Sizes) (ports journal : ℕ) → limits.bad_field z ≡ None → bad_field z ports journal ≡ bad_size z ports journal
found_alike z ports journal e =
    ap (λ o. option_or o (bad_count ports journal)) (e ∙ sym (looser z e))
