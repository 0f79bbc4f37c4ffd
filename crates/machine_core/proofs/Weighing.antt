-- The driver lowers the weight.
use Rattle.std.proofs.Common.{◌≡◌, ℕ, ◌+◌, ◌*◌, ◌<◌, cond, List, [], ◌∷◌, ◌++◌, length, get_or, take, refl, ap, arith, zero, suc, ◌-◌, ◌%◌}
use Rattle.std.proofs.Common.{◌≤◌, Bool, true, false, not, ◌&&◌, set, Option, Some, None, option_map, find, remove, slice_get}
use Rattle.std.proofs.Common.{length-append, ◌⊎◌, inl, inr, lt-ltb, mod-lt, flat_map, nat_lt, ⊎_elim, le-ltb, ◌==◌, map}
use Rattle.std.proofs.lemmas.List.{take_more, length-map, set_past}
use Rattle.std.proofs.lemmas.List.Sums.{sum_by-cons}
use Rattle.std.specs.List.{count_by, range_with_len, list_all}
use Rattle.memory_banks.specs.declared.Command.{Command}
use Rattle.memory_banks.specs.declared.Command.TheVariants.{Read, Write}
use Rattle.memory_banks.specs.Memory.{is_read}
use Rattle.machine_core.specs.Pump.{total, command_weight, bank_weight, field_weight, register_weight, weight, lowest, has_items, when}
use Rattle.machine_core.specs.Pump.{pumped, first_event}
use Rattle.std.proofs.lemmas.Bool.{lt-leb, cases_lt, and_parts, ltb-true}
use Rattle.machine_core.specs.Words.{Event, Take, Process, Arrive, Serve, Drain, Word}
use Rattle.memory_banks.specs.declared.BankAnswer.{BankAnswer}
use Rattle.memory_banks.specs.Banks.{Bank, bank_at, no_bank, pending, all_pending, answers_to, served, with_command, room_in}
use Rattle.cache_law.specs.declared.Reply.{Reply}
use Rattle.input_stack.specs.declared.Entry.{Entry}
use Rattle.write_queue.specs.declared.Queued.{Queued}
use Rattle.miss_registers.specs.declared.Owed.{Owed}
use Rattle.cache_law.specs.declared.Sizes.{Sizes}
use Rattle.cache_law.specs.State.{Target, Field, Register, Cache, clear_field, free_register, register_at, field_at, gathered, targets_of}
use Rattle.cache_law.specs.State.{targets_of_field, targets, tags}
use Rattle.cache_law.specs.Causes.{arrive_cause}
use Rattle.miss_registers.specs.Registers.{finished, marked}
use Rattle.cache_law.specs.Steps.{answered, processed, arrived, take_step, process_step, drain_step, drain_first, process_entry}
use Rattle.cache_law.specs.Counts.{tally, bit}
use Rattle.cache_law.proofs.FormsProcessing.{all_processed, done}
use Rattle.cache_law.proofs.Lists.{with_fields, in_range, tally-append, tally-map}
use Rattle.cache_law.proofs.Finds.{All-range, find-nowhere}
use Rattle.machine_core.specs.Machine.{Machine, apply, joined_with}
use Rattle.machine_core.specs.Law.{IsLawful, HasRoom, WalkIsDriven, most_weight}
use Rattle.machine_core.specs.Sound.{IsSound, wanted}
use Rattle.machine_core.proofs.Walking.{slot_there, field_there, not_stray, walk_sound}
use Rattle.machine_core.proofs.FromForms.{bit-pos, bit-le}
use Rattle.cache_law.proofs.Tags.{has_word, few_tags}
use Rattle.machine_core.proofs.Requests.{sound_opening}
use Rattle.std.proofs.Math.Nat.{mul_assoc}
use Rattle.flat_model.specs.Flat.{stored}

-- ---- Sums that are taken one element after another.

pub total-append : {X : Type 0} (f : X → ℕ) (xs ys : List X) → total f (xs ++ ys) ≡ total f xs + total f ys
total-append f [] ys = omega arith
total-append f (x ∷ xs) ys = let ih = total-append f xs ys in omega arith

-- one element more
pub total_more : {X : Type 0} (f : X → ℕ) (xs : List X) (k : ℕ) (d : X) (sum own : ℕ) → k < length xs → sum ≡ total f (take k xs)
    → own ≡ f (get_or xs k d) → sum + own ≡ total f (take (k + 1) xs)
total_more f xs k d sum own l so_far e =
    omega (arith, ap (total f) (take_more xs k d l), total-append f (take k xs) (get_or xs k d ∷ []))

-- 1 for a read
abbrev read_counts : Command → ℕ
read_counts c = cond (is_read c) 1 0

-- 1 for each command, and 3 more for a read
pub commands_weigh_all : (queue : List Command) → total command_weight queue ≡ length queue + 3 * count_by is_read queue
commands_weigh_all [] = refl
commands_weigh_all (c ∷ rest) = grind (arith, sum_by-cons read_counts c rest, commands_weigh_all rest)

-- ---- Each event of the driver.

-- ---- sums

total_set : {X : Type 0} (f : X → ℕ) (d : X) (xs : List X) (k : ℕ) (y : X) → k < length xs
    → total f (set xs k y) + f (get_or xs k d) ≡ total f xs + f y
total_set f d [] k y l = absurd (omega arith)
total_set f d (x ∷ xs) zero y l = omega arith
total_set f d (x ∷ xs) (suc k) y l = omega (arith, total_set f d xs k y (omega arith))

total_same : {X : Type 0} (f : X → ℕ) (d : X) (xs : List X) (k : ℕ) (y : X) → f y ≡ f (get_or xs k d) → total f (set xs k y) ≡ total f xs
total_same f d xs k y e = grind (arith, total_set, set_past, cases_lt)

total_none : {X : Type 0} (f : X → ℕ) (d : X) (xs : List X) → ((k : ℕ) → k < length xs → f (get_or xs k d) ≡ 0) → total f xs ≡ 0
total_none f d [] h = refl
total_none f d (x ∷ xs) h = grind (arith, h 0, total_none f d xs (λ k l. h (suc k) (omega arith)))

processed_weight : (fields : List Field) → list_all (λ f. f.processed) fields ≡ true → total field_weight fields ≡ 0
processed_weight fields e = total_none field_weight clear_field fields (λ k l. grind (arith, all_processed))

-- ---- searches for a bank

find_first : (p : ℕ → Bool) (a n b : ℕ) → find p (range_with_len a n) ≡ Some b → (b < a + n) × (p b ≡ true)
find_first p a zero b e = cc
find_first p a (suc n) b e = grind (arith, find_first p (a + 1) n b)

-- a list without items
pub items_none : {X : Type 0} (xs : List X) → has_items xs ≡ false → xs ≡ []
items_none [] e = refl
items_none (x ∷ xs) e = cc

-- a bank takes a command
pub some_queue : (z : Sizes) → IsLawful z → HasRoom z → 0 < z.bank_queue
some_queue z lawful roomy = grind arith

-- nothing is pending at idle banks
pub all_idle : (banks : List Bank) → ((b : ℕ) → b < length banks → ((bank_at banks b).answers ≡ []) × ((bank_at banks b).queue ≡ []))
    → flat_map pending banks ≡ []
all_idle [] f = refl
all_idle (x ∷ banks) f =
    grind (arith, (f 0 (omega arith)).0, (f 0 (omega arith)).1, all_idle banks (λ b l. f (suc b) (omega arith)))

-- a mark weighs nothing
register-marked : (r : Register) (i : ℕ) → register_weight (marked r i) ≡ register_weight r
unfolding marked
register-marked r i = grind (arith, r.valid, total_same, r.fields)

registers-marked : (c : Cache) (slot i : ℕ)
    → total register_weight (set c.registers slot (marked (register_at c slot) i)) ≡ total register_weight c.registers
registers-marked c slot i = grind (arith, total_same, register-marked)

-- a bank of the machine at which a command waits
abbrev pub HasCommand : Sizes → Machine → Type 0
HasCommand z m = (b : ℕ) × (b < z.banks) × (has_items (bank_at m.banks b).queue ≡ true)

-- ---- each event

module _ (z : Sizes) (lawful : IsLawful z) (roomy : HasRoom z) (m : Machine) (h : IsSound z m) where
  abbrev Lowers : Event → Type 0
  Lowers event = weight (apply z m event).machine < weight m

  pub take_lowers : (r : Reply) (rest : List Reply) → m.cache.ready ≡ r ∷ rest → Lowers (Take 0)
  unfolding take_step
  take_lowers r rest e = grind arith

  pub process_lowers : (x : Entry) (rest : List Entry) → m.cache.stack ≡ x ∷ rest → Lowers (Process 0)
  unfolding processed process_step finished
  process_lowers x rest e =
      let c = m.cache in
      let found = ap (λ l. slice_get l 0) e in
      let r = register_at c x.slot in
      let f = field_at c x.slot x.i in
      let w = has_word z _ h.unit 0 x found in
      rw found (omega (
        arith,
        total_set field_weight clear_field r.fields x.i done (field_there z m 0 x h found),
        ap (λ b. cond b 0 (length f.waiting - 1)) w.waits,
        ap (λ b. cond b (total field_weight r.fields) 0) w.valid,
        fin (list_all (λ g. g.processed) (set r.fields x.i done)) refl w.valid,
        total_set register_weight free_register c.registers x.slot (finished r x.i) (slot_there z m 0 x h found),
        told_all x.word f.waiting,
        length-append c.ready (answered x.word f.waiting),
        ap (λ l. length (remove l 0)) e,
        ap length e,
      ))
    where
      told_all : (word : Word) (ws : List Owed) → length (answered word ws) ≡ length ws
      told_all word ws = length-map ws _

      fin : (b : Bool) → list_all (λ g. g.processed) (set (register_at m.cache x.slot).fields x.i done) ≡ b
          → (register_at m.cache x.slot).valid ≡ true → register_weight (cond b free_register (with_fields (register_at m.cache x.slot)
          (set (register_at m.cache x.slot).fields x.i done))) ≡ total field_weight (set (register_at m.cache x.slot).fields x.i done)
      fin b q v = grind (arith, processed_weight, x.i, done)

  -- an answer for which the stack has room
  pub arrive_lowers : (b : ℕ) (a : BankAnswer) (rest : List BankAnswer) → b < length m.banks → (bank_at m.banks b).answers ≡ a ∷ rest
      → length m.cache.stack < z.depth → Lowers (Arrive b 0)
  unfolding arrived arrive_cause
  arrive_lowers b a rest l e some = grind (arith, lt-leb, a.slot, not_stray, total_set, length-append, registers-marked, a.i)

  pub serve_lowers : (b : ℕ) (first : Command) (rest : List Command) → b < length m.banks → (bank_at m.banks b).queue ≡ first ∷ rest
      → Lowers (Serve b)
  unfolding served
  serve_lowers b first rest l e = grind (arith, total_set, length-append)

  -- a write for which its bank has room
  pub drain_lowers : (q : Queued) (rest : List Queued) → m.cache.queue ≡ q ∷ rest
      → length (bank_at m.banks (q.at % z.banks)).queue < z.bank_queue → Lowers Drain
  unfolding with_command drain_step
  drain_lowers q rest e some = grind (arith, mod-lt, q.at, lt-ltb, q.word, q.lanes, total_set, total-append)

  -- ---- which event the driver picks

  abbrev picked : List Reply → List Entry → Option ℕ → Option ℕ → List Queued → Option Event
  picked ready stack a t queue =
      first_event (when (has_items ready) (Take 0) ∷ when (has_items stack) (Process 0) ∷ option_map (λ b. Arrive b 0) a ∷ option_map
      (λ b. Serve b) t ∷ when (has_items queue) Drain ∷ [])

  parts_of : {X : Type 0} (xs : List X) → has_items xs ≡ true → (x : X) × (rest : List X) × (xs ≡ x ∷ rest)
  parts_of [] e = cc
  parts_of (x ∷ xs) e = (x, xs, refl)

  -- the lowest bank where there are some, and no bank where there is no lowest one
  first_at : {X : Type 0} (items : Bank → List X) (b : ℕ) → lowest z m (λ x. has_items (items x)) ≡ Some b
      → (b < length m.banks) × (x : X) × (rest : List X) × (items (bank_at m.banks b) ≡ x ∷ rest)
  first_at items b e =
      let p = find_first (λ k. has_items (items (bank_at m.banks k))) 0 z.banks b e in
      let l = parts_of (items (bank_at m.banks b)) p.1 in
      (omega (arith, h.banks_are, p.0), l.0, l.1, l.2)

  none_at : {X : Type 0} (items : Bank → List X) → lowest z m (λ x. has_items (items x)) ≡ None → (b : ℕ) → b < length m.banks
      → items (bank_at m.banks b) ≡ []
  none_at items e b l = items_none _
      (All-range (λ k. has_items (items (bank_at m.banks k)) ≡ false) 0 z.banks b (find-nowhere _ _ e) (omega arith)
      (omega (arith, h.banks_are)))

  -- the driver's event lowers the weight, and where there is none nothing is left
  abbrev Drives : Option Event → Type 0
  Drives None = weight m ≡ 0
  Drives (Some event) = Lowers event

  pumped_drives : Drives (pumped z m)
  pumped_drives = go _ refl _ refl _ refl _ refl _ refl
    where
      go : (ready : List Reply) → m.cache.ready ≡ ready → (stack : List Entry) → m.cache.stack ≡ stack
          → (a : Option ℕ) → lowest z m (λ b. has_items b.answers) ≡ a → (t : Option ℕ) → lowest z m (λ b. has_items b.queue) ≡ t
          → (queue : List Queued) → m.cache.queue ≡ queue → Drives (picked ready stack a t queue)
      go (r ∷ rest) er stack es a ea t et queue eq = take_lowers r rest er
      go [] er (x ∷ rest) es a ea t et queue eq = process_lowers x rest es
      go [] er [] es (Some b) ea t et queue eq =
          let p = first_at (λ x. x.answers) b ea in
          arrive_lowers b p.1 p.2 p.0 p.3 (omega (arith, ap length es, roomy.some_depth))
      go [] er [] es None ea (Some b) et queue eq = let p = first_at (λ x. x.queue) b et in serve_lowers b p.1 p.2 p.0 p.3
      go [] er [] es None ea None et (x ∷ rest) eq =
          drain_lowers x rest eq (omega (
            arith,
            some_queue z lawful roomy,
            ap length (none_at (λ x. x.queue) et (x.at % z.banks) (omega (arith, mod-lt x.at lawful.some_banks, h.banks_are))),
          ))
      go [] er [] es None ea None et [] eq =
          omega (
            arith,
            total_none bank_weight no_bank m.banks (λ b l. grind (arith, (idle b l).0, (idle b l).1)),
            total_none register_weight free_register m.cache.registers quiet,
            ap length er,
            ap length es,
            ap length eq,
          )
        where
          idle : (b : ℕ) → b < length m.banks → ((bank_at m.banks b).answers ≡ []) × ((bank_at m.banks b).queue ≡ [])
          idle b l = (none_at (λ x. x.answers) ea b l, none_at (λ x. x.queue) et b l)

          quiet : (s : ℕ) → s < length m.cache.registers → register_weight (register_at m.cache s) ≡ 0
          quiet s l = elim (register_at m.cache s).valid as (λ b. (register_at m.cache s).valid ≡ b
              → cond b (total field_weight (register_at m.cache s).fields) 0 ≡ 0) [
                | true ↦ (λ v. total_none field_weight clear_field (register_at m.cache s).fields
                    (λ j k. grind (arith, all_idle m.banks idle, h.counted s j, lt-ltb, h.unit.registers.each)))
                | false ↦ (λ v. refl)
              ] refl

  pub pumped_lowers : (event : Event) → pumped z m ≡ Some event → Lowers event
  pumped_lowers event e = rw e at pumped_drives

  -- nothing is left where the driver has no event
  pub pumped_rests : pumped z m ≡ None → weight m ≡ 0
  pumped_rests e = rw e at pumped_drives

  -- a machine whose stack, replies and banks' answers are gone, and whose write queue waits for a bank if it isn't empty
  pub rests_or_waits : m.cache.ready ≡ [] → m.cache.stack ≡ [] → ((b : ℕ) → b < z.banks → (bank_at m.banks b).answers ≡ [])
      → (m.cache.queue ≡ []) ⊎ HasCommand z m → (weight m ≡ 0) ⊎ HasCommand z m
  rests_or_waits er es none (inr waits) = inr waits
  rests_or_waits er es none (inl eq) = go _ refl _ refl
    where
      go : (a : Option ℕ) → lowest z m (λ b. has_items b.answers) ≡ a → (t : Option ℕ) → lowest z m (λ b. has_items b.queue) ≡ t
          → (weight m ≡ 0) ⊎ HasCommand z m
      go a ea (Some b) et =
          let p = first_at (λ x. x.queue) b et in
          inr (b, omega (arith, h.banks_are, p.0), ap has_items p.3)
      go (Some b) ea None et =
          let p = first_at (λ x. x.answers) b ea in
          cc (none b (omega (arith, h.banks_are, p.0)), p.3)
      go None ea None et = inl (pumped_rests (cc (er, es, ea, et, eq)))

  pub pumped_at_rest : weight m ≡ 0 → pumped z m ≡ None
  pumped_at_rest w = go _ refl
    where
      go : (o : Option Event) → pumped z m ≡ o → pumped z m ≡ None
      go None e = e
      go (Some event) e = absurd (omega (arith, pumped_lowers event e))

pub walk_is_driven : (z : Sizes) (image : List Word) (events : List Event) → WalkIsDriven z image events
walk_is_driven z image events lawful roomy fits =
    let h = walk_sound z lawful _ (sound_opening z lawful image fits) events in
    record {
      lowers = pumped_lowers z lawful roomy _ h;
      rests = pumped_rests z lawful roomy _ h;
      at_rest = pumped_at_rest z lawful roomy _ h;
    }

-- ---- An event that moves something on lowers the weight; otherwise the machine stays as it was, and shows why.

-- ---- one event

-- the weight falls, or the machine stays and this is so
abbrev pub FallsOr : Machine → Machine → Type 0 → Type 0
FallsOr m after why = (weight after < weight m) ⊎ ((after ≡ m) × why)

module _ (z : Sizes) (lawful : IsLawful z) (roomy : HasRoom z) (m : Machine) (h : IsSound z m) where
  pub take_falls : FallsOr m (apply z m (Take 0)).machine (m.cache.ready ≡ [])
  unfolding take_step
  take_falls = elim m.cache.ready as (λ l. m.cache.ready ≡ l → FallsOr m (apply z m (Take 0)).machine (m.cache.ready ≡ []))
      [ [] ↦ (λ e. grind arith) | r ∷ rest ↦ (λ e. grind arith) ] refl

  pub process_falls : FallsOr m (apply z m (Process 0)).machine (m.cache.stack ≡ [])
  unfolding process_step
  process_falls = go _ refl
    where
      go : (stack : List Entry) → m.cache.stack ≡ stack → FallsOr m (apply z m (Process 0)).machine (m.cache.stack ≡ [])
      go [] e = inr (ap (λ l. (joined_with m.banks (process_entry m.cache 0 (slice_get l 0))).machine) e, e)
      go (x ∷ rest) e = inl (process_lowers z lawful roomy m h x rest e)

  -- a bank with a command serves it
  pub serve_falls : (b : ℕ) → b < z.banks → has_items (bank_at m.banks b).queue ≡ true → weight (apply z m (Serve b)).machine < weight m
  serve_falls b l some = grind (arith, serve_lowers)

  -- the write queue's front is drained if its bank has room
  pub drain_falls : FallsOr m (apply z m Drain).machine ((m.cache.queue ≡ []) ⊎ HasCommand z m)
  unfolding drain_step
  drain_falls = go _ refl
    where
      go : (queue : List Queued) → m.cache.queue ≡ queue → FallsOr m (apply z m Drain).machine ((m.cache.queue ≡ []) ⊎ HasCommand z m)
      go [] e = inr (ap (λ qs. (joined_with m.banks (drain_first z (room_in z.bank_queue m.banks) m.cache qs)).machine) e, inl e)
      go (q ∷ rest) e = ⊎_elim (λ l. inl (drain_lowers z lawful roomy m h q rest e l)) (λ l. inr (
        grind (arith, le-ltb),
        inr (q.at % z.banks, mod-lt q.at lawful.some_banks, grind (arith, some_queue)),
      )) (cases_lt (length (bank_at m.banks (q.at % z.banks)).queue) z.bank_queue)

-- ---- a command waits until its bank serves it

-- whether an event is not this bank's serve
abbrev pub leaves_commands : ℕ → Event → Type 0
leaves_commands b (Serve k) = b ≡ k → ⊥
leaves_commands b event = Unit {0}

-- ---- How much the weight may be: what is on its way, counted by the words that registers wait for.

-- ---- sums over the numbers below one

below : ℕ → (ℕ → ℕ) → ℕ
below zero f = 0
below (suc n) f = below n f + f n

below-le : (n c : ℕ) (f : ℕ → ℕ) → ((k : ℕ) → f k ≤ c) → below n f ≤ n * c
unfolding below
below-le zero c f h = omega arith
below-le (suc n) c f h = omega (arith, below-le n c f h, h n)

below-add : (n : ℕ) (f g h : ℕ → ℕ) → ((k : ℕ) → h k ≡ f k + g k) → below n h ≡ below n f + below n g
unfolding below
below-add zero f g h e = refl
below-add (suc n) f g h e = omega (arith, below-add n f g h e, e n)

below-hit : (n : ℕ) (f : ℕ → ℕ) (k : ℕ) → k < n → 1 ≤ f k → 1 ≤ below n f
unfolding below
below-hit zero f k l h = absurd (omega arith)
below-hit (suc n) f k l h = grind (arith, below-hit n f k)

-- ---- a list of pairs of numbers

abbrev is_pair : ℕ → ℕ → ℕ × ℕ → Bool
is_pair s i x = (x.0 == s) && (x.1 == i)

abbrev answer_pair : BankAnswer → ℕ × ℕ
answer_pair a = (a.slot, a.i)

abbrev entry_pair : Entry → ℕ × ℕ
entry_pair e = (e.slot, e.i)

-- it is no longer than all its pairs are together, counted one by one
length-summed : (n w : ℕ) (xs : List (ℕ × ℕ)) → ((s i : ℕ) → 1 ≤ tally (is_pair s i) xs → (s < n) × (i < w))
    → length xs ≤ below n (λ s. below w (λ i. tally (is_pair s i) xs))
length-summed n w [] h = omega arith
length-summed n w (x ∷ xs) h =
    let e : bit (is_pair x.0 x.1 x) ≡ 1 = grind arith in
    let p = h x.0 x.1 (omega arith) in
    let one = below-hit n (λ s. below w (λ i. bit (is_pair s i x))) x.0 p.0
    (below-hit w (λ i. bit (is_pair x.0 i x)) x.1 p.1 (omega arith)) in
    let ih = length-summed n w xs (λ s i l. h s i (omega arith)) in
    let both = below-add n (λ s. below w (λ i. bit (is_pair s i x))) (λ s. below w (λ i. tally (is_pair s i) xs)) _
    (λ s. below-add w _ _ (λ i. tally (is_pair s i) (x ∷ xs)) (λ i. refl)) in
    omega arith

-- ---- words on their way

wanted_in : (z : Sizes) (m : Machine) → IsSound z m → (s i : ℕ) → 1 ≤ wanted z (register_at m.cache s) i
    → (s < z.regs) × (i < z.block_words)
wanted_in z m sound s i l =
    let p = and_parts (register_at m.cache s).valid _ (bit-pos _ l) in
    let there = in_range (λ (r : Register). r.valid) free_register _ s refl p.0 in
    (omega (arith, there, sound.unit.registers.registers_there), ltb-true i _ (and_parts _ _ p.1).0)

-- at most one for each word of each register
pub on_their_way : (z : Sizes) (m : Machine) → IsSound z m → length (all_pending m.banks) + length m.cache.stack ≤ z.regs * z.block_words
on_their_way z m sound =
    let n = length-summed z.regs z.block_words pairs (λ s i l. wanted_in z m sound s i (omega (arith, count s i))) in
    let most = below-le z.regs _ (λ s. below z.block_words (λ i. tally (is_pair s i) pairs)) (λ s.
    below-le z.block_words 1 (λ i. tally (is_pair s i) pairs) (λ i. omega (
      arith,
      count s i,
      bit-le ((register_at m.cache s).valid && (nat_lt i z.block_words && not (field_at m.cache s i).processed)),
    ))) in
    omega (
      arith,
      length-append (map answer_pair (all_pending m.banks)) (map entry_pair m.cache.stack),
      length-map (all_pending m.banks) answer_pair,
      length-map m.cache.stack entry_pair,
    )
  where
    pairs : List (ℕ × ℕ)
    pairs = map answer_pair (all_pending m.banks) ++ map entry_pair m.cache.stack

    count : (s i : ℕ) → tally (is_pair s i) pairs ≡ wanted z (register_at m.cache s) i
    count s i = omega (
      arith,
      sound.counted s i,
      tally-append (is_pair s i) (map answer_pair (all_pending m.banks)) (map entry_pair m.cache.stack),
      tally-map answer_pair (is_pair s i) (all_pending m.banks),
      tally-map entry_pair (is_pair s i) m.cache.stack,
    )

-- ---- the parts of the weight

commands_weigh : (words : List Word) (queue : List Command)
    → total command_weight queue ≡ 3 * length (answers_to words queue) + length queue
commands_weigh words [] = refl
commands_weigh words (Read slot i place ∷ rest) = omega (arith, commands_weigh words rest)
commands_weigh words (Write place word lanes ∷ rest) = omega (arith, commands_weigh (stored words place word lanes) rest)

banks_weigh : (most : ℕ) (banks : List Bank) → ((b : ℕ) → length (bank_at banks b).queue ≤ most)
    → total bank_weight banks ≤ 3 * length (flat_map pending banks) + length banks * most
banks_weigh most [] h = omega arith
banks_weigh most (b ∷ banks) h = grind (arith, h 0, commands_weigh, length-append, banks_weigh most banks (λ k. h (suc k)))

field_weighs : (slot i : ℕ) (f : Field) → field_weight f ≤ length (targets_of_field slot i f) - 1
field_weighs slot i f = grind (arith, length-map, f.waiting)

-- what weighs less than its loads does so in a list, too
all_weigh : {X : Type 0} (f : X → ℕ) (g : ℕ → X → List Target) → ((n : ℕ) (x : X) → f x ≤ length (g n x) - 1) → (n : ℕ) (xs : List X)
    → total f xs ≤ length (gathered g n xs) - 1
all_weigh f g h n [] = omega arith
all_weigh f g h n (x ∷ xs) =
    omega (arith, all_weigh f g h (suc n) xs, h n x, length-append (g n x) (gathered g (suc n) xs))

register_weighs : (slot : ℕ) (r : Register) → register_weight r ≤ length (targets_of slot r) - 1
register_weighs slot r = grind (arith, all_weigh field_weight (targets_of_field slot) (field_weighs slot) 0 r.fields)

tags_count : (c : Cache) → length (tags c) ≡ length c.ready + length (targets c.registers)
tags_count c = grind (arith, length-append, length-map)

-- where one load waits at most, none weighs
pub none_behind : (c : Cache) → length (tags c) - length c.ready < 2 → total register_weight c.registers ≡ 0
unfolding targets
none_behind c few = omega (arith, all_weigh register_weight targets_of register_weighs 0 c.registers, tags_count c)

pub weight_bound : (z : Sizes) (m : Machine) → IsSound z m → weight m ≤ most_weight z
unfolding targets
weight_bound z m sound =
    omega (
      arith,
      on_their_way z m sound,
      banks_weigh _ _ sound.few_commands,
      all_weigh register_weight targets_of register_weighs 0 m.cache.registers,
      tags_count m.cache,
      few_tags z _ sound.unit,
      sound.unit.queue_sound.within,
      ap (λ k. k * z.bank_queue) sound.banks_are,
      mul_assoc 4 z.regs z.block_words,
    )
