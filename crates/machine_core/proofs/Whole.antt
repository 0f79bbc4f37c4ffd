-- What a whole machine keeps, and what follows of it.
use Rattle.std.proofs.Common.{◌≡◌, ℕ, List, [], ◌∷◌, ◌++◌, slice_set, Option, Some, None, refl, ap, ◌∙◌, subst, zero, suc, ◌+◌, ◌-◌}
use Rattle.std.proofs.Common.{◌%◌, ◌<◌, ◌≤◌, Bool, true, false, cond, ◌==◌, nat_lt, length, get_or, arith, lt-ltb, le-ltb}
use Rattle.std.proofs.Common.{◌≢◌, not, is_none, is_some, flat_map}
use Rattle.std.proofs.Common.{length-append}
use Rattle.machine_core.specs.Words.{Cause, Event, Answer, Moved, Refused, Word, Load, Store, Prefetch, Evict, Arrive, Cell, StrayWord}
use Rattle.memory_banks.specs.declared.Command.{Command}
use Rattle.memory_banks.specs.declared.BankAnswer.{BankAnswer}
use Rattle.memory_banks.specs.Banks.{bank_at, room_in, answers_to, no_bank, all_pending, Bank, pending, opening_banks}
use Rattle.memory_banks.specs.Memory.{Memory, with_banks, SameButQueues, without_answer}
use Rattle.memory_banks.proofs.Sending.{banks_sent}
use Rattle.memory_banks.proofs.Spreading.{spread_evenly}
use Rattle.cache_law.specs.declared.Sizes.{Sizes}
use Rattle.cache_law.specs.State.{UnitState, Field, Register, clear_field, free_register, register_at, live_for, is_pending}
use Rattle.cache_law.specs.State.{gathered, targets_of, targets, tags, first_of, opening_cache}
use Rattle.cache_unit.specs.Makes.{MakesOver}
use Rattle.cache_law.specs.Causes.{first_cause, dirty_from, dirty_words, addresses, lacks_places, lacks_room, miss_causes, load_cause}
use Rattle.cache_law.specs.Causes.{store_cause, prefetch_cause, evict_cause}
use Rattle.cache_law.specs.Steps.{Stepped, unless, arrive_step, evict_step, load_step, store_step, prefetch_step}
use Rattle.machine_core.specs.Machine.{Machine, joined_with, apply, walked, told, arrive_from, flat_of, MachineState}
use Rattle.machine_core.specs.Whole.{machine_of, Makes, IsWhole, Serves, or_image}
use Rattle.std.specs.List.{list_all, filter, range_with_len}
use Rattle.std.proofs.lemmas.Bool.{lt-leb}
use Rattle.std.proofs.lemmas.Nat.{mul-le}
use Rattle.std.proofs.lemmas.List.{nil_from_length, get_or_past}
use Rattle.cache_law.specs.Counts.{tally}
use Rattle.cache_law.proofs.Lists.{live_for-none, tally-append}
use Rattle.cache_law.proofs.Rooms.{any_false}
use Rattle.cache_unit.proofs.Numbers.{in_size}
use Rattle.machine_core.specs.Law.{IsLawful, HasRoom, ServesRequests, IsServed, RequestsAreServed, IsKept, WalkIsKept, IsDriven}
use Rattle.machine_core.specs.Pump.{total, bank_weight, weight, pumped, after_event, after_pumps}
use Rattle.machine_core.specs.Sound.{is_for, IsSound, own_bank}
use Rattle.machine_core.proofs.Requests.{sound_opening, flat_in_use, flat_opening}
use Rattle.machine_core.proofs.Walking.{tally_all, event_ok, flat_apply, flat_walked, walk_sound, sound_apply}
use Rattle.machine_core.proofs.Weighing.{commands_weigh_all, all_idle, pumped_lowers, pumped_rests, weight_bound, on_their_way}
use Rattle.machine_core.proofs.Weighing.{pumped_at_rest}
use Rattle.machine_core.proofs.FromForms.{pending_part}
use Rattle.cache_law.proofs.Tags.{few_tags, owed_once}
use Rattle.machine_core.proofs.Driving.{ends}
use Rattle.flat_model.specs.Flat.{flat_step, Flat, flat_run}
use Rattle.std.specs.Option.{IsNone}
use Rattle.memory_banks.specs.declared.bank.TheConstants.{MAX_ANSWERS}
use Rattle.flat_model.specs.declared.limits.TheConstants.{MAX_REGS, MAX_BLOCK_WORDS}
use Rattle.flat_model.specs.declared.Shape.{Shape}
use Rattle.flat_model.specs.declared.ShapeField.{ShapeField}
use Rattle.cache_law.specs.Shown.{shape_of}
use Rattle.cache_law.specs.Sound.{InRange}
use Rattle.cache_unit.specs.Limits.{bad_size}
use Rattle.cache_unit.specs.Makes as cache

-- ---- What the calls of the unit and of the banks make of a machine, as one event.

-- ---- sends

-- the banks as lines
abbrev sent_of : Memory → ℕ → List Command
sent_of m b = (bank_at m.banks b).queue

abbrev rooms : Memory → ℕ → ℕ
rooms m b = room_in m.limit m.banks b

pub joins : (step : (ℕ → ℕ) → Stepped) (unit : UnitState) (old : Memory) (answer : Answer) (unit' : UnitState) (new : Memory)
    → old.limit ≡ unit.sizes.bank_queue
    → MakesOver sent_of rooms SameButQueues (step (room_in old.limit old.banks)) unit old answer unit' new
    → Makes (joined_with old.banks (step (room_in unit.sizes.bank_queue old.banks))) unit old answer unit' new
joins step unit old answer unit' new e h =
    let by : ℕ → Type 0 = λ l. MakesOver sent_of rooms SameButQueues (step (room_in l old.banks)) unit old answer unit' new in
    let g = subst by e h in
    let same = banks_sent old new (step _).sent g.lines in
    record {
      answer = g.made.answer;
      unit = g.made.unit;
      banks = λ i. record { words = g.lines.kept.words i; limit = g.lines.kept.limit i; banks = same i };
    }

-- ---- events that send nothing

-- a step that sends nothing changes no bank
pub joins_silent : (step : Stepped) (unit : UnitState) (old : Memory) (answer : Answer) (unit' : UnitState) → step.sent ≡ []
    → cache.Makes step unit answer unit' → Makes (joined_with old.banks step) unit old answer unit' old
joins_silent step unit old answer unit' silent h = record { answer = h.answer; unit = h.unit; banks = grind arith }

-- ---- an answer that comes

module _ (unit : UnitState) (old : Memory) (b place : ℕ) (o : Option BankAnswer) (a : BankAnswer) (is : o ≡ Some a) (answer : Answer)
    (unit' : UnitState) (made : cache.Makes (arrive_step unit.sizes unit.cache a.slot a.i a.word) unit answer unit') where
  -- it leaves its bank where the unit takes it in
  pub brought : answer ≡ Moved → (new : Memory) → new ≡ with_banks old (slice_set old.banks b (without_answer (bank_at old.banks b) place))
      → Makes (arrive_from unit.sizes (machine_of unit old) b place o) unit old answer unit' new
  unfolding arrive_step
  brought moves new without =
      record { answer = grind (arith, made.answer); unit = grind (arith, made.answer, made.unit); banks = grind (arith, made.answer) }

  pub left : (answer ≡ Moved → ⊥) → Makes (arrive_from unit.sizes (machine_of unit old) b place o) unit old answer unit' old
  unfolding arrive_step
  left stays =
      record { answer = grind (arith, made.answer); unit = grind (arith, made.answer, made.unit); banks = grind (arith, made.answer) }

-- ---- a walk

walked_more : (z : Sizes) (m : Machine) (events : List Event) (event : Event)
    → walked z m (events ++ event ∷ []) ≡ (apply z (walked z m events) event).machine
walked_more z m [] event = refl
walked_more z m (e ∷ events) event = walked_more z (apply z m e).machine events event

told_more : (z : Sizes) (m : Machine) (events : List Event) (event : Event)
    → told z m (events ++ event ∷ []) ≡ told z m events ++ (apply z (walked z m events) event).answer ∷ []
told_more z m [] event = refl
told_more z m (e ∷ events) event = cc (told_more z (apply z m e).machine events event)

-- where a walk stands after k events, and one more event
module _ (unit : UnitState) (old : Memory) (events more : List Event) (event : Event) (next : more ≡ events ++ event ∷ []) (u : UnitState)
    (n : Memory) (u_is : u ≡ record unit { cache = (walked unit.sizes (machine_of unit old) events).cache })
    (n_is : n ≡ with_banks old (walked unit.sizes (machine_of unit old) events).banks) where
  pub walk_told : (answers answers' : List Answer) (answer : Answer) → answers ≡ told unit.sizes (machine_of unit old) events
      → answer ≡ (apply u.sizes (machine_of u n) event).answer → answers' ≡ answers ++ answer ∷ []
      → answers' ≡ told unit.sizes (machine_of unit old) more
  walk_told answers answers' answer so_far is e = grind (arith, told_more)

  pub walk_unit : (v : UnitState) → v ≡ record u { cache = (apply u.sizes (machine_of u n) event).machine.cache }
      → v ≡ record unit { cache = (walked unit.sizes (machine_of unit old) more).cache }
  walk_unit v e = grind (arith, walked_more)

  pub walk_banks : (k : Memory) → k ≡ with_banks n (apply u.sizes (machine_of u n) event).machine.banks
      → k ≡ with_banks old (walked unit.sizes (machine_of unit old) more).banks
  walk_banks k e = grind (arith, walked_more)

-- ---- A machine at weight 0 serves each request, and the driver brings it there.

-- ---- lists of which nothing passes

first_fails : (p : ℕ → Bool) (a n : ℕ) → 0 < n → p a ≡ false → list_all p (range_with_len a n) ≡ false
first_fails p a n l e = grind arith

none_valid : (registers : List Register) → ((s : ℕ) → (get_or registers s free_register).valid ≡ false)
    → length (filter (λ (r : Register). r.valid) registers) ≡ 0
none_valid [] h = refl
none_valid (r ∷ registers) h = cc (h 0, none_valid registers (λ s. h (suc s)))

no_targets : (n : ℕ) (registers : List Register) → ((s : ℕ) → (get_or registers s free_register).valid ≡ false)
    → gathered targets_of n registers ≡ []
no_targets n [] h = refl
no_targets n (r ∷ registers) h = cc (h 0, no_targets (suc n) registers (λ s. h (suc s)))

-- where not all fields are processed, one isn't
one_waits : (fields : List Field) → list_all (λ (f : Field). f.processed) fields ≡ false
    → (j : ℕ) × (j < length fields) × ((get_or fields j clear_field).processed ≡ false)
one_waits [] e = cc
one_waits (f ∷ fields) e = elim f.processed as (λ b. f.processed ≡ b → (j : ℕ) × (j < suc (length fields))
    × ((get_or (f ∷ fields) j clear_field).processed ≡ false)) [
      | true ↦ (λ p. let r = one_waits fields (cc) in (suc r.0, omega (arith, r.1), r.2))
      | false ↦ (λ p. (0, omega arith, p))
    ] refl

total_zero : {X : Type 0} (f : X → ℕ) (d : X) (xs : List X) (k : ℕ) → k < length xs → total f xs ≡ 0 → f (get_or xs k d) ≡ 0
total_zero f d [] k l e = absurd (omega arith)
total_zero f d (x ∷ xs) zero l e = omega arith
total_zero f d (x ∷ xs) (suc k) l e = total_zero f d xs k (omega arith) (omega arith)

dirty_few : (block at : ℕ) (cells : List Cell) → length (dirty_from block at cells) ≤ length cells
dirty_few block at [] = omega arith
dirty_few block at (cell ∷ rest) = grind (arith, dirty_few block (at + 1) rest)

-- ---- a machine at weight 0

module _ (z : Sizes) (lawful : IsLawful z) (roomy : HasRoom z) (m : Machine) (sound : IsSound z m)
    (rest : weight m ≡ 0) where
  no_ready : m.cache.ready ≡ []
  no_ready = nil_from_length _ (omega arith)

  no_stack : m.cache.stack ≡ []
  no_stack = nil_from_length _ (omega arith)

  no_queue : length m.cache.queue ≡ 0
  no_queue = omega arith

  idle : (b : ℕ) → b < length m.banks → ((bank_at m.banks b).answers ≡ []) × ((bank_at m.banks b).queue ≡ [])
  idle b l =
      let own = total_zero bank_weight no_bank _ b l (omega arith) in
      (nil_from_length _ (omega arith), nil_from_length _ (omega (arith, commands_weigh_all (bank_at m.banks b).queue)))

  nothing_pending : all_pending m.banks ≡ []
  nothing_pending = all_idle _ idle

  no_valid : (s : ℕ) → (register_at m.cache s).valid ≡ false
  no_valid s = grind (arith, one_waits, nothing_pending, no_stack, lt-ltb)

  no_live : (b : ℕ) → live_for m.cache b ≡ None
  no_live b = grind (arith, live_for-none, no_valid)

  not_pending : (f : ℕ) → is_pending m.cache f ≡ false
  not_pending f = grind (arith, no_live)

  no_tags : tags m.cache ≡ []
  unfolding targets
  no_tags = grind (arith, no_ready, no_targets, no_valid)

  few_dirty : (o : Option ℕ) → length (dirty_words z m.cache o) ≤ z.block_words
  few_dirty o = grind (arith, dirty_few)

  has_places : (o : Option ℕ) → lacks_places z m.cache o ≡ false
  has_places o = grind (arith, le-ltb, few_dirty, no_queue)

  has_rooms : (block : ℕ) → lacks_room z (room_in z.bank_queue m.banks) block ≡ false
  has_rooms block = any_false _ 0 _ each
    where
      each : (b : ℕ) → 0 ≤ b → b < 0 + z.banks
          → nat_lt (room_in z.bank_queue m.banks b) (length (filter (λ at. at % z.banks == b) (addresses z block))) ≡ false
      each b lo hi =
          let there : b < length m.banks = let n = sound.banks_are in omega arith in
          le-ltb _ (length (filter (λ at. at % z.banks == b) _)) (omega (
            arith,
            ap length (idle b there).1,
            ap (λ t. cond t (z.bank_queue - length (bank_at m.banks b).queue) 0) (lt-ltb b _ there),
            spread_evenly _ b (first_of z block) _ _ (omega arith) roomy.banks_take_a_block,
          ))

  -- a miss has no cause
  may_miss : (block : ℕ) → first_cause (miss_causes z (room_in z.bank_queue m.banks) m.cache block) ≡ None
  may_miss block = grind (arith, has_places, has_rooms, none_valid, no_valid, first_fails, not_pending)

  -- the answer of a step that has no cause
  answered : (cause : Option Cause) (step : Stepped) → cause ≡ None → (joined_with m.banks (unless cause m.cache step)).answer ≡ step.answer
  answered cause step e = grind arith

  pub bound_at_rest : ServesRequests z m
  unfolding load_step load_cause store_step store_cause prefetch_step prefetch_cause evict_step evict_cause
  bound_at_rest = record {
    loads = λ tag at l. grind (arith, answered, lt-ltb, no_tags, lt-leb, no_live, may_miss);
    stores = λ at word lanes l any. grind (arith, answered, lt-ltb, may_miss);
    prefetches = λ at l. grind (arith, answered, lt-ltb, may_miss);
    evictions = λ block. grind (arith, has_places);
  }

-- ---- the driver brings a machine there

pub pump_lighter : (z : Sizes) → IsLawful z → HasRoom z → (m : Machine) → IsSound z m → (o : Option Event) → pumped z m ≡ o
    → weight (after_event z m o) ≤ weight m - 1
pump_lighter z lawful roomy m h None e = omega (arith, pumped_rests z lawful roomy m h e)
pump_lighter z lawful roomy m h (Some event) e = omega (arith, pumped_lowers z lawful roomy m h event e)

pub pump_sound : (z : Sizes) → IsLawful z → (m : Machine) → IsSound z m → (o : Option Event) → IsSound z (after_event z m o)
pump_sound z lawful m h None = h
pump_sound z lawful m h (Some event) = sound_apply z lawful m h event

-- after enough pumps the weight is 0
driven : (z : Sizes) → IsLawful z → HasRoom z → (n : ℕ) (m : Machine) → IsSound z m → weight m ≤ n
    → IsSound z (after_pumps z n m) × (weight (after_pumps z n m) ≡ 0)
driven z lawful roomy n m h l =
    let over : Machine → Bool = λ m. is_none (pumped z m) in
    let step : Machine → Machine = λ m. after_event z m (pumped z m) in
    let end = ends over step (λ n m. IsSound z m × (weight m ≤ n))
    (λ m k. ap is_none (pumped_at_rest z lawful roomy m k.0 (omega (arith, k.1))))
    (λ n m e k. (pump_sound z lawful m k.0 (pumped z m), omega (arith, pump_lighter z lawful roomy m k.0 (pumped z m) refl, k.1)))
    n m (h, l)
    in (end.still.0, pumped_rests z lawful roomy _ end.still.0 (none_from _ end.is_over))
  where
    none_from : (o : Option Event) → is_none o ≡ true → o ≡ None
    none_from o e = grind arith

pub served_after_pumps : (z : Sizes) → IsLawful z → HasRoom z → (m : Machine) → IsSound z m → IsServed z m
served_after_pumps z lawful roomy m sound =
    let d = driven z lawful roomy (weight m) m sound (omega arith) in
    record { few = weight_bound z m sound; rests = d.1; serves = bound_at_rest z lawful roomy _ d.0 d.1 }

pub requests_are_served : (z : Sizes) (image : List Word) (events : List Event) → RequestsAreServed z image events
requests_are_served z image events lawful roomy fits =
    served_after_pumps z lawful roomy _ (walk_sound z lawful _ (sound_opening z lawful image fits) events)

-- ---- What every machine of a walk keeps, said of it as it stands.

-- where only one bank has such an answer on its way, it has all of them
all_at_one : (p : BankAnswer → Bool) (banks : List Bank) (k : ℕ) → ((b : ℕ) → b ≢ k → tally p (pending (bank_at banks b)) ≡ 0)
    → tally p (flat_map pending banks) ≡ tally p (pending (bank_at banks k))
all_at_one p [] k h = refl
all_at_one p (x ∷ banks) zero h =
    grind (arith, tally-append, get_or_past, all_at_one p banks (length banks) (λ b d. h (suc b) (λ e. omega arith)))
all_at_one p (x ∷ banks) (suc k) h =
    grind (arith, h 0 (λ e. omega arith), tally-append, all_at_one p banks k (λ b d. h (suc b) (λ e. d (omega arith))))

pub kept_whole : (z : Sizes) → IsLawful z → (m : Machine) → IsSound z m → IsKept z m
kept_whole z lawful m sound = record {
  one_live = sound.unit.registers.one_live;
  tags_differ = owed_once z m.cache sound.unit;
  tags_fit = few_tags z m.cache sound.unit;
  tags_owed = λ tag. some _ ∙ flat_in_use m tag;
  on_its_way = λ s i. omega (arith, all_at_one (is_for s i) m.banks _ (λ b d. elsewhere b s i d), sound.counted s i);
  nowhere_else = elsewhere;
  none_stray = λ b place e. stray b place (apply z m (Arrive b place)).answer e (event_ok z lawful m sound (Arrive b place)).run;
}
  where
    some : {X : Type 0} (o : Option X) → is_some o ≡ not (is_none o)
    some o = grind arith

    elsewhere : (b s i : ℕ) → b ≢ own_bank z m s i → tally (is_for s i) (pending (bank_at m.banks b)) ≡ 0
    elsewhere b s i d = grind arith

    stray : (b place : ℕ) (answer : Answer) → answer ≡ Refused StrayWord
        → flat_step (flat_of z m) (Arrive b place) answer ≡ Some (flat_of z (apply z m (Arrive b place)).machine) → ⊥
    stray b place answer e run = grind arith

pub walk_is_kept : (z : Sizes) (image : List Word) (events : List Event) → WalkIsKept z image events
walk_is_kept z image events lawful fits = kept_whole z lawful _ (walk_sound z lawful _ (sound_opening z lawful image fits) events)

-- ---- the limits

pub lawful : (z : Sizes) → InRange z → IsLawful z
lawful z r = grind arith

pub roomy : (z : Sizes) → InRange z → HasRoom z
roomy z r = grind arith

-- no bank has more answers than there are words to wait for
pub few_answers : (z : Sizes) (m : Machine) → InRange z → IsSound z m → (b : ℕ) → length (bank_at m.banks b).answers ≤ MAX_ANSWERS
few_answers z m r sound b = omega (
  arith,
  pending_part (λ a. true) m.banks b,
  tally_all (all_pending m.banks),
  tally_all (pending (bank_at m.banks b)),
  length-append (bank_at m.banks b).answers (answers_to (bank_at m.banks b).words (bank_at m.banks b).queue),
  on_their_way z m sound,
  mul-le _ _ MAX_REGS MAX_BLOCK_WORDS r.few_regs r.few_words,
)

-- ---- after some events

sound_walked : {unit : UnitState} {memory : Memory} → IsWhole unit memory → (events : List Event)
    → IsSound unit.sizes (walked unit.sizes (machine_of unit memory) events)
sound_walked whole events = walk_sound _ (lawful _ whole.in_range) _ whole.sound events

module _ {unit : UnitState} {memory : Memory}
    (whole : IsWhole unit memory) where
  -- the same shape, with another machine
  moved_on : (m : Machine) → IsSound unit.sizes m → (u : UnitState) (n : Memory)
      → u ≡ record unit { cache = m.cache } → n ≡ with_banks memory m.banks → IsWhole u n
  moved_on m sound u n e f = rw e (rw f (record {
    memory_words = whole.memory_words;
    limit = whole.limit;
    in_range = whole.in_range;
    sound = sound;
  }))

  pub whole_walked : (events : List Event) (u : UnitState) (n : Memory)
      → u ≡ record unit { cache = (walked unit.sizes (machine_of unit memory) events).cache }
      → n ≡ with_banks memory (walked unit.sizes (machine_of unit memory) events).banks → IsWhole u n
  whole_walked events u n e f = moved_on _ (sound_walked whole events) u n e f

-- ---- a new machine

-- what a shape and an image with no bad number give
pub fits_image : (bad : Option ShapeField) (z : Sizes) (image : ℕ) → or_image bad z image ≡ None → (bad ≡ None) × (image ≡ z.words)
fits_image bad z image e = grind arith

-- the banks of a shape before the first event
abbrev pub memory_of_shape : List Word → Shape → Memory
memory_of_shape image s = record { words = s.words; limit = s.bank_queue; banks = opening_banks image s.banks }

module _ (z : Sizes) (image : List Word) (s : Shape) (unit : UnitState) (memory : Memory)
    (none : or_image (bad_size z) z (length image) ≡ None) (shaped : s ≡ shape_of z)
    (new_unit : unit ≡ record { sizes = z; cache = opening_cache z }) (new_memory : memory ≡ memory_of_shape image s) where
  pub whole_opening : IsWhole unit memory
  whole_opening =
      let fits = fits_image _ z _ none in
      let range = in_size z fits.0 in
      rw new_unit (rw new_memory (rw shaped (record {
        memory_words = refl;
        limit = refl;
        in_range = range;
        sound = sound_opening z (lawful z range) image fits.1;
      })))

  -- it stands for the image, and owes nothing
  pub flat_new : flat_of unit.sizes (machine_of unit memory) ≡ record { mem = image; due = λ tag. None }
  flat_new = grind (arith, flat_opening, lawful, in_size, fits_image)

-- the numbers of a unit are in range for its banks, too
pub some_queue : (z : Sizes) → InRange z → 1 ≤ z.bank_queue
some_queue z h = grind arith

-- ---- what each machine promises

module _ {unit : UnitState} {memory : Memory}
    (whole : IsWhole unit memory) where
  abbrev now : Machine
  now = machine_of unit memory

  pub is_kept : IsKept unit.sizes now
  is_kept = kept_whole unit.sizes (lawful unit.sizes whole.in_range) now whole.sound

  pub is_driven : IsDriven unit.sizes now
  is_driven =
      let law = lawful unit.sizes whole.in_range in
      let room = roomy unit.sizes whole.in_range in
      record {
        lowers = pumped_lowers unit.sizes law room now whole.sound;
        rests = pumped_rests unit.sizes law room now whole.sound;
        at_rest = pumped_at_rest unit.sizes law room now whole.sound;
      }

  pub is_served : IsServed unit.sizes now
  is_served = served_after_pumps unit.sizes (lawful unit.sizes whole.in_range)
      (roomy unit.sizes whole.in_range) now whole.sound

  pub serves : (event : Event) → weight now ≡ 0 → Serves unit.sizes event (apply unit.sizes now event).answer
  serves event rest = go event
    where
      all : ServesRequests unit.sizes now
      all = grind (arith, bound_at_rest, lawful, roomy)

      go : (e : Event) → Serves unit.sizes e (apply unit.sizes now e).answer
      go (Load tag at) = all.loads tag at
      go (Store at word lanes) = all.stores at word lanes
      go (Prefetch at) = all.prefetches at
      go (Evict block) = all.evictions block
      go e = tt

  -- one event is a step of flat memory
  pub flat_now : (event : Event) (answer : Answer) (u : UnitState) (n : Memory) → answer ≡ (apply unit.sizes now event).answer
      → u ≡ record unit { cache = (apply unit.sizes now event).machine.cache }
      → n ≡ with_banks memory (apply unit.sizes now event).machine.banks
      → flat_step (flat_of unit.sizes now) event answer ≡ Some (flat_of u.sizes (machine_of u n))
  flat_now event answer u n a e f = grind (arith, flat_apply, lawful)

  -- and a walk is a run
  pub flat_then : (events : List Event) (answers : List Answer) (u : UnitState) (n : Memory) → answers ≡ told unit.sizes now events
      → u ≡ record unit { cache = (walked unit.sizes now events).cache } → n ≡ with_banks memory (walked unit.sizes now events).banks
      → flat_run (flat_of unit.sizes now) events answers ≡ Some (flat_of u.sizes (machine_of u n))
  flat_then events answers u n a e f = grind (arith, flat_walked, lawful)

  -- wherever a walk stands, no bank has more answers
  pub takes_answers_walked : (events : List Event) (b : ℕ) → length (bank_at (walked unit.sizes now events).banks b).answers ≤ MAX_ANSWERS
  takes_answers_walked events b = few_answers _ _ whole.in_range (sound_walked whole events) b

-- a stray word is no answer of flat memory
pub never_stray : (s t : Flat) (event : Event) (answer : Answer) → flat_step s event answer ≡ Some t → answer ≡ Refused StrayWord → ⊥
never_stray s t event answer run e = grind arith

-- ---- the driver

-- it answers an event where there is one
pub pump_told : {X : Type 0} (z : Sizes) (m : Machine) (o : Option X) → IsDriven z m → is_some o ≡ is_some (pumped z m)
    → (IsNone o → weight m ≡ 0) × (weight m ≡ 0 → IsNone o)
pump_told z m o driven e = grind arith

pub pump_lowers : (z : Sizes) (m : Machine) (new : MachineState) (event : Event) → IsDriven z m → pumped z m ≡ Some event
    → new ≡ record { sizes = z; machine = (apply z m event).machine } → weight new.machine < weight m
pump_lowers z m new event driven e is = grind arith
