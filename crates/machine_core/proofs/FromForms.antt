-- A sound machine's unit is a sound one, and its flat memory is read from the unit's forms. What is on its way stays within
-- the limits, and each read and each answer is at the bank of its word.
use Rattle.std.proofs.Common.{◌≡◌, ℕ, zero, suc, ◌+◌, ◌≤◌, Bool, true, false, ◌==◌, List, [], ◌∷◌, length, Some, remove}
use Rattle.std.proofs.Common.{slice_get, refl, sym, ap, ◌∙◌, arith, eq-eqb, cond, map, Option, None, option_map, find, eqb-true}
use Rattle.std.proofs.Common.{◌/◌, ◌<◌, ◌++◌, set, length-set, ◌⊎◌, ⊎_elim, get_or, get_or-set_same, ◌-◌, ◌%◌, ne_eqb}
use Rattle.std.proofs.Common.{◌*◌, nat_lt, length-append, lt-ltb}
use Rattle.std.proofs.lemmas.Bool.{and_parts, cases_eq, cases_lt, ltb-false}
use Rattle.machine_core.specs.Words.{Word, Lanes, Event, Cell}
use Rattle.flat_model.specs.Words.{merged, Lane, byte, has, zero_word}
use Rattle.memory_banks.specs.Banks.{Bank, bank_at, all_pending, words_after, no_bank, room_in, all_sent, commands_for, pending, answers_to}
use Rattle.memory_banks.specs.Banks.{after}
use Rattle.memory_banks.proofs.Behind.{answers_to-append}
use Rattle.input_stack.specs.declared.Entry.{Entry}
use Rattle.cache_law.specs.declared.Sizes.{Sizes}
use Rattle.cache_law.specs.State.{Cache, cell_of, block_of, place_in, register_at, field_at, Target, targets, is_live, live_for}
use Rattle.cache_law.specs.State.{frame_of, frame_at, first_of, Field, Register, free_register}
use Rattle.cache_law.specs.State.{is_present, address, free_slot}
use Rattle.cache_law.specs.Sound as parts
use Rattle.cache_law.specs.Counts.{tally, bit}
use Rattle.cache_law.proofs.Lists.{Adds-tally, Adds-remove, waits_for, Beside, Adds, Adds-find_other, Adds-find_same}
use Rattle.cache_law.proofs.Lists.{target_valid, live_for-some, frame_of-is, frame_of-some, tally-append, read_set}
use Rattle.machine_core.specs.Machine.{Machine, backing, flat_word, Outcome, apply, flat_due, flat_of}
use Rattle.machine_core.specs.Sound.{is_for, is_entry_for, IsSound, word_in, own_bank}
use Rattle.std.specs.List.{range_with_len, list_any, filter}
use Rattle.std.specs.Option.{option_or}
use Rattle.flat_model.specs.Flat.{flat_step}
use Rattle.flat_model.proofs.Lanewise.{byte_word_of, same_word_from, byte-merged, merged-none, merged_held, merged_over, merged_no_lane}
use Rattle.memory_banks.specs.declared.BankAnswer.{BankAnswer}
use Rattle.input_stack.specs.Stack.{stack_word}
use Rattle.cache_law.specs.declared.Reply.{Reply}
use Rattle.cache_law.specs.Forms.{LaneForm, Byte, Asked, Form, bytes_of, missing_form, coming_form, over_form, form_in, form, target_form}
use Rattle.cache_law.specs.Forms.{fill, value, filled_by, owed}
use Rattle.cache_law.specs.FormLaws.{form_where, form_at, forms, filled_form}
use Rattle.std.proofs.lemmas.List.{get_or_past}
use Rattle.cache_law.specs.Frames.{zero_cell}
use Rattle.write_queue.specs.declared.Queued.{Queued}
use Rattle.write_queue.specs.Queue.{overlaid, queued_lanes}
use Rattle.cache_law.specs.Causes.{dirty_from, dirty_words, first_cause, choose, addresses, lacks_room, miss_causes}
use Rattle.cache_law.specs.Causes.{Found, Here, Coming}
use Rattle.cache_law.proofs.FormsWords.{address_is}
use Rattle.cache_law.specs.Steps.{released, evicted, obsoleted, installed, missed, reads, fetched, fetches, loaded, noted_for}
use Rattle.cache_law.specs.Steps.{written, arrived, processed}
use Rattle.cache_law.proofs.FormsEvents.{EvictedBy, evicted-by}
use Rattle.std.proofs.lemmas.Nat.{mod-mul-add}
use Rattle.memory_banks.specs.declared.Command.{Command}
use Rattle.memory_banks.specs.declared.Command.TheVariants.{Read}
use Rattle.memory_banks.proofs.Sending.{all_sent-length, all_sent-at}
use Rattle.miss_registers.specs.Registers.{made_obsolete, finished, finished_fields, marked, is_done}
use Rattle.cache_law.specs.Begun.{begun_register}
use Rattle.cache_law.proofs.Requesting.{Able, free_register_at}
use Rattle.cache_law.proofs.Choosing.{choose_none}
use Rattle.cache_law.specs.Frames as dir
use Rattle.miss_registers.specs.Registers as regs

pub bit-le : (b : Bool) → bit b ≤ 1
bit-le b = grind arith

pub bit-pos : (b : Bool) → 1 ≤ bit b → b ≡ true
bit-pos b h = grind arith

-- ---- the stack's words

pub own_entry : (e : Entry) → is_entry_for e.slot e.i e ≡ true
own_entry e = grind arith

pub entry_counted : (stack : List Entry) (k : ℕ) (e : Entry) → slice_get stack k ≡ Some e
    → tally (is_entry_for e.slot e.i) stack ≡ 1 + tally (is_entry_for e.slot e.i) (remove stack k)
entry_counted stack k e found =
    omega (arith, Adds-tally (is_entry_for e.slot e.i) e _ _ (Adds-remove e stack k found), ap bit (own_entry e))

-- each word that a register waits for is once on its way, and nothing else is
abbrev pub IsCounted : Sizes → Machine → Type 0
IsCounted z m = (s i : ℕ) → tally (is_for s i) (all_pending m.banks) + tally (is_entry_for s i) m.cache.stack
    ≡ bit (waits_for z m.cache s i)

-- ---- What is on its way stays where it belongs.

-- each read and each answer is at the bank of its word, and no bank has more commands than there is room for
pub record AtBanks (z : Sizes) (m : Machine) : Type 0 where
  pub few_commands : (b : ℕ) → length (bank_at m.banks b).queue ≤ z.bank_queue
  pub at_its_bank : (b s i : ℕ) → 1 ≤ tally (is_for s i) (pending (bank_at m.banks b)) → own_bank z m s i ≡ b

-- what is so of the element that is set, and of each one before, is so of each one after
each-set : {X : Type 0} (P : ℕ → X → Type 0) (d : X) (xs : List X) (k : ℕ) (y : X) → P k y → ((t : ℕ) → P t (get_or xs t d)) → (t : ℕ)
    → P t (get_or (set xs k y) t d)
each-set P d [] k y own h t = h t
each-set P d (x ∷ xs) zero y own h zero = own
each-set P d (x ∷ xs) zero y own h (suc t) = h (suc t)
each-set P d (x ∷ xs) (suc k) y own h zero = h 0
each-set P d (x ∷ xs) (suc k) y own h (suc t) = each-set (λ n. P (suc n)) d xs k y own (λ n. h (suc n)) t

-- ---- registers that stay for their blocks

-- a register instead of another one: it is for the same block
abbrev pub Like : Register → Register → Type 0
Like r new = new.valid ≡ true → (r.valid ≡ true) × (new.block ≡ r.block)

abbrev pub AllLike : Cache → Cache → Type 0
AllLike c d = (s : ℕ) → Like (register_at c s) (register_at d s)

pub like_same : (c : Cache) → AllLike c c
like_same c s v = (v, refl)

one_like : (c : Cache) (slot : ℕ) (r : Register) → Like (register_at c slot) r → (s : ℕ)
    → Like (register_at c s) (get_or (set c.registers slot r) s free_register)
one_like c slot r own = each-set (λ s. Like (register_at c s)) free_register c.registers slot r own (like_same c)

like_field : (c : Cache) (slot i : ℕ) (f : Field) (s : ℕ)
    → Like (register_at c s) (get_or (set c.registers slot (regs.with_field (register_at c slot) i f)) s free_register)
like_field c slot i f = one_like c slot _ (λ v. (v, refl))

pub like_arrived : (c : Cache) (slot i : ℕ) (word : Word) → AllLike c (arrived c slot i word)
unfolding arrived marked
like_arrived c slot i word = like_field c slot i (record (field_at c slot i) { in_stack = true })

pub like_loaded : (c : Cache) (tag i : ℕ) (buffer : Word) (o : Found) → AllLike c (loaded c tag i buffer o)
unfolding regs.awaited
like_loaded c tag i buffer (Here w) = like_same c
like_loaded c tag i buffer (Coming slot) = like_field c slot i _

pub like_written : (c : Cache) (block i : ℕ) (word : Word) (lanes : Lanes) → AllLike c (written c block i word lanes)
unfolding regs.noted
like_written c block i word lanes = go (live_for c block)
  where
    go : (o : Option ℕ) (s : ℕ) → Like (register_at c s) (get_or (noted_for c.registers o i lanes) s free_register)
    go None = like_same c
    go (Some slot) = elim (field_at c slot i).processed as (λ b. (s : ℕ) → Like (register_at c s)
        (get_or (cond b c.registers (set c.registers slot (regs.noted (register_at c slot) i lanes))) s free_register))
        [ true ↦ like_same c | false ↦ like_field c slot i _ ]

pub like_evicted : (z : Sizes) (c : Cache) (block f : ℕ) → AllLike c (evicted z c block f)
unfolding evicted released made_obsolete
like_evicted z c block f = elim (live_for c block) as
    (λ o. (s : ℕ) → Like (register_at c s) (get_or (obsoleted c.registers o) s free_register)) [
      | None ↦ like_same c
      | Some slot ↦ one_like c slot _ (λ v. (v, refl))
    ]

pub like_processed : (c : Cache) (place : ℕ) (e : Entry) → AllLike c (processed c place e)
unfolding processed finished
like_processed c place e = one_like c e.slot _ (go _ refl)
  where
    go : (b : Bool) → is_done (finished_fields (register_at c e.slot) e.i) ≡ b → Like (register_at c e.slot)
        (cond b free_register (record (register_at c e.slot) { fields = finished_fields (register_at c e.slot) e.i }))
    go true q v = cc
    go false q v = (v, refl)

-- ---- machines whose banks have no more on their way

pub pending_part : (p : BankAnswer → Bool) (banks : List Bank) (b : ℕ) → tally p (pending (bank_at banks b)) ≤ tally p (all_pending banks)
pending_part p [] b = omega arith
pending_part p (x ∷ banks) zero = omega (arith, tally-append p (pending x) (all_pending banks))
pending_part p (x ∷ banks) (suc b) = omega (arith, tally-append p (pending x) (all_pending banks), pending_part p banks b)

-- what is on its way is for a valid register
valid_for : (z : Sizes) (m : Machine) → IsCounted z m → (b s i : ℕ) → 1 ≤ tally (is_for s i) (pending (bank_at m.banks b))
    → (register_at m.cache s).valid ≡ true
valid_for z m counted b s i l = grind (arith, pending_part, m.banks, counted, bit-pos, m.cache, and_parts)

-- a word's backing, with the buffer's bytes in the dirty lanes
abbrev pub kept_word : Sizes → Machine → ℕ → Word
kept_word z m at =
    merged (backing z m at) (cell_of m.cache (block_of z at) (place_in z at)).word (cell_of m.cache (block_of z at) (place_in z at)).dirty

-- a machine whose unit is sound, whose registers are for the blocks of those before, and whose banks have no more on their way
sound_after : (z : Sizes) (m m' : Machine) → IsSound z m → parts.IsSound z m'.cache → AllLike m.cache m'.cache → IsCounted z m'
    → ((b : ℕ) → length (bank_at m'.banks b).queue ≤ z.bank_queue)
    → ((b s i : ℕ) → tally (is_for s i) (pending (bank_at m'.banks b)) ≤ tally (is_for s i) (pending (bank_at m.banks b)))
    → ((at : ℕ) → flat_word z m' at ≡ kept_word z m' at) → length m'.banks ≡ length m.banks
    → ((b : ℕ) → length (bank_at m'.banks b).words ≡ length (bank_at m.banks b).words) → IsSound z m'
sound_after z m m' h unit like counted few less kept number lengths = record {
  unit = unit;
  counted = counted;
  kept = kept;
  at_its_bank = λ b s i n. grind (arith, valid_for z m' counted b s i n, like s, h.at_its_bank b s i, less b s i);
  few_commands = few;
  banks_are = number ∙ h.banks_are;
  banks_hold = λ at l. grind (arith, lengths, h.banks_hold);
}

-- one bank is another
abbrev with_bank : Machine → Cache → ℕ → Bank → Machine
with_bank m d k bank = record { cache = d; banks = set m.banks k bank }

pub sound_bank : (z : Sizes) (m : Machine) (d : Cache) (k : ℕ) (bank : Bank) → IsSound z m → parts.IsSound z d → AllLike m.cache d
    → IsCounted z (with_bank m d k bank) → length bank.queue ≤ z.bank_queue
    → ((s i : ℕ) → tally (is_for s i) (pending bank) ≤ tally (is_for s i) (pending (bank_at m.banks k)))
    → ((at : ℕ) → flat_word z (with_bank m d k bank) at ≡ kept_word z (with_bank m d k bank) at)
    → length bank.words ≡ length (bank_at m.banks k).words → IsSound z (with_bank m d k bank)
sound_bank z m d k bank h unit like counted few less kept size = sound_after z m (with_bank m d k bank) h unit like counted
    (each-set (λ b x. length x.queue ≤ z.bank_queue) no_bank _ k bank few h.few_commands)
    (each-set (λ b (x : Bank). (s i : ℕ) → tally (is_for s i) (pending x) ≤ tally (is_for s i) (pending (bank_at m.banks b)))
    no_bank _ k bank less (λ b s i. omega arith)) kept (length-set _ k _)
    (read_set (λ (x : Bank). length x.words) no_bank _ k bank size)

-- none is
abbrev with_unit : Machine → Cache → Machine
with_unit m d = record { cache = d; banks = m.banks }

pub sound_unit : (z : Sizes) (m : Machine) (d : Cache) → IsSound z m → parts.IsSound z d → AllLike m.cache d → IsCounted z (with_unit m d)
    → ((at : ℕ) → flat_word z (with_unit m d) at ≡ kept_word z (with_unit m d) at) → IsSound z (with_unit m d)
sound_unit z m d h unit like counted kept =
    sound_after z m (with_unit m d) h unit like counted h.few_commands (λ b s i. omega arith) kept refl (λ b. refl)

-- ---- what is kept

-- the cells go by the frames alone
pub cell_frames : (c d : Cache) → d.directory.frames ≡ c.directory.frames → (b i : ℕ) → cell_of d b i ≡ cell_of c b i
unfolding dir.frame_of
cell_frames c d e b i = grind arith

pub kept_same : (z : Sizes) (m m' : Machine) → IsSound z m → (at : ℕ) → flat_word z m' at ≡ flat_word z m at
    → cell_of m'.cache (block_of z at) (place_in z at) ≡ cell_of m.cache (block_of z at) (place_in z at)
    → backing z m' at ≡ backing z m at → flat_word z m' at ≡ kept_word z m' at
kept_same z m m' h at words cell back = grind arith

-- a request of a present block changes nothing that is on its way
pub counted_beside : (z : Sizes) (m : Machine) (d : Cache) → IsSound z m → Beside z m.cache d → IsCounted z (with_unit m d)
counted_beside z m d h b s i = cc (b.stack, h.counted s i, ap bit (sym (b.waits s i)))

-- ---- Flat memory from the unit's own law of forms: each form is filled in by what the banks will answer.

-- ---- filling

value-byte : (answers : List BankAnswer) (b : ℕ) → value answers (Byte b) ≡ b
value-byte [] b = refl
value-byte (a ∷ answers) b = value-byte answers b

-- a lane that is asked for is that of the first answer
value-asked : (answers : List BankAnswer) (slot i : ℕ) (l : Lane)
    → value answers (Asked slot i l) ≡ byte (word_in (find (is_for slot i) answers)) l
value-asked [] slot i l = grind arith
value-asked (a ∷ answers) slot i l = grind (arith, value-byte, value-asked answers slot i l)

-- a form is filled to the word with its lanes' bytes
filled-is : (answers : List BankAnswer) (f : Form) (w : Word) → ((l : Lane) → value answers (f l) ≡ byte w l) → filled_by answers f ≡ w
filled-is answers f w same = same_word_from _ _ (λ l. byte_word_of (λ k. value answers (f k)) l ∙ same l)

-- two lists fill a form alike that fill each lane alike
filled-like : (old new : List BankAnswer) (f g : Form) → ((l : Lane) → value new (g l) ≡ value old (f l))
    → filled_by new g ≡ filled_by old f
filled-like old new f g same = filled-is new g _ (λ l. same l ∙ sym (byte_word_of (λ k. value old (f k)) l))

pub filled-bytes : (answers : List BankAnswer) (w : Word) → filled_by answers (bytes_of w) ≡ w
filled-bytes answers w = filled-is answers _ w (λ l. value-byte answers _)

-- some lanes of a word, over a form
pub filled-over : (answers : List BankAnswer) (lanes : Lanes) (w : Word) (f : Form)
    → filled_by answers (over_form lanes w f) ≡ merged (filled_by answers f) w lanes
filled-over answers lanes w f = filled-is answers _ _ (λ l. elim (has lanes l) as
    (λ b. value answers (cond b (Byte (byte w l)) (f l)) ≡ cond b (byte w l) (byte (filled_by answers f) l))
    [ true ↦ value-byte answers _ | false ↦ sym (byte_word_of (λ k. value answers (f k)) l) ] ∙ sym (byte-merged _ w lanes l))

-- a word that is asked for, whole
pub filled-asked : (answers : List BankAnswer) (slot i : ℕ)
    → filled_by answers (λ l. Asked slot i l) ≡ word_in (find (is_for slot i) answers)
filled-asked answers slot i = filled-is answers _ _ (value-asked answers slot i)

-- an answer that arrives is filled in, and no longer on its way
pub filled-arrived : (a : BankAnswer) (new old : List BankAnswer) → Adds a new old → tally (is_for a.slot a.i) new ≡ 0
    → (f : Form) → filled_by new (filled_form a.slot a.i a.word f) ≡ filled_by old f
filled-arrived a new old less none f = filled-like old new f _ (λ l. each (f l))
  where
    each : (x : LaneForm) → value new (fill a.slot a.i a.word x) ≡ value old x
    each (Byte b) = value-byte new b ∙ sym (value-byte old b)
    each (Asked s i l) = go _ refl
      where
        go : (t : Bool) → is_for s i a ≡ t → value new (cond t (Byte (byte a.word l)) (Asked s i l)) ≡ value old (Asked s i l)
        go true e = value-byte new _ ∙ sym (cc (
          value-asked old s i l,
          Adds-find_same (is_for s i) a new old less e (grind (arith, none, e)),
        ))
        go false e = cc (value-asked new s i l, Adds-find_other _ a new old less e, value-asked old s i l)

-- whom a lane asks
abbrev pub AskedOf : (ℕ → Type 0) → LaneForm → Type 0
AskedOf P (Byte b) = Unit {0}
AskedOf P (Asked slot i l) = P slot

-- answers for others change no form
pub filled-other : (P : ℕ → Type 0) (old new : List BankAnswer) → ((s i : ℕ) → P s → find (is_for s i) new ≡ find (is_for s i) old)
    → (f : Form) → ((l : Lane) → AskedOf P (f l)) → filled_by new f ≡ filled_by old f
filled-other P old new same f asked = filled-like old new f f (λ l. each (f l) (asked l))
  where
    each : (x : LaneForm) → AskedOf P x → value new x ≡ value old x
    each (Byte b) p = value-byte new b ∙ sym (value-byte old b)
    each (Asked s i l) p = cc (value-asked new s i l, same s i p, value-asked old s i l)

-- ---- the machine's words

-- the word at an address, by its form
abbrev pub word_from : List BankAnswer → Word → Option Form → Word
word_from answers backed None = backed
word_from answers backed (Some f) = filled_by answers f

pub flat_word-form : (z : Sizes) (m : Machine) (at : ℕ)
    → flat_word z m at ≡ word_from (all_pending m.banks) (backing z m at) (form_at z m.cache at)
unfolding form_at
flat_word-form z m at = grind arith

-- the same form, over the same backing
pub word_same : (z : Sizes) (m m' : Machine) (at : ℕ) → form_at z m'.cache at ≡ form_at z m.cache at
    → all_pending m'.banks ≡ all_pending m.banks → backing z m' at ≡ backing z m at → flat_word z m' at ≡ flat_word z m at
word_same z m m' at e p b = grind (arith, flat_word-form)

-- a word of a present block has a form
pub form_present : (z : Sizes) (c : Cache) (at k : ℕ) → frame_of c (block_of z at) ≡ Some k
    → form_at z c at ≡ Some (form c (block_of z at) (place_in z at))
unfolding form_at
form_present z c at k e = ap (form_where z c at) e

-- ---- whom forms ask

asks_over : (P : ℕ → Type 0) (lanes : Lanes) (w : Word) (f : Form) → ((l : Lane) → AskedOf P (f l)) → (l : Lane)
    → AskedOf P (over_form lanes w f l)
asks_over P lanes w f p l = elim (has lanes l) as (λ b. AskedOf P (cond b (Byte (byte w l)) (f l))) [ true ↦ tt | false ↦ p l ]

asks_missing : (P : ℕ → Type 0) (o : Option Word) (slot i : ℕ) → P slot → (l : Lane) → AskedOf P (missing_form o slot i l)
asks_missing P (Some w) slot i p l = tt
asks_missing P None slot i p l = p

-- a word's form asks a live register
pub word_asks : (P : ℕ → Type 0) (z : Sizes) (c : Cache) (at : ℕ) → ((s : ℕ) → is_live (register_at c s) ≡ true → P s)
    → (f : Form) → form_at z c at ≡ Some f → (l : Lane) → AskedOf P (f l)
unfolding form_at
word_asks P z c at live f e l = go _ e
  where
    i : ℕ
    i = place_in z at

    buffer : Word
    buffer = (cell_of c (block_of z at) i).word

    shown : (o : Option ℕ) → live_for c (block_of z at) ≡ o → AskedOf P (form_in c o i buffer l)
    shown None q = tt
    shown (Some s) q = elim (field_at c s i).processed as (λ b. AskedOf P
        (cond b (bytes_of buffer) (over_form (field_at c s i).code buffer (coming_form c s i)) l)) [
          | true ↦ tt
          | false ↦ asks_over P (field_at c s i).code buffer _
              (asks_missing P (stack_word _ s i) s i (live s (live_for-some c _ s q).0)) l
        ]

    go : (o : Option ℕ) → form_where z c at o ≡ Some f → AskedOf P (f l)
    go None q = cc
    go (Some k) q =
        let same : form c _ _ ≡ f = cc in
        rw (← same) (shown _ refl)

-- what is owed asks valid registers: answers for others change none of it
pub due_other : (P : ℕ → Type 0) (c : Cache) (old new : List BankAnswer) → ((s i : ℕ) → P s → find (is_for s i) new ≡ find (is_for s i) old)
    → ((s : ℕ) → (register_at c s).valid ≡ true → P s) → (tag : ℕ)
    → option_map (filled_by new) (owed c tag) ≡ option_map (filled_by old) (owed c tag)
due_other P c old new same valid tag = go (find (λ (r : Reply). r.tag == tag) _) (find (λ (t : Target). t.load.tag == tag) _) refl
  where
    go : (a : Option Reply) (b : Option Target) → find (λ (t : Target). t.load.tag == tag) (targets c.registers) ≡ b
        → option_map (filled_by new) (option_or (option_map (λ r. bytes_of r.word) a) (option_map (target_form c) b))
        ≡ option_map (filled_by old) (option_or (option_map (λ r. bytes_of r.word) a) (option_map (target_form c) b))
    go (Some r) b e = ap Some (filled-bytes new r.word ∙ sym (filled-bytes old r.word))
    go None None e = refl
    go None (Some t) e =
        let p = valid t.slot (target_valid _ (λ x. x.load.tag == tag) t e) in
        ap Some (filled-other P old new same (target_form c t) (asks_over P t.load.lanes t.load.held _
        (asks_missing P (stack_word c.stack t.slot t.i) t.slot t.i p)))

-- ---- the same flat memory

-- two machines stand for the same flat memory
pub record Same (z : Sizes) (m m' : Machine) : Type 0 where
  pub words : (at : ℕ) → flat_word z m' at ≡ flat_word z m at
  pub owing : (tag : ℕ) → flat_due m' tag ≡ flat_due m tag

pub flat_of-same : (z : Sizes) (m m' : Machine) → Same z m m' → Some (flat_of z m) ≡ Some (flat_of z m')
flat_of-same z m m' s =
    λ i. Some (record { mem = map (λ at. sym (s.words at) i) (range_with_len 0 z.words); due = λ tag. sym (s.owing tag) i })

-- the same forms and answers to come, over the same backing
pub forms_same : (z : Sizes) (m m' : Machine) → forms z m'.cache ≡ forms z m.cache → all_pending m'.banks ≡ all_pending m.banks
    → ((at : ℕ) → backing z m' at ≡ backing z m at) → Same z m m'
forms_same z m m' e p b = record {
  words = λ at. word_same z m m' at (ap (λ fs. fs.words at) e) p (b at);
  owing = λ tag. (cc (ap (λ fs. fs.owing tag) e, p));
}

-- ---- events

-- an event's outcome is sound, and a step of flat memory
pub record KeptBy (z : Sizes) (m : Machine) (event : Event) (o : Outcome) : Type 0 where
  pub sound : IsSound z o.machine
  pub run : flat_step (flat_of z m) event o.answer ≡ Some (flat_of z o.machine)

abbrev pub Kept : Sizes → Machine → Event → Type 0
Kept z m event = KeptBy z m event (apply z m event)

-- ---- What is queued for a word is one write.

pub overlaid-split : (w v : Word) (queue : List Queued) (at : ℕ)
    → overlaid w queue at ≡ merged w (overlaid v queue at) (queued_lanes queue at)
overlaid-split w v [] at = sym (merged-none w v)
overlaid-split w v (q ∷ rest) at = grind (
  arith,
  overlaid-split w v rest at,
  overlaid-split (merged w q.word q.lanes) v rest at,
  overlaid-split (merged v q.word q.lanes) v rest at,
  merged_held w v q.word q.lanes,
  merged_over,
)

-- ---- What an eviction queues, laid over memory; and the addresses of a block.

overlaid-append : (w : Word) (xs ys : List Queued) (at : ℕ) → overlaid w (xs ++ ys) at ≡ overlaid (overlaid w xs at) ys at
overlaid-append w [] ys at = refl
overlaid-append w (q ∷ xs) ys at = overlaid-append (cond (q.at == at) (merged w q.word q.lanes) w) xs ys at

-- below the block nothing changes
overlaid_below : (w : Word) (block n : ℕ) (cells : List Cell) (at : ℕ) → at < n → overlaid w (dirty_from block n cells) at ≡ w
overlaid_below w block n [] at l = refl
overlaid_below w block n (cell ∷ rest) at l = grind (arith, overlaid_below w block (n + 1) rest at)

-- a word of the block takes the bytes of its dirty lanes
overlaid_at : (w : Word) (block n : ℕ) (cells : List Cell) (k at : ℕ) → at ≡ n + k
    → overlaid w (dirty_from block n cells) at ≡ merged w (get_or cells k zero_cell).word (get_or cells k zero_cell).dirty
overlaid_at w block n [] k at e = sym (merged-none w zero_word)
overlaid_at w block n (cell ∷ rest) zero at e = grind (arith, overlaid_below, cell.word, eq-eqb, merged_held, merged_no_lane, cell.dirty)
overlaid_at w block n (cell ∷ rest) (suc k) at e = grind (arith, overlaid_at w block (n + 1) rest k at)

overlaid_past : (w : Word) (block n : ℕ) (cells : List Cell) (at : ℕ) → n + length cells ≤ at → overlaid w (dirty_from block n cells) at ≡ w
overlaid_past w block n cells at l = grind (arith, overlaid_at w block n cells (at - n), get_or_past, merged-none)

-- ---- addresses

-- an address of another block is outside
outside : (z : Sizes) → 0 < z.block_words → (b at : ℕ) → (block_of z at ≡ b → ⊥) → (at < first_of z b) ⊎ (first_of z b + z.block_words ≤ at)
outside z some b at n = grind arith

-- ---- a frame's dirty words

-- laid over the backing, they are what is kept of their block, and nothing of another
pub dirty_within : (z : Sizes) (m : Machine) → IsSound z m → (f at : ℕ) → (frame_at m.cache f).block ≡ Some (block_of z at)
    → overlaid (backing z m at) (dirty_words z m.cache (Some f)) at ≡ kept_word z m at
dirty_within z m h f at e = grind (arith, m.cache, frame_of-is, h.unit.directory.alone, overlaid_at, address_is)

pub dirty_elsewhere : (z : Sizes) (m : Machine) → IsSound z m → (f at : ℕ)
    → ((frame_at m.cache f).block ≡ Some (block_of z at) → ⊥)
    → overlaid (backing z m at) (dirty_words z m.cache (Some f)) at ≡ backing z m at
dirty_elsewhere z m h f at n =
    let u = h.unit in
    grind (arith, m.cache, z.block_words, u.directory.cells, u.in_memory, u.some_words, overlaid_below, overlaid_past, outside)

-- the backing of a machine whose queue has them, too
pub backing_dirty : (z : Sizes) (m m' : Machine) (f at : ℕ)
    → words_after (bank_at m'.banks (at % z.banks)) ≡ words_after (bank_at m.banks (at % z.banks))
    → m'.cache.queue ≡ m.cache.queue ++ dirty_words z m.cache (Some f)
    → backing z m' at ≡ overlaid (backing z m at) (dirty_words z m.cache (Some f)) at
backing_dirty z m m' f at ew eq = grind (arith, overlaid-append)

-- ---- A block is given up.

module _ (z : Sizes) (m : Machine) (h : IsSound z m) (block f : ℕ) (found : frame_of m.cache block ≡ Some f) where
  abbrev pub gone : Machine
  gone = record { cache = evicted z m.cache block f; banks = m.banks }

  by : EvictedBy z m.cache block (evicted z m.cache block f)
  by = evicted-by z _ h.unit block f found

  queue : gone.cache.queue ≡ m.cache.queue ++ dirty_words z m.cache (Some f)
  unfolding evicted released
  queue = refl

  stack : gone.cache.stack ≡ m.cache.stack
  unfolding evicted released
  stack = refl

  held : (frame_at m.cache f).block ≡ Some block
  held = (frame_of-some _ block f found).1

  -- a word of the block is its backing, which has its dirty bytes; any other word stays
  backing_here : (at : ℕ) → block ≡ block_of z at → backing z gone at ≡ kept_word z m at
  backing_here at e = backing_dirty z m gone f at refl queue ∙ dirty_within z m h f at (held ∙ ap Some e)

  backing_there : (at : ℕ) → (block ≡ block_of z at → ⊥) → backing z gone at ≡ backing z m at
  backing_there at n = backing_dirty z m gone f at refl queue ∙ dirty_elsewhere z m h f at (λ e. grind (arith, held))

  word_here : (at : ℕ) → block ≡ block_of z at → flat_word z gone at ≡ backing z gone at
  word_here at e = grind (arith, flat_word-form, by.after, eq-eqb)

  word_there : (at : ℕ) → (block ≡ block_of z at → ⊥) → flat_word z gone at ≡ flat_word z m at
  word_there at n = word_same z m gone at (cc (ap (λ fs. fs.words at) by.after, ne_eqb block _ n)) refl (backing_there at n)

  pub gone_same : Same z m gone
  gone_same = record {
    words = λ at. grind (arith, word_here, backing_here, h.kept, word_there, cases_eq);
    owing = λ tag. (cc (ap (λ fs. fs.owing tag) by.after));
  }

  kept : (at : ℕ) → flat_word z gone at ≡ kept_word z gone at
  kept at = grind (arith, word_here, merged-none, by.absent, word_there, by.cells, backing_there, h.kept, cases_eq)

  counted : IsCounted z gone
  counted s i = cc (stack, h.counted s i, ap bit (sym (by.waits s i)))

  pub gone_sound : parts.IsSound z gone.cache → IsSound z gone
  gone_sound unit = sound_unit z m gone.cache h unit (like_evicted z m.cache block f) counted kept

-- ---- a miss

-- a miss has no cause
abbrev pub MayMiss : Sizes → Machine → ℕ → Type 0
MayMiss z m block = is_present m.cache block ≡ false → first_cause (miss_causes z (room_in z.bank_queue m.banks) m.cache block) ≡ None

-- what a miss needs
pub may_able : (z : Sizes) (m : Machine) (block : ℕ) → MayMiss z m block → is_present m.cache block ≡ false → Able z m.cache block
may_able z m block may e = grind arith

-- the reads of these words
abbrev pub commands : Sizes → ℕ → List ℕ → List (ℕ × Command)
commands z slot ats = map (λ at. (at % z.banks, Read slot (at % z.block_words) (at / z.banks))) ats

reads_for : (z : Sizes) (slot b : ℕ) (ats : List ℕ)
    → length (commands_for b (commands z slot ats)) ≡ length (filter (λ at. at % z.banks == b) ats)
reads_for z slot b [] = refl
reads_for z slot b (at ∷ ats) = grind (arith, reads_for z slot b ats)

any_none : (p : ℕ → Bool) (a n k : ℕ) → list_any p (range_with_len a n) ≡ false → a ≤ k → k < a + n → p k ≡ false
any_none p a zero k e lo hi = absurd (omega arith)
any_none p a (suc n) k e lo hi = grind (arith, any_none p (a + 1) n k)

-- a bank reads those of a block's words that are its own
reads_from : (z : Sizes) (slot block b s i n r a : ℕ) (words : List Word) → a ≡ block * z.block_words + r → r + n ≤ z.block_words
    → 1 ≤ tally (is_for s i) (answers_to words (commands_for b (commands z slot (range_with_len a n))))
    → (slot ≡ s) × (address z block i % z.banks ≡ b)
reads_from z slot block b s i zero r a words e l h = absurd (omega arith)
reads_from z slot block b s i (suc n) r a words e l h =
    grind (arith, mod-mul-add, eqb-true, and_parts, reads_from z slot block b s i n (suc r) (a + 1) words)

module _ (z : Sizes) (m : Machine) (h : IsSound z m) (block f slot : ℕ)
    (there : slot < length m.cache.registers) (free : (register_at m.cache slot).valid ≡ false) where
  abbrev began : Register
  began = begun_register z.block_words (released z m.cache f).queue block f

  abbrev sent : List (ℕ × Command)
  sent = commands z slot (addresses z block)

  few_sent : lacks_room z (room_in z.bank_queue m.banks) block ≡ false → (b : ℕ)
      → length (bank_at (all_sent m.banks sent) b).queue ≤ z.bank_queue
  few_sent room b = ⊎_elim (λ l. grind (
    arith,
    h.banks_are,
    any_none (λ k. nat_lt (room_in z.bank_queue m.banks k) (length (filter (λ at. at % z.banks == k) (addresses z block))))
        0 z.banks b room,
    ltb-false,
    lt-ltb,
    reads_for z slot b (addresses z block),
    all_sent-at m.banks sent b l,
    length-append,
    h.few_commands b,
  ))
      (λ l. grind (arith, get_or_past, all_sent-length)) (cases_lt b (length m.banks))

  -- the bank of word i of the register in slot s
  abbrev bank_of_word : ℕ → ℕ → ℕ
  bank_of_word s i = address z (get_or (set m.cache.registers slot began) s free_register).block i % z.banks

  at_own_bank : (b s i : ℕ) → 1 ≤ tally (is_for s i) (pending (bank_at (all_sent m.banks sent) b)) → bank_of_word s i ≡ b
  at_own_bank b s i l = ⊎_elim here (λ p. grind (arith, get_or_past, all_sent-length)) (cases_lt b _)
    where
      bank : Bank
      bank = bank_at m.banks b

      before : 1 ≤ tally (is_for s i) (pending bank) → bank_of_word s i ≡ b
      before k =
          each-set (λ t r. (register_at m.cache t).valid ≡ true → address z (register_at m.cache t).block i % z.banks ≡ b
          → address z r.block i % z.banks ≡ b) free_register m.cache.registers slot began (λ v e. (cc)) (λ t v e. e) s
          (valid_for z m h.counted b s i k) (h.at_its_bank b s i k)

      here : b < length m.banks → bank_of_word s i ≡ b
      here p = ⊎_elim before (λ none. grind (
        arith,
        all_sent-at m.banks sent b p,
        answers_to-append,
        tally-append,
        reads_from z slot block b s i z.block_words 0 (first_of z block) (after bank.words bank.queue) (omega arith) (omega arith),
        get_or-set_same,
      )) (cases_lt 0 (tally (is_for s i) (pending bank)))

  installed_at : lacks_room z (room_in z.bank_queue m.banks) block ≡ false → AtBanks z (record {
    cache = installed z (released z m.cache f) block f slot;
    banks = all_sent m.banks (reads z block (Some slot));
  })
  unfolding installed released
  installed_at room = record { few_commands = few_sent room; at_its_bank = at_own_bank }

abbrev pub fetched_machine : Sizes → Machine → ℕ → Machine
fetched_machine z m block = record { cache = fetched z m.cache block; banks = all_sent m.banks (fetches z m.cache block) }

pub fetched_at : (z : Sizes) (m : Machine) → IsSound z m → (block : ℕ) → MayMiss z m block → AtBanks z (fetched_machine z m block)
unfolding fetched fetches
fetched_at z m h block may = go _ refl _ refl _ refl
  where
    as_before : AtBanks z m
    as_before = record { few_commands = h.few_commands; at_its_bank = h.at_its_bank }

    go : (b : Bool) → is_present m.cache block ≡ b → (o : Option ℕ) → choose z m.cache block ≡ o → (s : Option ℕ) → free_slot m.cache ≡ s
        → AtBanks z (record {
          cache = cond b m.cache (missed z m.cache block o s);
          banks = all_sent m.banks (cond b [] (reads z block s));
        })
    go true p o q s e = as_before
    go false p None q None e = as_before
    go false p (Some f) q None e = as_before
    go false p None q (Some slot) e =
        let some = choose_none z _ h.unit block ∙ (may_able z m block may p).1 in cc
    go false p (Some f) q (Some slot) e =
        let free = free_register_at m.cache slot e in
        installed_at z m h block f slot free.0 free.1 (grind arith)
