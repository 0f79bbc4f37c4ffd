-- A miss: the block that goes, and the one that comes, whose words are asked for. Then loads, stores, prefetches and evictions.
use Rattle.std.proofs.Common.{◌≡◌, ℕ, zero, suc, ◌+◌, ◌*◌, ◌/◌, ◌%◌, ◌<◌, ◌≤◌, Bool, true, false, cond, ◌&&◌, ◌==◌, nat_lt, nat_le, List}
use Rattle.std.proofs.Common.{[], ◌∷◌, ◌++◌, map, length, set, Some, find, refl, ap, ap₂, ◌∙◌, arith, length-set, ⊎_elim, mod-lt, eq-eqb}
use Rattle.std.proofs.Common.{ne_eqb, not, Option, None, sym, ◌⊎◌, le-leb, ltb-true, zero-add, is_some, option_map, is_none, lt-ltb}
use Rattle.std.proofs.Common.{add-zero, ◌-◌, get_or, replicate, div-add-mod', flat_map, ext_get_or}
use Rattle.std.specs.List.{range_with_len, list_any, list_all}
use Rattle.std.proofs.lemmas.Bool.{cases_eq, not-false, and_parts, not-true}
use Rattle.std.proofs.lemmas.Nat.{mod-mul-add}
use Rattle.machine_core.specs.Words.{Word, Lanes, Cause, OutOfRange, TagInUse, RepliesFull, TargetsFull, NoRegister, SetPending, QueueFull}
use Rattle.machine_core.specs.Words.{BankFull, Event, Load, Store, Prefetch, Evict, Accepted, Refused, Cell}
use Rattle.flat_model.specs.Flat.{word_at, with_due, flat_after, flat_step, load_refusals}
use Rattle.memory_banks.specs.declared.Command.TheVariants.{Read}
use Rattle.memory_banks.specs.declared.BankAnswer.{BankAnswer}
use Rattle.memory_banks.specs.Banks.{Bank, bank_at, no_bank, pending, all_pending, words_after, with_command, all_sent, room_in, share_of}
use Rattle.cache_law.specs.declared.Sizes.{Sizes}
use Rattle.cache_law.specs.Counts.{tally, bit}
use Rattle.cache_law.proofs.Lists.{Adds, Adds-tally, Adds-find_other, Adds-find_same, Adds-push, Adds-left, Adds-right, Adds-same}
use Rattle.cache_law.proofs.Lists.{find_none, flat_map_part, read_set, map-same, none_in_frames, holds-not}
use Rattle.cache_law.proofs.Lists.{frame_of-none}
use Rattle.machine_core.specs.Sound.{is_for, is_entry_for, word_in, IsSound, wanted}
use Rattle.std.proofs.lemmas.List.FromFn.{length-map-range_with_len}
use Rattle.flat_model.specs.Words.{merged, zero_word, has_any}
use Rattle.flat_model.proofs.Lanewise.{merged-none, merged_over, merged_no_lane, has-none}
use Rattle.write_queue.specs.declared.Queued.{Queued}
use Rattle.write_queue.specs.Queue.{overlaid, queued_lanes}
use Rattle.cache_law.specs.Begun.{begun_field}
use Rattle.cache_law.specs.State.{Frame, frame_at, frame_of, is_present, register_at, field_at, is_live, cell_of, tags, block_of, place_in}
use Rattle.cache_law.specs.State.{first_of, Register, empty_frame, free_register, cell_in, gathered, targets_of, targets}
use Rattle.cache_law.specs.Causes.{addresses, dirty_words, first_cause, found, targets_full, is_in_use, miss_causes}
use Rattle.cache_law.specs.Causes.{load_cause, store_cause, prefetch_cause, evict_cause}
use Rattle.cache_law.specs.Steps.{released, fetched, fetches, load_step, store_step, prefetch_step, evict_step, Stepped, unless}
use Rattle.cache_law.specs.Steps.{loaded, written, evicted_from, evicted}
use Rattle.cache_law.specs.Forms.{Asked, Form, filled_by}
use Rattle.cache_law.specs.FormLaws.{form_at, words_without, asked_form}
use Rattle.cache_law.proofs.FormsWords.{range_at, address_is, Hit, stored-by, loaded-by}
use Rattle.cache_law.proofs.FormsEvents.{owed-same, Due, dues, due_in, owed-due, dues-tally, tags-dues}
use Rattle.cache_law.proofs.Requesting.{Able, Misses, misses, fetched-by, none-counted}
use Rattle.machine_core.specs.Law.{IsLawful}
use Rattle.machine_core.specs.Machine.{Machine, backing, flat_word, joined_with, flat_due, flat_of, opening, settled, bank_word}
use Rattle.machine_core.specs.Machine.{flat_word_in}
use Rattle.memory_banks.proofs.Sending.{all_sent-length, all_sent-at}
use Rattle.memory_banks.proofs.Behind.{after-append, answers_to-append}
use Rattle.machine_core.proofs.FromForms.{commands, fetched_machine, MayMiss, may_able, fetched_at}
use Rattle.machine_core.proofs.FromForms.{like_loaded, like_written, filled-asked, filled-over, filled-other}
use Rattle.machine_core.proofs.FromForms.{word_asks, due_other, word_from, flat_word-form, Same, bit-le, kept_word, kept_same, AtBanks}
use Rattle.machine_core.proofs.FromForms.{overlaid-split, dirty_within, dirty_elsewhere}
use Rattle.machine_core.proofs.FromForms.{backing_dirty, word_same, form_present, flat_of-same, Kept, KeptBy, cell_frames, counted_beside}
use Rattle.machine_core.proofs.FromForms.{sound_unit}
use Rattle.machine_core.proofs.FromForms.{gone_same, gone_sound, pending_part}
use Rattle.flat_model.specs.Causes.{is_of_a_load}
use Rattle.miss_registers.proofs.Tags.{list_any-map}
use Rattle.cache_law.specs.Views.{is_empty}
use Rattle.miss_registers.proofs.Tags.{replicate-each}
use Rattle.cache_law.proofs.Opening.{IsSound-opening}
use Rattle.cache_law.proofs.EachStep.{each_step_keeps, fetch-kept}
use Rattle.cache_law.specs.Requests.{absence_cause}
use Rattle.cache_law.specs.Sound as parts
use Rattle.cache_law.specs.declared.Request.TheVariants as request

-- ---- The reads of a block go to their banks.

-- the word of memory at an address, once the queue of its bank is served
abbrev pub base_in : Sizes → List Bank → ℕ → Word
base_in z banks at = word_at (words_after (bank_at banks (at % z.banks))) (at / z.banks)

abbrev pub answer_at : Sizes → List Bank → ℕ → ℕ → BankAnswer
answer_at z banks slot at = record { slot = slot; i = at % z.block_words; word = base_in z banks at }

-- one element more for each of a list
abbrev pub AddsAll : {X : Type 0} → List X → List X → List X → Type 0
AddsAll [] old new = new ≡ old
AddsAll {X} (x ∷ xs) old new = (mid : List X) × Adds x old mid × AddsAll xs mid new

pub AddsAll-tally : {X : Type 0} (p : X → Bool) (xs old new : List X) → AddsAll xs old new → tally p new ≡ tally p old + tally p xs
AddsAll-tally p [] old new a = grind arith
AddsAll-tally p (x ∷ xs) old new a =
    omega (arith, Adds-tally p x old a.0 a.1, AddsAll-tally p xs a.0 new a.2)

pub AddsAll-find_other : {X : Type 0} (p : X → Bool) (xs old new : List X) → AddsAll xs old new → tally p xs ≡ 0 → find p new ≡ find p old
AddsAll-find_other p [] old new a none = ap (find p) a
AddsAll-find_other p (x ∷ xs) old new a none = grind (arith, Adds-find_other p x old a.0 a.1, AddsAll-find_other p xs a.0 new a.2)

-- where the old list has none and the new elements one, that one is found
pub AddsAll-find : {X : Type 0} (p : X → Bool) (xs old new : List X) → AddsAll xs old new → tally p old ≡ 0 → tally p xs ≤ 1
    → find p new ≡ find p xs
AddsAll-find p [] old new a none one = ap (find p) a ∙ find_none p old none
AddsAll-find p (x ∷ xs) old new a none one = grind (
  arith,
  AddsAll-find_other p xs a.0 new a.2,
  Adds-find_same p x old a.0 a.1,
  Adds-tally p x old a.0 a.1,
  AddsAll-find p xs a.0 new a.2,
)

-- ---- one read

module _ (z : Sizes) (some_banks : 0 < z.banks) (slot : ℕ) where
  abbrev pub one_more : List Bank → ℕ → List Bank
  one_more banks at = set banks (at % z.banks) (with_command (bank_at banks (at % z.banks)) (Read slot (at % z.block_words) (at / z.banks)))

  one_words : (banks : List Bank) (at b : ℕ) → words_after (bank_at (one_more banks at) b) ≡ words_after (bank_at banks b)
  unfolding with_command
  one_words banks at b =
      let bank = bank_at banks _ in
      read_set words_after no_bank banks _ _ (after-append bank.words bank.queue (Read slot _ _ ∷ [])) b

  one_adds : (banks : List Bank) (at : ℕ) → length banks ≡ z.banks
      → Adds (answer_at z banks slot at) (all_pending banks) (all_pending (one_more banks at))
  unfolding with_command
  one_adds banks at n =
      let bank = bank_at banks _ in
      let there : at % z.banks < length banks = omega (arith, n, mod-lt at some_banks) in
      let part = flat_map_part pending no_bank banks _ there in
      let x = answer_at z banks slot at in
      let e = answers_to-append bank.words bank.queue (Read slot _ _ ∷ []) in
      Adds-same x _ _ _ _ part.now (part.then _ ∙ ap (λ l. part.front ++ ((bank.answers ++ l) ++ part.back)) e)
      (Adds-left part.front x _ _ (Adds-right part.back x _ _ (Adds-left bank.answers x _ _ (Adds-push x _))))

  -- ---- all of them

  pub sent_words : (ats : List ℕ) (banks : List Bank) (b : ℕ)
      → words_after (bank_at (all_sent banks (commands z slot ats)) b) ≡ words_after (bank_at banks b)
  sent_words [] banks b = refl
  sent_words (at ∷ ats) banks b = sent_words ats _ b ∙ one_words banks at b

  pub sent_adds : (ats : List ℕ) (banks : List Bank) → length banks ≡ z.banks
      → AddsAll (map (answer_at z banks slot) ats) (all_pending banks) (all_pending (all_sent banks (commands z slot ats)))
  sent_adds [] banks n = refl
  sent_adds (at ∷ ats) banks n =
      let banks1 = one_more banks at in
      let same = map-same (answer_at z banks1 slot) (answer_at z banks slot) ats (λ a. (cc (one_words banks at (a % z.banks)))) in (
        all_pending banks1,
        one_adds banks at n,
        rw same at (sent_adds ats banks1 (length-set banks _ _ ∙ n)),
      )

-- ---- which answers these are

-- the answers for another register: none
pub reads_other : (z : Sizes) (banks : List Bank) (slot t j : ℕ) (ats : List ℕ) → (slot ≡ t → ⊥)
    → tally (is_for t j) (map (answer_at z banks slot) ats) ≡ 0
reads_other z banks slot t j [] n = refl
reads_other z banks slot t j (at ∷ ats) n = grind (arith, reads_other z banks slot t j ats n, ne_eqb)

one_step : (r n j : ℕ) → bit (r == j) + bit (nat_le (suc r) j && nat_lt j (suc r + n)) ≡ bit (nat_le r j && nat_lt j (r + suc n))
one_step r n j = grind arith

-- the answers for words r .. r + n of a block
pub reads_tally : (z : Sizes) (banks : List Bank) (slot b : ℕ) (r n a j : ℕ) → a ≡ b * z.block_words + r → r + n ≤ z.block_words
    → tally (is_for slot j) (map (answer_at z banks slot) (range_with_len a n)) ≡ bit (nat_le r j && nat_lt j (r + n))
reads_tally z banks slot b r zero a j e l = grind arith
reads_tally z banks slot b r (suc n) a j e l =
    grind (arith, mod-mul-add, reads_tally z banks slot b (suc r) n (a + 1) j (omega arith) (omega arith), one_step, eq-eqb)

-- and the one that is found
pub reads_find : (z : Sizes) (banks : List Bank) (slot b : ℕ) (r n a j : ℕ) → a ≡ b * z.block_words + r → r + n ≤ z.block_words → r ≤ j
    → j < r + n → find (is_for slot j) (map (answer_at z banks slot) (range_with_len a n))
    ≡ Some (record { slot = slot; i = j; word = base_in z banks (b * z.block_words + j) })
reads_find z banks slot b r zero a j e l lo hi = absurd (omega arith)
reads_find z banks slot b r (suc n) a j e l lo hi = ⊎_elim (λ q. grind (arith, mod-mul-add))
    (λ q. grind (arith, mod-mul-add, reads_find z banks slot b (suc r) n (a + 1) j (omega arith) (omega arith) (omega arith) (omega arith)))
    (cases_eq r j)

pub record FetchedBy (z : Sizes) (m : Machine) (block : ℕ) (m' : Machine) : Type 0 where
  pub sound : IsSound z m'
  pub same : Same z m m'
  pub same_tags : tags m'.cache ≡ tags m.cache

module _ (z : Sizes) (lawful : IsLawful z) (m : Machine) (h : IsSound z m) (block : ℕ) (absent : frame_of m.cache block ≡ None)
    (in_memory : first_of z block + z.block_words ≤ z.words) (miss : Misses z m.cache block) where
  abbrev f : ℕ
  f = miss.frame

  abbrev slot : ℕ
  slot = miss.slot

  abbrev with_block : Machine
  with_block = record { cache = fetched z m.cache block; banks = all_sent m.banks (commands z slot (addresses z block)) }

  abbrev queue : List Queued
  queue = m.cache.queue ++ dirty_words z m.cache (Some f)

  -- ---- frames

  -- a frame that holds a block is the new one, or held it before
  holds : (k b : ℕ) → (frame_at with_block.cache k).block ≡ Some b
      → ((k ≡ f) × (b ≡ block)) ⊎ ((k ≡ f → ⊥) × ((frame_at m.cache k).block ≡ Some b))
  holds k b e = grind arith

  no_frame : (k : ℕ) → (frame_at m.cache k).block ≡ Some block → ⊥
  no_frame = none_in_frames m.cache block absent

  -- ---- registers

  valid_other : (t : ℕ) → (register_at m.cache t).valid ≡ true → (t ≡ slot → ⊥)
  valid_other t v q = grind arith

  live_other : (t : ℕ) → is_live (register_at m.cache t) ≡ true → (t ≡ slot → ⊥)
  live_other t l = grind arith

  -- ---- answers

  answers : List BankAnswer
  answers = map (answer_at z m.banks slot) (addresses z block)

  none_pending : (j : ℕ) → (tally (is_for slot j) (all_pending m.banks) ≡ 0) × (tally (is_entry_for slot j) m.cache.stack ≡ 0)
  none_pending j = grind arith

  added : AddsAll answers (all_pending m.banks) (all_pending with_block.banks)
  unfolding answers
  added = sent_adds z lawful.some_banks slot _ _ h.banks_are

  -- one answer for each of the block's words
  one_each : (j : ℕ) → tally (is_for slot j) answers ≡ bit (nat_lt j z.block_words)
  unfolding answers
  one_each j = reads_tally z m.banks slot block 0 z.block_words (first_of z block) j (omega arith) (omega arith)
      ∙ grind (arith, le-leb)

  own_tally : (j : ℕ) → tally (is_for slot j) (all_pending with_block.banks) ≡ bit (nat_lt j z.block_words)
  own_tally j = omega (arith, AddsAll-tally (is_for slot j) answers _ _ added, one_each j, (none_pending j).0)

  -- none for another register
  none_other : (t j : ℕ) → (t ≡ slot → ⊥) → tally (is_for t j) answers ≡ 0
  unfolding answers
  none_other t j n = reads_other z m.banks slot t j _ (λ q. n (sym q))

  other_tally : (t j : ℕ) → (t ≡ slot → ⊥) → tally (is_for t j) (all_pending with_block.banks) ≡ tally (is_for t j) (all_pending m.banks)
  other_tally t j n = omega (arith, AddsAll-tally (is_for t j) answers _ _ added, none_other t j n)

  other_find : (t j : ℕ) → (t ≡ slot → ⊥) → find (is_for t j) (all_pending with_block.banks) ≡ find (is_for t j) (all_pending m.banks)
  other_find t j n = AddsAll-find_other _ answers _ _ added (none_other t j n)

  own_find : (j : ℕ) → j < z.block_words → word_in (find (is_for slot j) (all_pending with_block.banks))
      ≡ base_in z m.banks (block * z.block_words + j)
  unfolding answers
  own_find j l = ap word_in (AddsAll-find _ answers _ _ added (none_pending j).0
      (omega (arith, one_each j, bit-le (nat_lt j z.block_words)))
      ∙ reads_find z _ slot block 0 _ _ j (omega arith) (omega arith) (omega arith) (omega arith))

  -- ---- the backing

  base_same : (at : ℕ) → words_after (bank_at with_block.banks (at % z.banks)) ≡ words_after (bank_at m.banks (at % z.banks))
  base_same at = grind (arith, sent_words)

  backing_gone : (at : ℕ) → (frame_at m.cache f).block ≡ Some (block_of z at) → backing z with_block at ≡ kept_word z m at
  backing_gone at e = backing_dirty z m with_block f at (base_same at) miss.by.queue ∙ dirty_within z m h f at e

  backing_same : (at : ℕ) → ((frame_at m.cache f).block ≡ Some (block_of z at) → ⊥) → backing z with_block at ≡ backing z m at
  backing_same at n = backing_dirty z m with_block f at (base_same at) miss.by.queue ∙ dirty_elsewhere z m h f at n

  -- ---- the words: of the block that comes, of the one that goes, and the others

  not_victim : (at : ℕ) → block_of z at ≡ block → (frame_at m.cache f).block ≡ Some (block_of z at) → ⊥
  not_victim at e q = no_frame f (cc)

  word_own : (at : ℕ) → block_of z at ≡ block → flat_word z with_block at ≡ backing z with_block at
  word_own at e =
      let j = place_in z at in
      let ps = all_pending with_block.banks in
      let back = backing z with_block at in
      let here : block * z.block_words + place_in z at ≡ at = grind (arith, address_is) in
      let asked = miss.by.words at
      ∙ ap (λ b. cond b (Some (asked_form z queue slot at)) (words_without z (form_at z m.cache) (frame_at m.cache f).block at))
      (eq-eqb _ block e) in
      (cc (
        flat_word-form z with_block at,
        asked,
        filled-over ps (queued_lanes queue at) (overlaid zero_word queue at) (λ l. Asked slot (place_in z at) l),
        filled-asked ps slot (place_in z at),
        own_find (place_in z at) (mod-lt at lawful.some_words),
        here,
        overlaid-split (base_in z m.banks at) zero_word queue at,
        base_same at,
        miss.by.queue,
      ))

  missed_at : (at : ℕ) → (block_of z at ≡ block → ⊥)
      → form_at z with_block.cache at ≡ words_without z (form_at z m.cache) (frame_at m.cache f).block at
  missed_at at n = grind arith

  word_gone : (at : ℕ) → (block_of z at ≡ block → ⊥) → (frame_at m.cache f).block ≡ Some (block_of z at)
      → flat_word z with_block at ≡ backing z with_block at
  word_gone at n e = grind (arith, missed_at, eq-eqb, flat_word-form, word_from)

  word_other : (at : ℕ) → (block_of z at ≡ block → ⊥) → ((frame_at m.cache f).block ≡ Some (block_of z at) → ⊥)
      → flat_word z with_block at ≡ flat_word z m at
  word_other at n far =
      let form = missed_at at n ∙ ap (λ b. cond b None (form_at z m.cache at)) (holds-not (frame_at m.cache f) _ far) in
      (cc (flat_word-form z with_block at, form, go _ refl, flat_word-form z m at))
    where
      go : (o : Option Form) → form_at z m.cache at ≡ o
          → word_from (all_pending with_block.banks) (backing z with_block at) o ≡ word_from (all_pending m.banks) (backing z m at) o
      go None e = backing_same at far
      go (Some g) e = filled-other (λ t. t ≡ slot → ⊥) _ _ other_find g (word_asks (λ t. t ≡ slot → ⊥) z _ at live_other g e)

  with_block_same : Same z m with_block
  with_block_same = record {
    words = λ at. grind (arith, cases_eq, word_own, backing_same, not_victim, word_gone, backing_gone, h.kept, word_other);
    owing = λ tag. (cc (
      owed-same m.cache with_block.cache miss.by.same_ready miss.by.same_targets miss.by.same_stack tag,
      due_other (λ t. t ≡ slot → ⊥) m.cache _ _ other_find valid_other tag,
    ));
  }

  kept : (at : ℕ) → flat_word z with_block at ≡ kept_word z with_block at
  kept at = grind (
    arith,
    cases_eq,
    word_own,
    merged-none,
    miss.by.clean,
    word_gone,
    miss.by.gone,
    word_other,
    miss.by.cells,
    backing_same,
    h.kept,
  )

  -- ---- all of it

  same_tags : tags with_block.cache ≡ tags m.cache
  same_tags = grind arith

  with_block_sound : parts.IsSound z with_block.cache → AtBanks z with_block → IsSound z with_block
  with_block_sound unit at = record {
    unit = unit;
    counted = counted;
    kept = kept;
    at_its_bank = at.at_its_bank;
    few_commands = at.few_commands;
    banks_are = all_sent-length m.banks (commands z slot (addresses z block)) ∙ h.banks_are;
    banks_hold = λ at l. grind (arith, mod-lt, all_sent-at, h.banks_hold, h.banks_are);
  }
    where
      own_field : (j : ℕ) → j < z.block_words → field_at with_block.cache slot j ≡ begun_field with_block.cache.queue (first_of z block + j)
      own_field j l = grind (arith, range_at)

      counted_after : (t j : ℕ) → tally (is_for t j) (all_pending with_block.banks) + tally (is_entry_for t j) m.cache.stack
          ≡ wanted z (register_at with_block.cache t) j
      counted_after t j = ⊎_elim (λ q. grind (arith, own_tally, none_pending, own_field, ltb-true))
          (λ n. grind (arith, other_tally)) (cases_eq t slot)

      counted : (t j : ℕ) → tally (is_for t j) (all_pending with_block.banks) + tally (is_entry_for t j) with_block.cache.stack
          ≡ wanted z (register_at with_block.cache t) j
      counted t j = cc (miss.by.same_stack, counted_after t j)

-- nor against a block that is present
may_be_present : (z : Sizes) (m : Machine) (block : ℕ) → MayMiss z m block
    → absence_cause z (room_in z.bank_queue m.banks) m.cache block ≡ None
may_be_present z m block may = grind arith

-- a block is fetched where nothing stands against it
pub fetch_ok : (z : Sizes) (lawful : IsLawful z) (m : Machine) → IsSound z m → (block : ℕ)
    → first_of z block + z.block_words ≤ z.words
    → MayMiss z m block → FetchedBy z m block (fetched_machine z m block)
unfolding fetched fetches
fetch_ok z lawful m h block in_memory may = go _ refl
  where
    go : (o : Option ℕ) → frame_of m.cache block ≡ o → FetchedBy z m block (fetched_machine z m block)
    go (Some k) e = grind arith
    go None e =
        let miss = misses z _ h.unit block e (may_able z m block may (ap is_some e)) in
        let is = ap (all_sent m.banks) miss.sent in
        let unit = fetch-kept z (room_in z.bank_queue m.banks) m.cache block h.unit in_memory (may_be_present z m block may) in
        let at = fetched_at z m h block may in
        record {
          sound = rw (sym is) at (with_block_sound z lawful m h block e in_memory miss unit (rw is at at));
          same = rw (sym is) at (with_block_same z lawful m h block e in_memory miss);
          same_tags = same_tags z lawful m h block e in_memory miss;
        }

-- the block is present then, with all its words
pub fetched_hit : (z : Sizes) (m : Machine) → IsSound z m → (block : ℕ)
    → (is_present m.cache block ≡ false → Able z m.cache block) → Hit z (fetched z m.cache block) block
fetched_hit z m h block able =
    let f = fetched-by z _ h.unit block able in
    record { frame = f.frame; present = f.present; cells = f.cells; fields = f.fields }

-- ---- Loads, stores, prefetches and evictions.

-- ---- memory as a list

pub mem_length : (z : Sizes) (m : Machine) → length (flat_of z m).mem ≡ z.words
mem_length z m = length-map-range_with_len _ 0 _

pub mem_at : (z : Sizes) (m : Machine) (at : ℕ) → at < z.words → word_at (flat_of z m).mem at ≡ flat_word z m at
mem_at z m at l = grind (arith, range_at)

-- a list made from numbers, of which one has another value
range_set : (f g : ℕ → Word) (a n k : ℕ) → ((j : ℕ) → (j ≡ a + k → ⊥) → g j ≡ f j) → k < n
    → map g (range_with_len a n) ≡ set (map f (range_with_len a n)) k (g (a + k))
range_set f g a zero k others l = absurd (omega arith)
range_set f g a (suc n) zero others l = cc (add-zero a, rest (a + 1) n (omega arith))
  where
    rest : (b c : ℕ) → a < b → map g (range_with_len b c) ≡ map f (range_with_len b c)
    rest b zero q = refl
    rest b (suc c) q = cc (others b (λ e. omega arith), rest (b + 1) c (omega arith))
range_set f g a (suc n) (suc k) others l =
    let e : a + 1 + k ≡ a + suc k = omega arith in
    cc (others a (λ q. omega arith), range_set f g (a + 1) n k (λ j ne. others j (λ q. ne (q ∙ sym e))) (omega arith), e)

-- ---- refusals

-- a step that is refused changes nothing
unless_kept : (z : Sizes) (m : Machine) (event : Event) (step : Stepped) (cause : Option Cause) → IsSound z m
    → parts.IsSound z (unless cause m.cache step).cache
    → ((c : Cause) → cause ≡ Some c → flat_step (flat_of z m) event (Refused c) ≡ Some (flat_of z m))
    → (cause ≡ None → parts.IsSound z step.cache → KeptBy z m event (joined_with m.banks step))
    → KeptBy z m event (joined_with m.banks (unless cause m.cache step))
unless_kept z m event step None h unit refused go_on = go_on refl unit
unless_kept z m event step (Some c) h unit refused go_on = record { sound = h; run = refused c refl }

-- ---- tags

-- a tag is in use where it is owed a word
pub flat_in_use : (m : Machine) (tag : ℕ) → not (is_none (flat_due m tag)) ≡ is_in_use m.cache tag
unfolding due_in
flat_in_use m tag = ap (λ o. not (is_none (option_map (filled_by (all_pending m.banks)) o))) (owed-due _ tag) ∙ owing _
    ∙ sym (any-find _ (dues m.cache)) ∙ sym (list_any-map (λ t. t == tag) (λ (d : Due). d.tag) _)
    ∙ ap (list_any (λ t. t == tag)) (tags-dues m.cache)
  where
    owing : (o : Option Due) → not (is_none (option_map (filled_by (all_pending m.banks)) (option_map (λ (d : Due). d.form) o))) ≡ is_some o
    owing o = grind arith

    any-find : {X : Type 0} (p : X → Bool) (xs : List X) → list_any p xs ≡ is_some (find p xs)
    any-find p [] = refl
    any-find p (x ∷ xs) = grind (arith, any-find p xs)

-- ---- the causes of a miss

-- a block is in memory where one of its words is
pub lies_in : (z : Sizes) → IsLawful z → (at : ℕ) → at < z.words → first_of z (block_of z at) + z.block_words ≤ z.words
lies_in z lawful at l = grind arith

-- ---- requests

module _ (z : Sizes) (lawful : IsLawful z) (m : Machine) (h : IsSound z m) where
  -- ---- loads

  accept_load : (tag at : ℕ) → at < z.words → is_in_use m.cache tag ≡ false → (m2 : Machine) → FetchedBy z m (block_of z at) m2
      → Hit z m2.cache (block_of z at) → parts.IsSound z (loaded m2.cache tag (place_in z at) (cell_of m2.cache (block_of z at)
      (place_in z at)).word (found m2.cache (block_of z at) (place_in z at))) → KeptBy z m (Load tag at) (record {
        answer = Accepted;
        machine = record {
          cache = loaded m2.cache tag (place_in z at) (cell_of m2.cache (block_of z at) (place_in z at)).word
              (found m2.cache (block_of z at) (place_in z at));
          banks = m2.banks;
        };
      })
  accept_load tag at l unused m2 f hit unit =
      let c = m2.cache in
      let ps = all_pending m2.banks in
      let none = ap (tally (λ t. t == tag)) f.same_tags ∙ none-counted (λ t. t == tag) _ unused in
      let by = loaded-by z lawful.some_words c tag at hit (dues-tally c tag ∙ none) in
      let m3 : Machine = record {
        cache = loaded c tag _ (cell_of c _ _).word
            _;
        banks = m2.banks;
      } in
      let back : (a : ℕ) → backing z m3 a ≡ backing z m2 a = λ a. (cc by.beside.queue) in
      let words : (a : ℕ) → flat_word z m3 a ≡ flat_word z m2 a = λ a. word_same z m2 m3 a (by.words a) refl (back a) in
      let form = form_present z c at hit.frame hit.present in
      let gained : (t : ℕ) → flat_due m3 t ≡ with_due (flat_due m) tag (Some (word_at (flat_of z m).mem at)) t =
      λ t. grind (arith, by.owing t, form, flat_word-form z m2 at, f.same.words at, mem_at z m at l, f.same.owing t) in
      let after : flat_after _ (Load tag at) Accepted ≡ flat_of z m3 =
      λ i. record { mem = map (λ a. sym (words a ∙ f.same.words a) i) (range_with_len 0 z.words); due = λ t. sym (gained t) i } in
      record {
        sound = sound_unit z m2 _ f.sound unit (like_loaded c tag _ _ _) (counted_beside z m2 _ f.sound by.beside)
            (λ a. kept_same z m2 m3 f.sound a (words a) (cell_frames c m3.cache by.frames _ _) (back a));
        run = ap (λ b. cond b (Some (flat_after (flat_of z m) (Load tag at) Accepted)) None) (ap₂ (λ x y. nat_lt at x && y) (mem_length z m)
            (not-false _ (flat_in_use m tag ∙ unused)) ∙ ap (λ b. b && true) (lt-ltb at z.words l)) ∙ ap Some after;
      }

  load_refused : (x y v : Bool) (o : Option Cause) (c : Cause)
      → cond (not x) (Some OutOfRange) (cond y (Some TagInUse) (cond v (Some RepliesFull) o)) ≡ Some c
      → (o ≡ Some c → is_of_a_load c ≡ true) → load_refusals x y c ≡ true
  load_refused x y v o c e h = grind arith

  later_refused : (b t n p q r : Bool) (c : Cause) → first_cause (cond b ((t, TargetsFull) ∷ [])
      ((n, NoRegister) ∷ (p, SetPending) ∷ (q, QueueFull) ∷ (r, BankFull) ∷ [])) ≡ Some c → is_of_a_load c ≡ true
  later_refused b t n p q r c e = grind arith

  abbrev later : ℕ → Option Cause
  later at = first_cause (cond (is_present m.cache (block_of z at))
      ((targets_full m.cache (place_in z at) (found m.cache (block_of z at) (place_in z at)), TargetsFull) ∷ [])
      (miss_causes z (room_in z.bank_queue m.banks) m.cache (block_of z at)))

  pub load_ok : (tag at : ℕ) → Kept z m (Load tag at)
  unfolding load_step load_cause
  load_ok tag at = unless_kept z m _ _ (load_cause z (room_in z.bank_queue m.banks) m.cache tag at) h
      ((each_step_keeps z _ h.unit).request (room_in z.bank_queue m.banks) (request.Load tag at)) (λ c e.
      let refused = load_refused (nat_lt at z.words) _ _ (later at) c e
      (λ q. later_refused (is_present m.cache (block_of z at)) _ _ _ _ _ c q) in
      cc (mem_length z m, flat_in_use m tag, refused)) (λ e unit.
      let may : MayMiss z m (block_of z at) = λ absent. grind arith in
      accept_load tag at (grind (arith, ltb-true)) (grind arith) _
      (fetch_ok z lawful m h _ (lies_in z lawful at (grind (arith, ltb-true))) may) (fetched_hit z m h _ (may_able z m _ may)) unit)

  -- ---- stores

  accept_store : (at : ℕ) (word : Word) (lanes : Lanes) → at < z.words → has_any lanes ≡ true → (m2 : Machine)
      → FetchedBy z m (block_of z at) m2 → Hit z m2.cache (block_of z at)
      → parts.IsSound z (written m2.cache (block_of z at) (place_in z at) word lanes) → KeptBy z m (Store at word lanes) (record {
        answer = Accepted;
        machine = record { cache = written m2.cache (block_of z at) (place_in z at) word lanes; banks = m2.banks };
      })
  accept_store at word lanes l any m2 f hit unit =
      let c = m2.cache in
      let ps = all_pending m2.banks in
      let by = stored-by z lawful.some_words c at hit word lanes in
      let m3 : Machine = record { cache = written c _ _ word lanes; banks = m2.banks } in
      let back : (a : ℕ) → backing z m3 a ≡ backing z m2 a = λ a. (cc by.beside.queue) in
      let over = option_map _ _ in
      let others : (a : ℕ) → (a ≡ at → ⊥) → flat_word z m3 a ≡ flat_word z m2 a =
      λ a n. word_same z m2 m3 a (by.words a ∙ ap (λ b. cond b over (form_at z c a)) (ne_eqb a at n)) refl (back a) in
      let form = form_present z c at hit.frame hit.present in
      let there : flat_word z m3 at ≡ merged (flat_word z m2 at) word lanes =
      grind (arith, flat_word-form z m3 at, flat_word-form z m2 at, by.words at, eq-eqb, form, filled-over ps lanes word) in
      let old = cell_of c (block_of z at) (place_in z at) in
      let kept_at : flat_word z m3 at ≡ kept_word z m3 at =
      grind (arith, there, f.sound.kept at, merged_over (backing z m2 at) old.word word old.dirty lanes, by.cell, back at) in
      let kept : (a : ℕ) → flat_word z m3 a ≡ kept_word z m3 a = λ a. ⊎_elim (λ e. rw e kept_at)
      (λ n. kept_same z m2 m3 f.sound a (others a n) (by.cells a n) (back a)) (cases_eq a at) in
      let mem_other : (j : ℕ) → (j ≡ 0 + at → ⊥) → flat_word z m3 j ≡ flat_word z m j =
      λ j n. others j (λ q. n (q ∙ sym (zero-add at))) ∙ f.same.words j in
      let mem : (flat_of z m3).mem ≡ set (flat_of z m).mem at (merged (word_at (flat_of z m).mem at) word lanes) =
      cc (range_set (flat_word z m) (flat_word z m3) 0 z.words at mem_other l, zero-add at, there, f.same.words at, mem_at z m at l) in
      let owing : (t : ℕ) → flat_due m3 t ≡ flat_due m t = λ t. (cc (by.owing t, f.same.owing t)) in
      let after : flat_after _ (Store at word lanes) Accepted ≡ flat_of z m3 =
      λ i. record { mem = sym mem i; due = λ t. sym (owing t) i } in
      record {
        sound = sound_unit z m2 _ f.sound unit (like_written c _ _ word lanes) (counted_beside z m2 _ f.sound by.beside) kept;
        run = grind (arith, after, mem_length z m, any, lt-ltb);
      }

  pub store_ok : (at : ℕ) (word : Word) (lanes : Lanes) → Kept z m (Store at word lanes)
  unfolding store_step store_cause
  store_ok at word lanes = unless_kept z m _ _ (store_cause z (room_in z.bank_queue m.banks) m.cache at lanes) h
      ((each_step_keeps z _ h.unit).request (room_in z.bank_queue m.banks) (request.Store at word lanes))
      (λ c e. grind (arith, mem_length)) (λ e unit.
      let may : MayMiss z m (block_of z at) = λ absent. grind arith in
      accept_store at word lanes (grind (arith, ltb-true)) (grind arith) _
      (fetch_ok z lawful m h _ (lies_in z lawful at (grind (arith, ltb-true))) may) (fetched_hit z m h _ (may_able z m _ may)) unit)

  -- ---- prefetches

  pub prefetch_ok : (at : ℕ) → Kept z m (Prefetch at)
  unfolding prefetch_step prefetch_cause
  prefetch_ok at = unless_kept z m _ _ (prefetch_cause z (room_in z.bank_queue m.banks) m.cache at) h
      ((each_step_keeps z _ h.unit).request (room_in z.bank_queue m.banks) (request.Prefetch at))
      (λ c e. grind (arith, mem_length)) (λ e unit.
      let may : MayMiss z m (block_of z at) = λ absent. grind arith in
      let l : at < z.words = grind (arith, ltb-true) in
      let f = fetch_ok z lawful m h _ (lies_in z lawful at l) may in
      record { sound = f.sound; run = grind (arith, mem_length, lt-ltb, flat_of-same) })

  -- ---- evictions

  pub evict_ok : (block : ℕ) → Kept z m (Evict block)
  unfolding evict_step evict_cause evicted released
  evict_ok block = unless_kept z m _ _ (evict_cause z m.cache block) h ((each_step_keeps z _ h.unit).evict block) (λ c e. grind arith)
      (λ e unit. accept _ refl (grind arith) unit)
    where
      accept : (o : Option ℕ) → frame_of m.cache block ≡ o → is_some o ≡ true → parts.IsSound z (evicted_from z m.cache block o)
          → KeptBy z m (Evict block) (record {
            answer = Accepted;
            machine = record { cache = evicted_from z m.cache block o; banks = m.banks };
          })
      accept None e some unit = cc
      accept (Some f) e some unit =
          record {
            sound = gone_sound z m h block f e unit;
            run = flat_of-same z m _ (gone_same z m h block f e);
          }

-- ---- The opening machine, and a settled one.

quiet : (g : ℕ → List Word) (ks : List ℕ) (most b : ℕ)
    → length (bank_at (map (λ k. record { words = g k; queue = []; answers = [] }) ks) b).queue ≤ most
quiet g [] most b = omega arith
quiet g (k ∷ ks) most zero = omega arith
quiet g (k ∷ ks) most (suc b) = quiet g ks most b

no_targets : (n k : ℕ) → gathered targets_of k (replicate n free_register) ≡ []
no_targets zero k = refl
no_targets (suc n) k = no_targets n _

no_pending : (g : ℕ → Bank) (ks : List ℕ) → ((k : ℕ) → pending (g k) ≡ []) → flat_map pending (map g ks) ≡ []
no_pending g [] h = refl
no_pending g (k ∷ ks) h = ap₂ ◌++◌ (h k) (no_pending g ks h)

module _ (z : Sizes) (lawful : IsLawful z) (image : List Word) (fits : length image ≡ z.words) where
  abbrev m0 : Machine
  m0 = opening z image

  abbrev bank_of : ℕ → Bank
  bank_of b = record { words = share_of image z.banks b; queue = []; answers = [] }

  empty_frames : (k : ℕ) → frame_at m0.cache k ≡ empty_frame
  empty_frames k = replicate-each _ k empty_frame

  free_registers : (t : ℕ) → register_at m0.cache t ≡ free_register
  free_registers t = replicate-each _ t free_register

  no_block : (k b : ℕ) → (frame_at m0.cache k).block ≡ Some b → ⊥
  no_block k b e = grind (arith, empty_frames)

  absent : (b : ℕ) → frame_of m0.cache b ≡ None
  absent b = frame_of-none m0.cache b (λ k e. no_block k b e)

  bank_is : (b : ℕ) → b < z.banks → bank_at m0.banks b ≡ bank_of b
  bank_is b l = range_at bank_of no_bank 0 _ b l ∙ ap bank_of (zero-add b)

  -- the place of an address lies in its bank's share
  place_there : (at : ℕ) → at < z.words → at / z.banks < (length image + z.banks - 1 - at % z.banks) / z.banks
  place_there at l = grind arith

  share_length : (at : ℕ) → length (bank_of (at % z.banks)).words ≡ (length image + z.banks - 1 - at % z.banks) / z.banks
  share_length at = length-map-range_with_len (λ k. word_at image _) 0 _

  word_there : (at : ℕ) → at < z.words → word_at (words_after (bank_at m0.banks (at % z.banks))) (at / z.banks) ≡ word_at image at
  word_there at l = grind (arith, bank_is, mod-lt, range_at, place_there, zero-add, div-add-mod')

  opening_word : (at : ℕ) → flat_word z m0 at ≡ backing z m0 at
  opening_word at = ap (flat_word_in z m0 at) (absent _)

  pub opening_idle : all_pending m0.banks ≡ []
  opening_idle = no_pending bank_of (range_with_len 0 z.banks) (λ k. refl)

  pub sound_opening : IsSound z m0
  sound_opening = record {
    unit = IsSound-opening z lawful.some_words lawful.whole_blocks lawful.some_sets;
    counted = λ s i. (cc (opening_idle, free_registers s));
    kept = λ at. (cc (opening_word at, merged-none (backing z m0 at) zero_word, absent (block_of z at)));
    at_its_bank = λ b s i l. absurd (omega (arith, pending_part (is_for s i) m0.banks b, ap (tally (is_for s i)) opening_idle));
    few_commands = quiet _ _ z.bank_queue;
    banks_are = length-map-range_with_len bank_of 0 _;
    banks_hold = λ at l. grind (arith, bank_is, mod-lt, share_length, place_there);
  }

  pub flat_opening : flat_of z m0 ≡ record { mem = image; due = λ tag. None }
  unfolding targets
  flat_opening =
      let mem = ext_get_or zero_word (flat_of z m0).mem image (mem_length z m0 ∙ sym fits)
      (λ k l. grind (arith, mem_length z m0, mem_at, opening_word, word_there)) in
      let due : (tag : ℕ) → flat_due m0 tag ≡ None = λ tag. (cc (no_targets z.regs 0)) in
      λ i. record { mem = mem i; due = λ tag. due tag i }

-- ---- settled machines

all_at : {X : Type 0} (p : X → Bool) (d : X) (xs : List X) (k : ℕ) → p d ≡ true → list_all p xs ≡ true → p (get_or xs k d) ≡ true
all_at p d [] k hd h = hd
all_at p d (x ∷ xs) zero hd h = grind arith
all_at p d (x ∷ xs) (suc k) hd h = all_at p d xs k hd (and_parts (p x) _ h).1

pub nil_from : {X : Type 0} (xs : List X) → is_empty xs ≡ true → xs ≡ []
nil_from [] e = refl
nil_from (x ∷ xs) e = cc

pub settled_ok : (z : Sizes) (m : Machine) → IsSound z m → settled m ≡ true → (at : ℕ) → at < z.words
    → bank_word z m at ≡ word_at (flat_of z m).mem at
settled_ok z m h s at l =
    let r = and_parts _ (list_all (λ (b : Bank). is_empty b.queue) m.banks) s in
    let p = and_parts (list_all (λ (x : Register). not x.valid) m.cache.registers) _ r.0 in
    let q = and_parts (list_all (λ (f : Frame). list_all (λ (cell : Cell). not _) f.cells) m.cache.directory.frames) _ p.1 in
    let bank = nil_from _ (all_at (λ (b : Bank). is_empty b.queue) no_bank m.banks (at % z.banks) refl r.1) in
    (cc (
      mem_at z m at l,
      h.kept at,
      merged_no_lane (backing z m at) _ _ (by_frame (frame_of m.cache (block_of z at)) q.0),
      nil_from _ q.1,
      bank,
    ))
  where
    by_frame : (o : Option ℕ) → list_all (λ (f : Frame). list_all (λ (cell : Cell). not (has_any cell.dirty)) f.cells)
        m.cache.directory.frames ≡ true → has_any (cell_in m.cache o (place_in z at)).dirty ≡ false
    by_frame None e = grind (arith, has-none)
    by_frame (Some f) e = grind (arith, not-true, all_at, m.cache, has-none)
