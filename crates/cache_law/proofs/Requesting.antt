-- Requests: what a missing block gets, what they make of the forms, and their causes in their order.
use Rattle.std.proofs.Common.{◌≡◌, ℕ, ◌*◌, ◌<◌, Bool, true, false, cond, not, ◌==◌, List, [], ◌∷◌, ◌++◌}
use Rattle.std.proofs.Common.{length, set, Option, Some, None, filter, is_some, is_none, refl, sym, ap, ◌∙◌, arith}
use Rattle.std.proofs.Common.{map, ap₂, nat_lt, nat_le}
use Rattle.std.specs.List.{list_all, list_any}
use Rattle.std.proofs.lemmas.List.{set-set}
use Rattle.write_queue.specs.declared.Queued.{Queued}
use Rattle.cache_law.specs.Begun.{begun_frame, begun_register}
use Rattle.cache_law.specs.declared.Sizes.{Sizes}
use Rattle.cache_law.specs.State.{Register, Cache, empty_frame, frame_of, is_present, register_at, is_live, live_for, is_pending}
use Rattle.cache_law.specs.State.{free_slot, Target, cell_of, block_of, place_in, field_at, tags}
use Rattle.cache_law.specs.Causes.{choose, ways_of, dirty_words, first_cause, miss_causes, is_in_use, found, load_cause}
use Rattle.cache_law.specs.Causes.{store_cause, prefetch_cause, evict_cause, lacks_places, targets_full}
use Rattle.cache_law.specs.Steps.{released, installed, reads, fetched, fetches, unless, loaded, written, load_step, store_step}
use Rattle.cache_law.specs.Steps.{prefetch_step, request_step, Stepped, evict_step, evicted_from}
use Rattle.cache_law.specs.FormLaws.{missed_words, fetched_words, LoadForms, StoreForms, PrefetchForms, RequestForms}
use Rattle.cache_law.specs.Sound.{IsSound}
use Rattle.cache_law.proofs.Choosing.{choose_none, chosen_there}
use Rattle.cache_law.proofs.Lists.{frame-comes, frame_of-some, none_in_frames, live_for-some}
use Rattle.cache_law.proofs.FormsWords.{FetchedBy, installed-by, MissedBy, missed-by, Hit, stored-by, loaded-by}
use Rattle.miss_registers.proofs.Places.{free_slot-found}
use Rattle.cache_law.proofs.Choosing.{register-test}
use Rattle.flat_model.specs.declared.Word.{Word}
use Rattle.flat_model.specs.declared.Lanes.{Lanes}
use Rattle.flat_model.specs.declared.Cause.{Cause}
use Rattle.flat_model.specs.declared.Cause.TheVariants.{OutOfRange, NoLanes, TagInUse, RepliesFull, NotPresent}
use Rattle.flat_model.specs.declared.Cause.TheVariants.{QueueFull, TargetsFull}
use Rattle.flat_model.specs.declared.Answer.TheVariants.{Accepted, Refused}
use Rattle.memory_banks.specs.declared.Command.{Command}
use Rattle.cache_law.specs.declared.Request.{Request}
use Rattle.cache_law.specs.declared.Request.TheVariants.{Load, Store, Prefetch}
use Rattle.cache_law.specs.Forms.{owed}
use Rattle.cache_law.specs.Counts.{tally}
use Rattle.cache_law.proofs.FormsEvents.{dues-tally, owed-same, forms-from, drain_forms, arrive_forms, take_forms, evict_forms}
use Rattle.flat_model.specs.Words.{has_any}
use Rattle.cache_law.specs.Requests.{absence_cause, is_full_for, load_answer, load_present}
use Rattle.cache_law.specs.UnitForms.{EachStepMakesForms}
use Rattle.cache_law.proofs.FormsProcessing.{process_forms}
use Rattle.miss_registers.specs.Registers as regs
use Rattle.cache_directory.specs.Frames as dir

-- ---- The frame and the register that are chosen for a missing block.

pub free_register_at : (c : Cache) (slot : ℕ) → free_slot c ≡ Some slot → (slot < length c.registers) × ((register_at c slot).valid ≡ false)
unfolding regs.free_slot
free_register_at c slot e = free_slot-found c.registers slot e

-- ---- what the causes leave

-- not every register is valid, and not every way is pending
abbrev pub Able : Sizes → Cache → ℕ → Type 0
Able z c block = ((length (filter (λ r. r.valid) c.registers) == z.regs) ≡ false) × (list_all (is_pending c) (ways_of z block) ≡ false)

-- ---- the block is fetched

-- a missing block with the frame and the register that are chosen for it
module _ (z : Sizes) (c : Cache) (h : IsSound z c) (block f slot : ℕ) (absent : frame_of c block ≡ None)
    (ef : choose z c block ≡ Some f) (es : free_slot c ≡ Some slot) where
  queue_then : List Queued
  queue_then = c.queue ++ dirty_words z c (Some f)

  orders_then : List (List ℕ)
  orders_then = (installed z (released z c f) block f slot).directory.orders

  free : (slot < length c.registers) × ((register_at c slot).valid ≡ false)
  free = free_register_at c slot es

  -- the frame is cleared, and then taken
  taken_is : installed z (released z c f) block f slot ≡ record {
    directory = record { frames = set c.directory.frames f (begun_frame z.block_words queue_then block); orders = orders_then };
    registers = set c.registers slot (begun_register z.block_words queue_then block f);
    stack = c.stack;
    queue = queue_then;
    ready = c.ready;
  }
  unfolding installed released dir.released queue_then orders_then
  taken_is = grind (arith, orders_then, queue_then, set-set)

  pub fetched_is : fetched z c block ≡ installed z (released z c f) block f slot
  unfolding fetched
  fetched_is = grind arith

  miss-parts : MissedBy z c block f slot (installed z (released z c f) block f slot)
  unfolding queue_then
  miss-parts = rw (sym taken_is) at (missed-by z c h block f slot absent (chosen_there z c h block f ef).there free.0 free.1
      orders_then)

  miss-fetched : FetchedBy z c block (installed z (released z c f) block f slot)
  unfolding queue_then
  miss-fetched = rw (sym taken_is) at (installed-by z c h block f slot absent (chosen_there z c h block f ef).there free.0
      free.1 orders_then _ refl words)
    where
      words : fetched_words z c block ≡ missed_words z c block (Some f) (Some slot)
      words = grind arith

-- a missing block that a frame and a register are found for, and what its fetch makes of the unit
pub record Misses (z : Sizes) (c : Cache) (block : ℕ) : Type 0 where
  pub frame : ℕ
  pub slot : ℕ
  pub invalid : (register_at c slot).valid ≡ false
  pub sent : fetches z c block ≡ reads z block (Some slot)
  pub is : fetched z c block ≡ installed z (released z c frame) block frame slot
  pub by : MissedBy z c block frame slot (fetched z c block)
  pub fetched_by : FetchedBy z c block (fetched z c block)

pub misses : (z : Sizes) (c : Cache) → IsSound z c → (block : ℕ) → frame_of c block ≡ None → Able z c block → Misses z c block
unfolding fetches
misses z c h block absent able =
    go _ refl (choose_none z c h block ∙ able.1) _ refl (sym (register-test c z.regs h.registers.registers_there) ∙ able.0)
  where
    go : (o : Option ℕ) → choose z c block ≡ o → is_none o ≡ false → (s : Option ℕ) → free_slot c ≡ s → is_none s ≡ false → Misses z c block
    go None ef p s es q = cc
    go (Some f) ef p None es q = cc
    go (Some f) ef p (Some slot) es q =
        let free = free_register_at c slot es in
        let is = fetched_is z c h block f slot absent ef es in
        record {
          frame = f;
          slot = slot;
          invalid = free.1;
          sent = cc (absent, es);
          is = is;
          by = rw (sym is) at (miss-parts z c h block f slot absent ef es);
          fetched_by = rw (sym is) at (miss-fetched z c h block f slot absent ef es);
        }

pub fetched-by : (z : Sizes) (c : Cache) → IsSound z c → (block : ℕ) → (is_present c block ≡ false → Able z c block)
    → FetchedBy z c block (fetched z c block)
unfolding fetched
fetched-by z c h block able = go _ refl
  where
    there : (k : ℕ) → frame_of c block ≡ Some k → FetchedBy z c block c
    there k e = record {
      waits = grind arith;
      words = λ at. rw e;
      same_targets = refl;
      same_ready = refl;
      same_stack = refl;
      frame = k;
      present = e;
      cells = h.directory.cells k block (frame_of-some _ block k e).1;
      fields = λ s l. (h.registers.each s).fields_there (valid_from (register_at c s) (live_for-some c block s l).0);
    }
      where
        valid_from : (r : Register) → is_live r ≡ true → r.valid ≡ true
        valid_from r l = grind arith

    go : (o : Option ℕ) → frame_of c block ≡ o → FetchedBy z c block (fetched z c block)
    go (Some k) e = rw (ap is_some e) (there k e)
    go None e = (misses z c h block e (able (ap is_some e))).fetched_by

-- a block that is fetched lies in the frame that was chosen for it
pub fetched_frame : (z : Sizes) (c : Cache) → IsSound z c → (block f slot : ℕ) → frame_of c block ≡ None → choose z c block ≡ Some f
    → free_slot c ≡ Some slot → frame_of (fetched z c block) block ≡ Some f
unfolding fetched installed released dir.released
fetched_frame z c h block f slot absent ef es = cc (
  fetched_is z c h block f slot absent ef es,
  frame-comes c (installed z (released z c f) block f slot) f _ block frames
      (chosen_there z c h block f ef).there refl (λ k e. absurd (none_in_frames c block absent k e)),
)
  where
    queue : List Queued
    queue = c.queue ++ dirty_words z c (Some f)

    frames : (installed z (released z c f) block f slot).directory.frames ≡ set c.directory.frames f (begun_frame z.block_words queue block)
    frames = set-set _ f empty_frame _

-- ---- What a request makes of the forms.

-- ---- where there is no cause

no-cause : (b : Bool) (k : Cause) (o : Option Cause) → cond b (Some k) o ≡ None → (b ≡ false) × (o ≡ None)
no-cause true k o e = cc
no-cause false k o e = (refl, e)

-- a missing block meets the causes of a miss
pub missing : (z : Sizes) (room : ℕ → ℕ) (c : Cache) (block : ℕ) (here : List (Bool × Cause))
    → first_cause (cond (is_present c block) here (miss_causes z room c block)) ≡ None → is_present c block ≡ false → Able z c block
missing z room c block here e q = grind (arith, no-cause)

pub none-counted : (p : ℕ → Bool) (xs : List ℕ) → list_any p xs ≡ false → tally p xs ≡ 0
none-counted p [] e = refl
none-counted p (x ∷ xs) e = grind (arith, none-counted p xs)

-- ---- after the fetch

module _ (z : Sizes) (c : Cache) (h : IsSound z c) (at : ℕ) (d : Cache) (fetch : FetchedBy z c (block_of z at) d) where
  there : Hit z d (block_of z at)
  there = record { frame = fetch.frame; present = fetch.present; cells = fetch.cells; fields = fetch.fields }

  same_owed : (tag : ℕ) → owed d tag ≡ owed c tag
  same_owed = owed-same c d fetch.same_ready fetch.same_targets fetch.same_stack

  prefetch-ok : PrefetchForms z c at d
  prefetch-ok = record { present = ap is_some fetch.present; after = forms-from z d _ _ fetch.words same_owed }

  store-ok : (word : Word) (lanes : Lanes) → StoreForms z c at word lanes (written d (block_of z at) (place_in z at) word lanes)
  store-ok word lanes =
      let s = stored-by z h.some_words d at there word lanes in
      record {
        present = ap is_some s.present;
        after = forms-from z (written d _ _ word lanes) _ _ (λ a. (cc (s.words a, fetch.words at, fetch.words a)))
            (λ tag. s.owing tag ∙ same_owed tag);
      }

  load-ok : (tag : ℕ) → is_in_use c tag ≡ false
      → LoadForms z c tag at (loaded d tag (place_in z at) (cell_of d (block_of z at) (place_in z at)).word
      (found d (block_of z at) (place_in z at)))
  load-ok tag unused =
      let same = ap₂ (λ r (t : List Target). map (λ x. x.tag) r ++ map
      (λ x. x.load.tag) t) fetch.same_ready fetch.same_targets in
      let fresh = dues-tally d tag ∙ ap (tally (λ t. t == tag)) same ∙ none-counted (λ t. t == tag) _ unused in
      let l = loaded-by z h.some_words d tag at there fresh in
      record {
        present = ap is_some l.present;
        after = forms-from z (loaded d tag _ (cell_of d _ _).word _) _ _ (λ a. l.words a ∙ fetch.words a)
            (λ t. (cc (l.owing t, fetch.words at, same_owed t)));
      }

-- ---- the steps

-- a refusal changes nothing
unless-ok : (z : Sizes) (c : Cache) (request : Request) (o : Option Cause) (d : Cache) (sent : List (ℕ × Command))
    → (o ≡ None → RequestForms z c request Accepted d)
    → RequestForms z c request (unless o c (record { answer = Accepted; cache = d; sent = sent })).answer
    (unless o c (record { answer = Accepted; cache = d; sent = sent })).cache
unfolding RequestForms
unless-ok z c (Load tag at) (Some cause) d sent ok = refl
unless-ok z c (Store at word lanes) (Some cause) d sent ok = refl
unless-ok z c (Prefetch at) (Some cause) d sent ok = refl
unless-ok z c request None d sent ok = ok refl

module _ (z : Sizes) (room : ℕ → ℕ) (c : Cache) (h : IsSound z c) where
  pub request_forms : (request : Request) → RequestForms z c request (request_step z room c request).answer
      (request_step z room c request).cache
  unfolding RequestForms load_step store_step prefetch_step load_cause store_cause prefetch_cause
  request_forms (Load tag at) = unless-ok z c (Load tag at) _ _ _ (λ e.
      let q = no-cause _ TagInUse _ (no-cause _ OutOfRange _ e).1 in
      load-ok z c h at _ (fetched-by z c h _ (missing z room c _ _ (no-cause _ RepliesFull _ q.1).1)) tag q.0)
  request_forms (Store at word lanes) = unless-ok z c (Store at word lanes) _ _ _ (λ e.
      store-ok z c h at _
      (fetched-by z c h _ (missing z room c _ _ (no-cause _ NoLanes _ (no-cause _ OutOfRange _ e).1).1)) word lanes)
  request_forms (Prefetch at) = unless-ok z c (Prefetch at) _ _ _ (λ e.
      prefetch-ok z c h at _ (fetched-by z c h _ (missing z room c _ _ (no-cause _ OutOfRange _ e).1)))

-- ---- What an eviction answers and leaves.

-- a refusal leaves everything unchanged
abbrev pub refused : Cause → Cache → Stepped
refused cause c = record { answer = Refused cause; cache = c; sent = [] }

pub evict_by : (z : Sizes) (c : Cache) (block : ℕ) (a : Bool) (o : Option ℕ) (b : Bool)
    → nat_lt (block * z.block_words) z.words ≡ a → frame_of c block ≡ o → lacks_places z c o ≡ b
    → evict_step z c block ≡ unless (first_cause ((not a, OutOfRange) ∷ (not (is_some o), NotPresent) ∷ (b, QueueFull) ∷ [])) c
    (record { answer = Accepted; cache = evicted_from z c block o; sent = [] })
unfolding evict_step evict_cause
evict_by z c block a o b e f g = grind arith

-- ---- Requests, by their causes.

-- ---- the block

pub present_cause : (z : Sizes) (room : ℕ → ℕ) (c : Cache) (block : ℕ) → is_present c block ≡ true → absence_cause z room c block ≡ None
present_cause z room c block e = rw e

pub absent_cause : (z : Sizes) (room : ℕ → ℕ) (c : Cache) (block : ℕ) (o : Option Cause) → is_present c block ≡ false
    → first_cause (miss_causes z room c block) ≡ o → absence_cause z room c block ≡ o
absent_cause z room c block o e k = cc (e, k)

pub present_fetched : (z : Sizes) (c : Cache) (block : ℕ) → is_present c block ≡ true → fetched z c block ≡ c
unfolding fetched
present_fetched z c block e = rw e

pub present_fetches : (z : Sizes) (c : Cache) (block : ℕ) → is_present c block ≡ true → fetches z c block ≡ []
unfolding fetches
present_fetches z c block e = rw e

-- what is owed stays as it was
pub tags_kept : (z : Sizes) (room : ℕ → ℕ) (c : Cache) (block : ℕ) → IsSound z c → absence_cause z room c block ≡ None
    → tags (fetched z c block) ≡ tags c
tags_kept z room c block h e =
    let by = fetched-by z c h block (missing z room c block [] e) in
    rw (by.same_ready, by.same_targets)

-- where no load waits for a block's word, one more may
targets_free : (c : Cache) (block i : ℕ) → ((s : ℕ) → live_for c block ≡ Some s → (j : ℕ) → (field_at c s j).waiting ≡ [])
    → targets_full c i (found c block i) ≡ false
targets_free c block i h = grind arith

pub targets_kept : (z : Sizes) (room : ℕ → ℕ) (c : Cache) (block : ℕ) → IsSound z c → absence_cause z room c block ≡ None → (i : ℕ)
    → is_full_for c block i ≡ false → targets_full (fetched z c block) i (found (fetched z c block) block i) ≡ false
targets_kept z room c block h e i full =
    grind (arith, present_fetched, targets_free, (fetched-by z c h block (missing z room c block [] e)).waits)

-- ---- the causes in their order

abbrev load_tests : Bool → Bool → Bool → Option Cause → Option Cause
load_tests a b k rest = cond a (Some OutOfRange) (cond b (Some TagInUse) (cond k (Some RepliesFull) rest))

abbrev store_tests : Bool → Bool → Option Cause → Option Cause
store_tests a b rest = cond a (Some OutOfRange) (cond b (Some NoLanes) rest)

module _ (z : Sizes) (room : ℕ → ℕ) (c : Cache) (at : ℕ) where
  -- the word's block, and its place there
  abbrev own_block : ℕ
  own_block = block_of z at

  abbrev place : ℕ
  place = place_in z at

  abbrev Inside : Type 0
  Inside = not (nat_lt at z.words) ≡ false

  abbrev absence : Option Cause
  absence = absence_cause z room c own_block

  abbrev is_full : Bool
  is_full = is_full_for c own_block place

  abbrev owes_all : Bool
  owes_all = nat_le z.replies (length (tags c))

  abbrev load_last : Option Cause
  load_last = first_cause (cond (is_present c own_block)
      ((targets_full c place (found c own_block place), TargetsFull) ∷ []) (miss_causes z room c own_block))

  -- ---- loads

  abbrev pub load_to : ℕ → Stepped
  load_to tag = record {
    answer = Accepted;
    cache = loaded (fetched z c own_block) tag place
        (cell_of (fetched z c own_block) own_block place).word
        (found (fetched z c own_block) own_block place);
    sent = fetches z c own_block;
  }

  pub load_by : (tag : ℕ) (a b k : Bool) (o : Option Cause) → not (nat_lt at z.words) ≡ a → is_in_use c tag ≡ b → owes_all ≡ k
      → load_last ≡ o → load_step z room c tag at ≡ unless (load_tests a b k o) c (load_to tag)
  unfolding load_step load_cause
  load_by tag a b k o e f g h = cc (e, f, g, h)

  pub load_absent : (cause : Cause) → absence ≡ Some cause → load_last ≡ Some cause
  load_absent cause e = grind arith

  -- a load of a block that is present or was brought in, by whether four loads wait for its word
  abbrev pub load_on : ℕ → Bool → Stepped
  load_on tag full = record {
    answer = load_answer full;
    cache = load_present (fetched z c own_block) tag own_block place full;
    sent = fetches z c own_block;
  }

  pub load_decided : (tag : ℕ) → Inside → is_in_use c tag ≡ false → owes_all ≡ false → absence ≡ None
      → load_step z room c tag at ≡ load_on tag is_full
  load_decided tag e k l n = load_by tag _ _ _ _ e k l refl ∙ rest (is_present c own_block) refl n
    where
      rest : (b : Bool) → is_present c own_block ≡ b → absence ≡ None → unless load_last c (load_to tag) ≡ load_on tag is_full
      rest b p n = grind (arith, present_fetched, present_fetches)

  -- ---- stores

  abbrev pub store_to : Word → Lanes → Stepped
  store_to word lanes = record {
    answer = Accepted;
    cache = written (fetched z c own_block) own_block place word lanes;
    sent = fetches z c own_block;
  }

  pub store_by : (word : Word) (lanes : Lanes) (a b : Bool) (o : Option Cause) → not (nat_lt at z.words) ≡ a → not (has_any lanes) ≡ b
      → absence ≡ o → store_step z room c at word lanes ≡ unless (store_tests a b o) c (store_to word lanes)
  unfolding store_step store_cause
  store_by word lanes a b o e f g = cc (e, f, g)

  -- ---- prefetches

  abbrev pub prefetch_to : Stepped
  prefetch_to = record { answer = Accepted; cache = fetched z c own_block; sent = fetches z c own_block }

  pub prefetch_by : (o : Option Cause) (b : Bool) → not (nat_lt at z.words) ≡ b → absence ≡ o
      → prefetch_step z room c at ≡ unless (cond b (Some OutOfRange) o) c prefetch_to
  unfolding prefetch_step prefetch_cause
  prefetch_by o b e m = cc (e, m)

-- ---- What each step of a sound unit makes of the forms.

pub each_step : EachStepMakesForms
each_step z c h = record {
  request = λ room asked. request_forms z room c h asked;
  evict = λ block. evict_forms z c h block;
  drain = λ room. drain_forms z room c;
  arrive = λ slot i word. arrive_forms z c slot i word;
  process = λ place. process_forms z c h place;
  take = λ place. take_forms z c h place;
}
