-- Each step of a sound unit leaves it sound.
use Rattle.std.proofs.Common.{◌≡◌, ℕ, ◌+◌, ◌*◌, ◌/◌, ◌%◌, ◌<◌, ◌≤◌, Bool, true, false, cond, nat_lt, List, [], ◌∷◌, length, Option, Some}
use Rattle.std.proofs.Common.{None, is_none, slice_get, drop, refl, ap, sym, ◌∙◌, arith, ltb-true, mod-lt}
use Rattle.std.proofs.lemmas.Bool.{leb-false}
use Rattle.std.proofs.lemmas.Option.{slice_get_within}
use Rattle.flat_model.specs.declared.Word.{Word}
use Rattle.flat_model.specs.declared.Cause.{Cause}
use Rattle.flat_model.specs.declared.Cause.TheVariants.{BankFull}
use Rattle.flat_model.specs.declared.Answer.TheVariants.{Moved, Refused}
use Rattle.memory_banks.specs.declared.Command.TheVariants.{Write}
use Rattle.input_stack.specs.declared.Entry.{Entry}
use Rattle.write_queue.specs.declared.Queued.{Queued}
use Rattle.cache_law.specs.declared.Reply.{Reply}
use Rattle.cache_law.specs.declared.Request.{Request}
use Rattle.cache_law.specs.declared.Request.TheVariants.{Load, Store, Prefetch}
use Rattle.cache_law.specs.declared.Sizes.{Sizes}
use Rattle.cache_law.specs.State.{Cache, frame_of, is_present, free_slot, field_at, block_of, place_in, tags}
use Rattle.cache_law.specs.Causes.{choose, Found, Here, Coming, found, targets_full, is_in_use, lacks_places, load_cause, store_cause}
use Rattle.cache_law.specs.Causes.{prefetch_cause, evict_cause, arrive_cause}
use Rattle.cache_law.specs.Steps.{Stepped, unless, fetched, loaded, evicted_from, drain_first, process_entry, take_reply, request_step}
use Rattle.cache_law.specs.Steps.{load_step, store_step, prefetch_step, evict_step, drain_step, arrive_step, process_step, take_step}
use Rattle.cache_law.specs.Miss.{MayTake}
use Rattle.cache_law.specs.Requests.{absence_cause, is_full_for}
use Rattle.cache_law.specs.Sound.{IsSound}
use Rattle.cache_law.specs.UnitForms.{EachStepKeeps}
use Rattle.cache_law.proofs.Choosing.{choose_none}
use Rattle.cache_law.proofs.Choosing.{takes_from, register-test, absent_frame, IsSound-given_up, given_up-shown, words-shown}
use Rattle.cache_law.proofs.Fetching.{fetched-shown, IsSound-missed, IsSound-ready, IsSound-drained}
use Rattle.cache_law.proofs.Keeps.{owes-remove, Taken-from, IsSound-processed, shown_after}
use Rattle.cache_law.proofs.Present.{IsSound-arrived, arrived-shown, stray-shown, IsSound-awaited, IsSound-stored, can_await}
use Rattle.cache_law.proofs.Requesting.{missing, present_fetched, tags_kept, targets_kept}
use Rattle.cache_law.proofs.Tags.{owes-added, owing-push, owing-awaited, not_waiting}

-- a refusal changes nothing
unless-kept : (z : Sizes) (c : Cache) (o : Option Cause) (s : Stepped) → IsSound z c → (o ≡ None → IsSound z s.cache)
    → IsSound z (unless o c s).cache
unless-kept z c (Some cause) s h k = h
unless-kept z c None s h k = k refl

-- ---- requests

-- a block is in memory where one of its words is
pub lies_in : (z : Sizes) → 0 < z.block_words → z.words % z.block_words ≡ 0 → (at : ℕ) → at < z.words
    → block_of z at * z.block_words + z.block_words ≤ z.words
lies_in z some whole at l = grind arith

pub fetch-kept : (z : Sizes) (room : ℕ → ℕ) (c : Cache) (block : ℕ) → IsSound z c → block * z.block_words + z.block_words ≤ z.words
    → absence_cause z room c block ≡ None → IsSound z (fetched z c block)
fetch-kept z room c block h small none = go _ refl
  where
    miss : is_present c block ≡ false → (o : Option ℕ) → choose z c block ≡ o → is_none o ≡ false → (s : Option ℕ) → free_slot c ≡ s
        → is_none s ≡ false → IsSound z (fetched z c block)
    miss e None ef p s es q = cc
    miss e (Some f) ef p None es q = cc
    miss e (Some f) ef p (Some slot) es q =
        let may : MayTake z room c block f slot = record { no_cause = rw e at none; chosen = ef; free = es } in
        let t = takes_from z c h room block f slot may in
        rw (fetched-shown z c block f slot e ef es) at (IsSound-missed z c block f slot h t.there t.of_set t.idle (absent_frame c block e)
        t.register t.free small t.queue)

    go : (b : Bool) → is_present c block ≡ b → IsSound z (fetched z c block)
    go true e = rw (sym (present_fetched z c block e)) at h
    go false e =
        let able = missing z room c block [] none e in
        miss e _ refl (choose_none z c h block ∙ able.1) _ refl
        (sym (register-test c z.regs h.registers.registers_there) ∙ able.0)

loaded-kept : (z : Sizes) (c : Cache) (tag block i : ℕ) (buffer : Word) → IsSound z c → i < z.block_words → is_in_use c tag ≡ false
    → length (tags c) < z.replies → targets_full c i (found c block i) ≡ false → IsSound z (loaded c tag i buffer (found c block i))
loaded-kept z c tag block i buffer h there new room few = go _ refl few
  where
    go : (o : Found) → found c block i ≡ o → targets_full c i o ≡ false → IsSound z (loaded c tag i buffer o)
    go (Here w) e few =
        IsSound-ready z c _ (owes-added z c c.registers _ tag h new room (λ p. owing-push p c.ready c.registers (record {
          tag = tag;
          word = w;
        }))) h
    go (Coming slot) e few =
        let can = can_await z c h block i slot there e in
        IsSound-awaited z c slot i _ can.slot_there can.live can.expected (leb-false _ _ few) (not_waiting c tag h.registers new)
        (owes-added z c _ c.ready tag h new room (λ p. owing-awaited p c.ready c.registers slot i _ can.slot_there can.there)) h

request-kept : (z : Sizes) (room : ℕ → ℕ) (c : Cache) → IsSound z c → (asked : Request) → IsSound z (request_step z room c asked).cache
unfolding load_step store_step prefetch_step load_cause store_cause prefetch_cause
request-kept z room c h (Load tag at) = unless-kept z c (load_cause z room c tag at) _ h (λ e.
    let block = block_of z at in
    let small = lies_in z h.some_words h.whole_blocks at (grind (arith, ltb-true)) in
    let none : absence_cause z room c block ≡ None = grind arith in
    let full : is_full_for c block (place_in z at) ≡ false = grind arith in
    let same = tags_kept z room c block h none in
    let few = targets_kept z room c block h none (place_in z at) full in
    loaded-kept z (fetched z c block) tag block (place_in z at) _ (fetch-kept z room c block h small none) (mod-lt at h.some_words)
    (grind arith) (grind (arith, leb-false)) few)
request-kept z room c h (Store at word lanes) = unless-kept z c (store_cause z room c at lanes) _ h (λ e.
    let small = lies_in z h.some_words h.whole_blocks at (grind (arith, ltb-true)) in
    IsSound-stored z _ (block_of z at) (place_in z at) word lanes (mod-lt at h.some_words)
    (fetch-kept z room c (block_of z at) h small (grind arith)))
request-kept z room c h (Prefetch at) = unless-kept z c (prefetch_cause z room c at) _ h (λ e.
    fetch-kept z room c (block_of z at) h (lies_in z h.some_words h.whole_blocks at (grind (arith, ltb-true))) (grind arith))

-- ---- the other events

evict-kept : (z : Sizes) (c : Cache) → IsSound z c → (block : ℕ) → IsSound z (evict_step z c block).cache
unfolding evict_step evict_cause
evict-kept z c h block = unless-kept z c (evict_cause z c block) _ h (λ e. gone _ refl (grind arith))
  where
    gone : (o : Option ℕ) → frame_of c block ≡ o → lacks_places z c o ≡ false → IsSound z (evicted_from z c block o)
    gone None e room = h
    gone (Some f) e room = rw (given_up-shown z c h block f e) at (IsSound-given_up z c h block f e (grind (
      arith,
      words-shown z c h block f
          e,
    )))

drain-kept : (z : Sizes) (room : ℕ → ℕ) (c : Cache) → IsSound z c → IsSound z (drain_step z room c).cache
unfolding drain_step
drain-kept z room c h = go _ refl
  where
    go : (queue : List Queued) → c.queue ≡ queue → IsSound z (drain_first z room c queue).cache
    go [] e = h
    go (q ∷ rest) e = sent (nat_lt 0 (room (q.at % z.banks)))
      where
        sent : (b : Bool) → IsSound z (cond {A = Stepped} b (record {
          answer = Moved;
          cache = record c { queue = rest };
          sent = (q.at % z.banks, Write (q.at / z.banks) q.word q.lanes) ∷ [];
        }) (record { answer = Refused BankFull; cache = c; sent = [] })).cache
        sent true = rw (ap (drop 1) e) at (IsSound-drained z c h)
        sent false = h

arrive-kept : (z : Sizes) (c : Cache) → IsSound z c → (slot i : ℕ) (word : Word) → IsSound z (arrive_step z c slot i word).cache
unfolding arrive_step arrive_cause
arrive-kept z c h slot i word = unless-kept z c (arrive_cause z c slot i) _ h (λ e.
    rw (arrived-shown c slot i word) at (IsSound-arrived z c (record { slot = slot; i = i; word = word }) h (grind (
      arith,
      stray-shown z c
          slot i h,
    ))))

process-kept : (z : Sizes) (c : Cache) → IsSound z c → (place : ℕ) → IsSound z (process_step c place).cache
unfolding process_step
process-kept z c h place = go _ refl
  where
    go : (o : Option Entry) → slice_get c.stack place ≡ o → IsSound z (process_entry c place o).cache
    go None e = h
    go (Some x) e =
        let t = Taken-from c.stack place x e in
        rw (shown_after z c h place x t) at (IsSound-processed z c h place x t (field_at c x.slot x.i).code)

take-kept : (z : Sizes) (c : Cache) → IsSound z c → (place : ℕ) → IsSound z (take_step c place).cache
unfolding take_step
take-kept z c h place = go _ refl
  where
    go : (o : Option Reply) → slice_get c.ready place ≡ o → IsSound z (take_reply c place o).cache
    go None e = h
    go (Some r) e = IsSound-ready z c _ (owes-remove z c.ready c.registers place r (slice_get_within c.ready place r e) h.owes) h

pub each_step_keeps : EachStepKeeps
each_step_keeps z c h = record {
  request = λ room asked. request-kept z room c h asked;
  evict = λ block. evict-kept z c h block;
  drain = λ room. drain-kept z room c h;
  arrive = λ slot i word. arrive-kept z c h slot i word;
  process = λ place. process-kept z c h place;
  take = λ place. take-kept z c h place;
}
