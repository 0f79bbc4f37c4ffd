-- Commands that are sent to banks.
use Rattle.std.proofs.Common.{◌≡◌, ℕ, zero, suc, ◌+◌, ◌<◌, ◌≤◌, List, [], ◌∷◌, ◌++◌, map, length, None, refl, arith, zero-add, ◌≢◌}
use Rattle.std.proofs.Common.{cond, set, get_or, sym, ap, ◌∙◌, subst, append-nil, append_assoc, length-append, length-set, ext_get_or}
use Rattle.std.proofs.Common.{eq-eqb, ⊎_elim, drop, Some, slice_get}
use Rattle.std.specs.List.{range_with_len}
use Rattle.std.proofs.lemmas.List.FromFn.{map-range_with_len_more, length-map-range_with_len, get_or-map-range_with_len}
use Rattle.flat_model.specs.declared.limits.TheConstants.{MAX_MEMORY, MAX_BANKS, MAX_BANK_QUEUE}
use Rattle.flat_model.specs.declared.Word.{Word}
use Rattle.flat_model.specs.declared.Shape.{Shape}
use Rattle.memory_banks.specs.Banks.{Bank, bank_at, share_of, opening_banks, no_bank, with_command, room_in, commands_for, all_sent}
use Rattle.memory_banks.specs.Banks.{HasSent, after, answers_to, words_after, pending, served}
use Rattle.memory_banks.specs.Memory.{Memory, IsMemory, share_length, bad_field, SameButQueues, serve_bank}
use Rattle.std.proofs.lemmas.Bool.{cases_eq, ne_eqb}
use Rattle.std.proofs.lemmas.List.{get_or-set_same, get_or-set_other}
use Rattle.memory_banks.specs.declared.Command.{Command}
use Rattle.memory_banks.proofs.Places.{bank_at-set, bank_there, kept_memory}
use Rattle.memory_banks.specs.declared.Command.TheVariants.{Read, Write}
use Rattle.memory_banks.specs.declared.BankAnswer.{BankAnswer}

-- ---- Lists that are made from the front, one element after another, and the banks that they make.

pub one_more : {X : Type 0} (f : ℕ → X) (k : ℕ) (xs more : List X) → xs ≡ map f (range_with_len 0 k) → more ≡ xs ++ f k ∷ []
    → more ≡ map f (range_with_len 0 (k + 1))
one_more f k xs more so_far e = grind (arith, map-range_with_len_more, zero-add)

-- a bank of an image
abbrev pub opening_bank : List Word → ℕ → ℕ → Bank
opening_bank image n b = record { words = share_of image n b; queue = []; answers = [] }

pub one_more_bank : (image : List Word) (n b : ℕ) (made more : List Bank) (bank : Bank)
    → made ≡ map (opening_bank image n) (range_with_len 0 b) → bank ≡ opening_bank image n b → more ≡ made ++ bank ∷ []
    → more ≡ map (opening_bank image n) (range_with_len 0 (b + 1))
one_more_bank image n b made more bank so_far is e = grind (arith, one_more)

no_queue : (g : ℕ → Bank) (ks : List ℕ) (k : ℕ) → ((j : ℕ) → (g j).queue ≡ []) → (bank_at (map g ks) k).queue ≡ []
no_queue g [] k h = refl
no_queue g (j ∷ ks) zero h = h j
no_queue g (j ∷ ks) (suc k) h = no_queue g ks k h

pub opening-spread : (image : List Word) (n b : ℕ) → b < n → length (bank_at (opening_banks image n) b).words
    ≡ share_length (length image) n b
opening-spread image n b h = grind (arith, get_or-map-range_with_len, zero-add, length-map-range_with_len)

-- what a shape with no bad number gives
pub record InRange (image : ℕ) (shape : Shape) : Type 0 where
  pub some_words : 1 ≤ shape.words
  pub most_words : shape.words ≤ MAX_MEMORY
  pub some_banks : 1 ≤ shape.banks
  pub most_banks : shape.banks ≤ MAX_BANKS
  pub some_queue : 1 ≤ shape.bank_queue
  pub most_queue : shape.bank_queue ≤ MAX_BANK_QUEUE
  pub image_fits : image ≡ shape.words

pub in_range : (image : ℕ) (shape : Shape) → bad_field image shape ≡ None → InRange image shape
in_range image shape e = grind arith

-- banks that have just been made
pub made_memory : (image : List Word) (shape : Shape) (banks : List Bank) → InRange (length image) shape
    → banks ≡ opening_banks image shape.banks → (let m : Memory = record { words = shape.words; limit = shape.bank_queue; banks = banks } in
    IsMemory m)
made_memory image shape banks r e = grind (arith, length-map-range_with_len, shape.words, opening-spread, shape.banks, no_queue)

-- a bank that has room is there, and its queue is below the limit
pub room_there : (limit : ℕ) (banks : List Bank) (b : ℕ) → 0 < room_in limit banks b → (b < length banks) ×
    (length (bank_at banks b).queue < limit)
room_there limit banks b h = grind arith

-- a bank with these commands after its own
abbrev pub extended : Bank → List Command → Bank
extended b commands = record { words = b.words; queue = b.queue ++ commands; answers = b.answers }

pub with_command-is : (b : Bank) (command : Command) → with_command b command ≡ extended b (command ∷ [])
unfolding with_command
with_command-is b command = refl

-- ---- one command

module _ (limit : ℕ) (banks : List Bank) (b : ℕ) (command : Command) (x y : Bank) (room : 0 < room_in limit banks b)
    (at : b < length banks → x ≡ get_or banks b x) (e : y ≡ with_command x command) where
  here : b < length banks
  here = grind arith

  sent_there : y ≡ extended (bank_at banks b) (command ∷ [])
  sent_there = grind (arith, with_command-is, bank_there, here)

  pub sent-memory : (words : ℕ) → (let m : Memory = record { words = words; limit = limit; banks = banks } in IsMemory m)
      → (let m : Memory = record { words = words; limit = limit; banks = set banks b y } in IsMemory m)
  sent-memory words h =
      let m : Memory = record { words = words; limit = limit; banks = banks } in
      let below = (room_there limit banks b room).1 in
      let more = length-append (bank_at banks b).queue (command ∷ []) in
      let queue : length _ ≤ limit = omega arith in
      kept_memory m b y h (ap (λ (z : Bank). length z.words) sent_there)
      (subst (λ (z : Bank). length z.queue ≤ limit) (sym sent_there) queue)

  pub sent-same : (words : ℕ) → (let m : Memory = record { words = words; limit = limit; banks = banks } in
      let n : Memory = record { words = words; limit = limit; banks = set banks b y } in SameButQueues m n)
  sent-same words = record {
    words = refl;
    limit = refl;
    number = length-set banks b y;
    contents = λ k. bank_at-set (λ z. z.words ≡ (bank_at banks k).words) banks b y k (λ q. (cc (sent_there, q))) refl;
    answers = λ k. bank_at-set (λ z. z.answers ≡ (bank_at banks k).answers) banks b y k (λ q. (cc (sent_there, q))) refl;
  }

  pub sent-queue : (bank_at (set banks b y) b).queue ≡ (bank_at banks b).queue ++ command ∷ []
  sent-queue = grind (arith, get_or-set_same, here, sent_there)

  pub sent-room : room_in limit (set banks b y) b + 1 ≡ room_in limit banks b
  sent-room = grind (arith, room_there, sent-queue, length-append, length-set)

-- ---- several commands

pub all_sent-length : (banks : List Bank) (sent : List (ℕ × Command)) → length (all_sent banks sent) ≡ length banks
all_sent-length banks [] = refl
all_sent-length banks (c ∷ rest) = all_sent-length (set banks c.0 _) rest ∙ length-set banks c.0 _

-- each bank gets its own commands
pub all_sent-at : (banks : List Bank) (sent : List (ℕ × Command)) (k : ℕ) → k < length banks
    → bank_at (all_sent banks sent) k ≡ extended (bank_at banks k) (commands_for k sent)
all_sent-at banks [] k h = grind (arith, append-nil)
all_sent-at banks (c ∷ rest) k h =
    all_sent-at next rest k (subst (λ n. k < n) (sym (length-set banks c.0 _)) h) ∙ ⊎_elim same other (cases_eq c.0 k)
  where
    next : List Bank
    next = set banks c.0 (with_command (bank_at banks c.0) c.1)

    same : c.0 ≡ k → extended (bank_at next k) (commands_for k rest) ≡ extended (bank_at banks k) (commands_for k (c ∷ rest))
    same q =
        let y = with_command _ c.1 in
        let there = ap (λ j. bank_at next j) (sym q) ∙ get_or-set_same banks c.0 y no_bank (subst (λ n. n < length banks) (sym q) h)
        ∙ with_command-is (bank_at banks c.0) c.1 ∙ ap (λ j. extended (bank_at banks j) (c.1 ∷ [])) q in
        let tested = ap (λ t. cond t (c.1 ∷ commands_for k rest) (commands_for k rest)) (eq-eqb c.0 k q) in
        cc (there, append_assoc (bank_at banks k).queue _ _, tested)

    other : c.0 ≢ k → extended (bank_at next k) (commands_for k rest) ≡ extended (bank_at banks k) (commands_for k (c ∷ rest))
    other q =
        let apart : k ≢ c.0 = λ r. q (sym r) in
        let there = get_or-set_other banks c.0 k (with_command _ c.1) no_bank apart in
        let tested = ap (λ t. cond t (c.1 ∷ commands_for k rest) (commands_for k rest)) (ne_eqb c.0 k q) in
        ap (λ (z : Bank). extended z (commands_for k rest)) there ∙ ap (extended _) (sym tested)

-- banks that have been sent these commands are the banks with all of them sent
pub banks_sent : (old new : Memory) (sent : List (ℕ × Command))
    → HasSent (λ (m : Memory) b. (bank_at m.banks b).queue) (λ (m : Memory) b. room_in m.limit m.banks b) SameButQueues old new sent
    → new.banks ≡ all_sent old.banks sent
banks_sent old new sent h = ext_get_or no_bank new.banks _ (h.kept.number ∙ sym (all_sent-length old.banks sent))
    (λ k l. each k (subst (λ n. k < n) h.kept.number l))
  where
    each : (k : ℕ) → k < length old.banks → bank_at new.banks k ≡ bank_at (all_sent old.banks sent) k
    each k l =
        let now : bank_at new.banks k ≡ extended (bank_at old.banks k) (commands_for k sent) =
        λ i. record { words = h.kept.contents k i; queue = h.queued k i; answers = h.kept.answers k i } in
        now ∙ sym (all_sent-at old.banks sent k l)

-- ---- A bank that serves its first command.

-- the parts of a bank after a serve, where its queue was not empty
pub first_served : (words now_words : List Word) (queue : List Command) (answers now_answers : List BankAnswer) (b : Bank) (first : Command)
    → record { words = words; queue = queue; answers = answers } ≡ b → Some first ≡ slice_get queue 0 → now_words ≡ after words (first ∷ [])
    → now_answers ≡ answers ++ answers_to words (first ∷ []) → record { words = now_words; queue = drop 1 queue; answers = now_answers }
    ≡ serve_bank b b.queue
unfolding served
first_served words now_words [] answers now_answers b first is front ew ea = cc
first_served words now_words (x ∷ rest) answers now_answers b first is front ew ea = grind arith

-- a serve changes neither what the words will be nor what is pending

pub serve-words_after : (b : Bank) → words_after (serve_bank b b.queue) ≡ words_after b
unfolding served
serve-words_after b = grind arith

pub serve-pending : (b : Bank) → pending (serve_bank b b.queue) ≡ pending b
unfolding served
serve-pending b = go b.words b.queue b.answers
  where
    go : (words : List Word) (queue : List Command) (answers : List BankAnswer)
        → pending (serve_bank (record { words = words; queue = queue; answers = answers }) queue) ≡ answers ++ answers_to words queue
    go words [] answers = refl
    go words (Read slot i place ∷ rest) answers = append_assoc answers _ _
    go words (Write place word lanes ∷ rest) answers = ap (λ l. l ++ answers_to _ rest) (append-nil answers)

-- nor how many words there are, and the queue doesn't grow

pub serve-length : (b : Bank) → length (serve_bank b b.queue).words ≡ length b.words
unfolding served
serve-length b = grind (arith, b.words, b.queue, length-set)

pub serve-queue : (b : Bank) → length (serve_bank b b.queue).queue ≤ length b.queue
unfolding served
serve-queue b = grind arith

-- the same of a row of banks, of which bank b has served

module _ (banks : List Bank) (b : ℕ) (x y : Bank) (here : b < length banks) (at : x ≡ get_or banks b x) (e : y ≡ serve_bank x x.queue) where
  served_there : y ≡ serve_bank (bank_at banks b) (bank_at banks b).queue
  served_there = grind (arith, bank_there)

  pub served-words_after : (k : ℕ) → words_after (bank_at (set banks b y) k) ≡ words_after (bank_at banks k)
  served-words_after k = bank_at-set (λ z. words_after z ≡ words_after (bank_at banks k)) banks b y k
      (λ q. (cc (ap words_after served_there, serve-words_after (bank_at banks b), q))) refl

  pub served-pending : (k : ℕ) → pending (bank_at (set banks b y) k) ≡ pending (bank_at banks k)
  served-pending k = bank_at-set (λ z. pending z ≡ pending (bank_at banks k)) banks b y k
      (λ q. (cc (ap pending served_there, serve-pending (bank_at banks b), q))) refl

  pub served-memory : (words limit : ℕ) → (let m : Memory = record { words = words; limit = limit; banks = banks } in IsMemory m)
      → (let m : Memory = record { words = words; limit = limit; banks = set banks b y } in IsMemory m)
  served-memory words limit h =
      let m : Memory = record { words = words; limit = limit; banks = banks } in
      let old = bank_at banks b in
      let shorter = serve-queue old in
      let within = h.within b in
      let queue : length (serve_bank old old.queue).queue ≤ limit = omega arith in
      kept_memory m b y h (cc (served_there, serve-length old)) (subst (λ (z : Bank). length z.queue ≤ limit) (sym served_there) queue)
