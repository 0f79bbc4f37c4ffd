-- The reads of a block, on their way to the banks.
use Rattle.std.proofs.Common.{◌≡◌, ℕ, suc, zero, ◌+◌, ◌<◌, ◌≤◌, Bool, true, false, cond, [], ◌∷◌, ◌++◌, length, refl, sym, ◌∙◌, arith}
use Rattle.std.proofs.Common.{length-append, ◌≢◌, ◌%◌, ◌/◌, ◌==◌, ◌⊎◌, inl, inr, List, append_assoc, append-nil, eq-eqb, ltb-false, mod-lt}
use Rattle.std.specs.List.{filter, list_any, range_with_len}
use Rattle.std.proofs.lemmas.Bool.{false_from_ne_true, false≢true, cases_eq, cases_lt}
use Rattle.std.proofs.lemmas.List.Elements.{filter-append}
use Rattle.std.proofs.lemmas.List.Folds.{list_any_at, list_any_none}
use Rattle.std.proofs.lemmas.List.FromFn.{length-range_with_len, get_or-range_with_len, map-range_with_len_more}
use Rattle.flat_model.proofs.Numbers.{range_more}
use Rattle.memory_banks.specs.declared.Command.{Command}
use Rattle.memory_banks.specs.declared.Command.TheVariants.{Read}
use Rattle.memory_banks.specs.Banks.{HasSent, commands_for}
use Rattle.cache_law.specs.Reads.{block_reads, is_short}
use Rattle.cache_directory.proofs.Finds.{range_within}

-- ---- Tests and counts over the numbers from one on.

-- one more number is counted where it passes the test
pub count_more : (p : ℕ → Bool) (a n : ℕ) (b : Bool) → p (a + n) ≡ b
    → length (filter p (range_with_len a (n + 1))) ≡ length (filter p (range_with_len a n)) + (cond b 1 0)
count_more p a n b e = grind (arith, range_more, filter-append, length-append)

-- one number settles whether some number passes
pub any_found : (p : ℕ → Bool) (n k : ℕ) → k < n → p k ≡ true → list_any p (range_with_len 0 n) ≡ true
any_found p n k h e =
    grind (arith, length-range_with_len, get_or-range_with_len, list_any_at p (range_with_len 0 n) k 0)

-- no number below n passes
pub none_found : (p : ℕ → Bool) (n : ℕ) → ((k : ℕ) → k < n → p k ≡ false) → list_any p (range_with_len 0 n) ≡ false
none_found p n h = list_any_none p _ (range_within _ 0 n (λ x l m. h x (omega arith)))

-- fewer numbers have no more that pass
pub count_within : (p : ℕ → Bool) (a k n : ℕ) → k ≤ n → length (filter p (range_with_len a k)) ≤ length (filter p (range_with_len a n))
count_within p a zero n h = omega arith
count_within p a (suc k) zero h = absurd (omega arith)
count_within p a (suc k) (suc n) h = grind (arith, count_within p (a + 1) k n)

-- where none of the numbers passes, one of them doesn't
pub fails_each : (p : ℕ → Bool) (n k : ℕ) → k < n → list_any p (range_with_len 0 n) ≡ false → p k ≡ false
fails_each p n k h e = false_from_ne_true _ (λ q. false≢true (sym e ∙ any_found p n k h q))

-- a test that fails at every number counts none
pub count_none : (p : ℕ → Bool) (a n : ℕ) → ((k : ℕ) → p k ≡ false) → length (filter p (range_with_len a n)) ≡ 0
count_none p a zero h = refl
count_none p a (suc n) h = cc (h a, count_none p (a + 1) n h)

-- ---- Commands on their way to banks.

pub commands_for-append : (b : ℕ) (xs ys : List (ℕ × Command)) → commands_for b (xs ++ ys) ≡ commands_for b xs ++ commands_for b ys
commands_for-append b [] ys = refl
commands_for-append b (x ∷ xs) ys = grind (arith, commands_for-append b xs ys)

-- a bank is sent a read for each word of the block that it has
pub length-commands_for-block_reads : (b slot first words banks n : ℕ) → length (commands_for b (block_reads slot first words banks n))
    ≡ length (filter (λ at. at % banks == b) (range_with_len first n))
length-commands_for-block_reads b slot first words banks zero = refl
length-commands_for-block_reads b slot first words banks (suc n) =
    grind (arith, length-commands_for-block_reads b slot (first + 1) words banks n)

-- nothing is sent yet
pub HasSent-none : {L : Type 0} (sent_to : L → ℕ → List Command) (room_of : L → ℕ → ℕ) (same : L → L → Type 0) (a : L) → same a a
    → HasSent sent_to room_of same a a []
HasSent-none sent_to room_of same a s = grind (arith, append-nil)

-- one more command is sent
pub HasSent-more : {L : Type 0} (sent_to : L → ℕ → List Command) (room_of : L → ℕ → ℕ) (same : L → L → Type 0) (a m n : L)
    (sent : List (ℕ × Command)) (bank : ℕ) (c : Command) → same a n → HasSent sent_to room_of same a m sent
    → sent_to n bank ≡ sent_to m bank ++ c ∷ [] → room_of n bank + 1 ≡ room_of m bank
    → ((b : ℕ) → b ≢ bank → (sent_to n b ≡ sent_to m b) × (room_of n b ≡ room_of m b))
    → HasSent sent_to room_of same a n (sent ++ (bank, c) ∷ [])
HasSent-more {L} sent_to room_of same a m n sent bank c s h to room others = record {
  kept = s;
  queued = λ b. grind (arith, cases_eq, commands_for-append, eq-eqb, append_assoc, append-nil, h.queued);
  rooms = λ b. grind (arith, cases_eq, commands_for-append, eq-eqb, append-nil, length-append, h.rooms);
}

-- a bank still has room for the next read, where it had room for all of them
pub room_for_next : {L : Type 0} (sent_to : L → ℕ → List Command) (room_of : L → ℕ → ℕ) (same : L → L → Type 0) (a m : L)
    (slot first words banks k : ℕ) → k < words → length (commands_for ((first + k) % banks)
    (block_reads slot first words banks words)) ≤ room_of a ((first + k) % banks)
    → HasSent sent_to room_of same a m (block_reads slot first words banks k) → 0 < room_of m ((first + k) % banks)
room_for_next sent_to room_of same a m slot first words banks k h r s =
    let b = (first + k) % banks in
    let next = count_more (λ at. (at % banks) == b) first k true (eq-eqb b b refl) in
    let within = count_within (λ at. (at % banks) == b) first (k + 1) words (omega arith) in
    omega (arith, length-commands_for-block_reads b slot first words banks, s.rooms b)

-- the next read
pub block_reads_more : (slot first words banks k : ℕ) → block_reads slot first words banks (k + 1) ≡ block_reads slot first words banks k
    ++ ((first + k) % banks, Read slot ((first + k) % words) ((first + k) / banks)) ∷ []
block_reads_more slot first words banks k = map-range_with_len_more _ first k _ refl

-- where no bank is short, each has room for its reads; and a bank that isn't there is sent none
pub room_for_all : (room : ℕ → ℕ) (slot first words banks : ℕ) → 0 < banks
    → list_any (is_short room first words banks) (range_with_len 0 banks) ≡ false → (b : ℕ)
    → length (commands_for b (block_reads slot first words banks words)) ≤ room b
room_for_all room slot first words banks some e b =
    rw (sym (length-commands_for-block_reads b slot first words banks words)) at (go (cases_lt b banks))
  where
    go : (b < banks) ⊎ (banks ≤ b) → length (filter (λ at. at % banks == b) (range_with_len first words)) ≤ room b
    go (inl l) = ltb-false _ _ (fails_each _ banks b l e)
    go (inr g) = grind (arith, count_none, mod-lt)
