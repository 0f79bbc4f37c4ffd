-- A row of banks, and one of them changed.
use Rattle.std.proofs.Common.{◌≡◌, ℕ, zero, suc, ◌<◌, ◌≤◌, List, [], ◌∷◌, length, get_or, set, refl, sym, ap, ◌∙◌, subst, length-set}
use Rattle.std.proofs.lemmas.List.{get_or_default}
use Rattle.flat_model.specs.declared.limits.TheConstants.{MAX_BANKS}
use Rattle.memory_banks.specs.Banks.{Bank, no_bank, bank_at}
use Rattle.memory_banks.specs.Memory.{Memory, IsMemory, with_banks, share_length}

-- what is so of the changed bank, and of each bank before, is so of each bank after
pub bank_at-set : (P : Bank → Type 0) (banks : List Bank) (b : ℕ) (y : Bank) (k : ℕ) → (k ≡ b → P y) → P (bank_at banks k)
    → P (bank_at (set banks b y) k)
bank_at-set P [] b y k here there = there
bank_at-set P (x ∷ xs) zero y zero here there = here refl
bank_at-set P (x ∷ xs) zero y (suc k) here there = there
bank_at-set P (x ∷ xs) (suc b) y zero here there = there
bank_at-set P (x ∷ xs) (suc b) y (suc k) here there = bank_at-set P xs b y k (λ e. here (ap suc e)) there

-- a bank that is there, whatever is read where there is none
pub bank_there : (banks : List Bank) (b : ℕ) (x : Bank) → b < length banks → x ≡ get_or banks b x → x ≡ bank_at banks b
bank_there banks b x h e = e ∙ get_or_default banks b x no_bank h

-- a bank that keeps its words, and whose queue is in its limit, keeps the memory
pub kept_memory : (m : Memory) (b : ℕ) (y : Bank) → IsMemory m → length y.words ≡ length (bank_at m.banks b).words
    → length y.queue ≤ m.limit → IsMemory (with_banks m (set m.banks b y))
kept_memory m b y h ew eq =
    let number = length-set _ b y in
    record {
      some_words = h.some_words;
      most_words = h.most_words;
      some_banks = subst (λ n. 1 ≤ n) (sym number) h.some_banks;
      most_banks = subst (λ n. n ≤ MAX_BANKS) (sym number) h.most_banks;
      some_queue = h.some_queue;
      most_queue = h.most_queue;
      spread = λ k l. (cc (spread k (subst (λ n. k < n) number l), number));
      within = λ k. bank_at-set (λ x. length x.queue ≤ m.limit) _ b y k (λ e. eq) (h.within k);
    }
  where
    spread : (k : ℕ) → k < length m.banks → length (bank_at (set m.banks b y) k).words ≡ share_length m.words (length m.banks) k
    spread k l =
        bank_at-set (λ x. length x.words ≡ share_length m.words (length m.banks) k) _ b y k (λ e. (cc (ew, e, h.spread k l))) (h.spread k l)
