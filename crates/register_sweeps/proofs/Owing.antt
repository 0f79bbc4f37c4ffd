-- The tags that flat memory owes a word, as a list.
use Rattle.std.proofs.Common.{◌≡◌, ℕ, suc, Bool, true, false, cond, ◌||◌, ◌==◌, List, [], ◌∷◌, length, Option, Some, None, is_some, is_none}
use Rattle.std.proofs.Common.{refl, sym, ◌∙◌, arith}
use Rattle.std.proofs.lemmas.Grind.{common_steps}
use Rattle.machine_core.specs.Words.{Word}
use Rattle.flat_model.specs.Flat.{with_due}

abbrev pub has : ℕ → List ℕ → Bool
has t [] = false
has t (u ∷ us) = (u == t) || has t us

abbrev pub Differ : List ℕ → Type 0
Differ [] = Unit {0}
Differ (t ∷ ts) = (has t ts ≡ false) × Differ ts

-- these tags, each once, are owed a word, and no others
pub record Owing (due : ℕ → Option Word) (tags : List ℕ) : Type 0 where
  pub apart : Differ tags
  pub owed : (t : ℕ) → is_some (due t) ≡ has t tags

-- a tag more is owed
pub owe : (due : ℕ → Option Word) (tags : List ℕ) (tag : ℕ) (w : Word) → Owing due tags → is_none (due tag) ≡ true
    → Owing (with_due due tag (Some w)) (tag ∷ tags)
owe due tags tag w h free = grind arith

abbrev without : ℕ → List ℕ → List ℕ
without t [] = []
without t (u ∷ us) = cond (u == t) us (u ∷ without t us)

fewer : (t : ℕ) (ts : List ℕ) → has t ts ≡ true → suc (length (without t ts)) ≡ length ts
fewer t [] h = cc
fewer t (u ∷ us) h = grind (arith, fewer t us)

others : (t s : ℕ) (ts : List ℕ) → (s == t) ≡ false → has s (without t ts) ≡ has s ts
others t s [] h = refl
others t s (u ∷ us) h = grind (arith, common_steps, others t s us h)

gone : (t : ℕ) (ts : List ℕ) → Differ ts → has t (without t ts) ≡ false
gone t [] h = refl
gone t (u ∷ us) h = grind (arith, common_steps, gone t us h.1)

still : (t : ℕ) (ts : List ℕ) → Differ ts → Differ (without t ts)
still t [] h = tt
still t (u ∷ us) h = grind (arith, common_steps, still t us h.1, others t u us)

-- an owed tag is paid
pub pay : (due : ℕ → Option Word) (tags : List ℕ) (tag : ℕ) → Owing due tags → is_some (due tag) ≡ true → (left : List ℕ) ×
    Owing (with_due due tag None) left × (suc (length left) ≡ length tags)
pay due tags tag h owed = (
  without tag tags,
  record { apart = still tag tags h.apart; owed = λ t. grind (arith, common_steps, h.owed t, gone tag tags h.apart, others tag t tags) },
  fewer tag tags (sym (h.owed tag) ∙ owed),
)

-- where nothing is owed, no tag is
pub all_paid : (due : ℕ → Option Word) (tags : List ℕ) → Owing due tags → ((t : ℕ) → is_some (due t) ≡ false) → length tags ≡ 0
all_paid due [] h none = refl
all_paid due (t ∷ ts) h none = grind arith
