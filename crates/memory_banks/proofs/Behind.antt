-- Commands that are served behind others.
use Rattle.std.proofs.Common.{◌≡◌, List, [], ◌∷◌, ◌++◌, refl, ap}
use Rattle.flat_model.specs.declared.Word.{Word}
use Rattle.flat_model.specs.Flat.{stored, word_at}
use Rattle.memory_banks.specs.declared.Command.{Command}
use Rattle.memory_banks.specs.declared.Command.TheVariants.{Read, Write}
use Rattle.memory_banks.specs.Banks.{after, answers_to}

pub after-append : (words : List Word) (xs ys : List Command) → after words (xs ++ ys) ≡ after (after words xs) ys
after-append words [] ys = refl
after-append words (Read slot i place ∷ xs) ys = after-append words xs ys
after-append words (Write place word lanes ∷ xs) ys = after-append (stored words place word lanes) xs ys

pub answers_to-append : (words : List Word) (xs ys : List Command)
    → answers_to words (xs ++ ys) ≡ answers_to words xs ++ answers_to (after words xs) ys
answers_to-append words [] ys = refl
answers_to-append words (Read slot i place ∷ xs) ys =
    ap (λ l. record { slot = slot; i = i; word = word_at words place } ∷ l) (answers_to-append words xs ys)
answers_to-append words (Write place word lanes ∷ xs) ys = answers_to-append (stored words place word lanes) xs ys
